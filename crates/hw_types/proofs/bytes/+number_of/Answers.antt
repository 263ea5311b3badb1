use Rattle.std.proofs.Common.{◌+◌, ◌*◌, ◌<◌, arith, rules}
use Rattle.hw_types.proofs.Numbers.{number-fits}
use Rattle.hw_types.specs.Value.{number_in}
use Rattle.hw_types.proofs.bytes.+number_of.Goals as goal

pub overflow_mul-result : goal.overflow_mul-result
overflow_mul-result t c =
    let small : c.in-Some.field-0-0.now + 256 * number_in c.in-Some.rest.now < 18446744073709551616 =
    number-fits c.in-Some.field-0-0.now c.args.bytes.now c.in-Some.rest.now (λ i. omega (arith, c.type_inv.bytes i)) c.in-Some.ensures.cases.0 c.requires in
    let mine : 256 * c.number_of.result < 18446744073709551616 = omega arith in
    search rules

pub overflow_add-result : goal.overflow_add-result
overflow_add-result t c =
    let small : c.in-Some.field-0-0.now + 256 * number_in c.in-Some.rest.now < 18446744073709551616 =
    number-fits c.in-Some.field-0-0.now c.args.bytes.now c.in-Some.rest.now (λ i. omega (arith, c.type_inv.bytes i)) c.in-Some.ensures.cases.0 c.requires in
    let mine : c.from.result + 256 * c.number_of.result < 18446744073709551616 = omega arith in
    search rules
