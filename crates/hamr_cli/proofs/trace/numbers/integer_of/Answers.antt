use Rattle.std.proofs.Common.{◌≡◌, ◌∙◌, suc, sym, ap, Some, arith}
use Rattle.std.proofs.lemmas.Int.{ints}
use Rattle.hamr_cli.proofs.TraceIntegers.{behind-minus}
use Rattle.hamr_cli.proofs.trace.numbers.integer_of.Goals as goal

pub returns-in_err-number-in-Some-clause-only : goal.returns-in_err-number-in-Some-clause-only
returns-in_err-number-in-Some-clause-only c = λ z h e.
    let n = behind-minus z _ h (sym c.in-Some.ensures.found ∙ e) in
    absurd (let no = c.in_err-number-in-Some.ensures.only (suc n.below) (omega (arith, n.small)) n.text in cc)

pub returns-then-number-eq-UNSIGNED-clause-only : goal.returns-then-number-eq-UNSIGNED-clause-only
returns-then-number-eq-UNSIGNED-clause-only c = λ z h e.
    let n = behind-minus z _ h (sym c.in-Some.ensures.found ∙ e) in
    let some = c.in_ok-number-in-Some.ensures.only (suc n.below) (omega (arith, n.small)) n.text in
    let same : c.in_ok-number-in-Some.number ≡ suc n.below = cc in
    absurd (omega (arith, same, n.small, c.then-number-eq-UNSIGNED.either))

pub returns-else-number-gt-INTEGER_32_END-clause-only : goal.returns-else-number-gt-INTEGER_32_END-clause-only
returns-else-number-gt-INTEGER_32_END-clause-only c = λ z h e.
    let n = behind-minus z _ h (sym c.in-Some.ensures.found ∙ e) in
    let some = c.in_ok-number-in-Some.ensures.only (suc n.below) (omega (arith, n.small)) n.text in
    let same : c.in_ok-number-in-Some.number ≡ suc n.below = cc in
    ap Some (omega (arith, ints, same, n.is, n.small))
