use Rattle.std.proofs.Common.{arith}
use Rattle.hw_text.proofs.TextLemmas.{decimal_so_far}
use Rattle.hw_text.proofs.number.decimal.Goals as goal

pub returns-in_default : goal.returns-in_default
returns-in_default c = λ small.
    let below = decimal_so_far c.loop-digit.number c.loop-digit.digit-index c.args.digits.now c.loop-digit-test.true c.loop-digit.invariant.same in
    c.in_default.ensures (omega (arith, below, small))
