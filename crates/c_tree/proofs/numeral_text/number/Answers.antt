use Rattle.std.proofs.Common.{arith, sym, ◌∙◌}
use Rattle.c_tree.proofs.Numbers.{number_so_far}
use Rattle.c_tree.proofs.numeral_text.number.Goals as goal

pub returns-in_default : goal.returns-in_default
returns-in_default c = λ small.
    let below = number_so_far c.args.class c.loop-byte.number c.loop-byte.byte-index c.args.bytes.now c.loop-byte-test.true
    (sym c.has.ensures ∙ c.if-not-has.false) c.loop-byte.invariant.same in
    c.in_default.ensures (omega (arith, below, small))
