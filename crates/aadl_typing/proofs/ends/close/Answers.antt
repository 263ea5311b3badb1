use Rattle.std.proofs.Common.{get_or, inr, refl, arith}
use Rattle.std.proofs.lemmas.Option.{slice_get-get_or, slice_get_within}
use Rattle.aadl_typing.proofs.Marking.{closed_more}
use Rattle.aadl_typing.proofs.ends.close.Goals as goal

pub loop-number-init : goal.loop-number-init
loop-number-init c = record { long = refl; closed = λ k x above below is. absurd (omega arith); others = λ x. inr refl }

pub loop-number-preserved : goal.loop-number-preserved
loop-number-preserved c =
    closed_more c.args.path.now c.args.place c.loop-number.number c.args.marks.now.items c.loop-number.marks.items _ (get_or c.args.path.now c.loop-number.number 0)
    c.loop-number.invariant c.loop-number.auto.number (slice_get-get_or c.args.path.now c.loop-number.number 0 c.loop-number-test.true) c.set_mark.ensures

pub returns-clause-closed : goal.returns-clause-closed
returns-clause-closed c = λ k x above is.
    c.loop-number.invariant.closed k x above (let inside = slice_get_within c.args.path.now k x is in let past = c.loop-number-test.false in omega arith) is
