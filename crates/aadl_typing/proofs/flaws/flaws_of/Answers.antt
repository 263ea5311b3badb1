use Rattle.aadl_typing.proofs.Flawing.{are_flaws}
use Rattle.aadl_typing.proofs.flaws.flaws_of.Goals as goal

pub returns : goal.returns
returns c = are_flaws c.args.rows.now c.loop-open.flaws.items c.loop-open.invariant.sound (c.loop-open.invariant.done c.loop-open-test.false)
