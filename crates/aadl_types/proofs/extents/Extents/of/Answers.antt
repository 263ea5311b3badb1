use Rattle.aadl_types.proofs.Complete.{answers}
use Rattle.aadl_types.proofs.extents.Extents.of.Goals as goal

pub returns : goal.returns
returns c = answers c.args.shapes.now c.loop-open.extents c.loop-open.invariant.right (c.loop-open.invariant.done c.loop-open-test.false)
