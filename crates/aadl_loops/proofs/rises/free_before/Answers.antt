use Rattle.aadl_loops.proofs.Falls.{none_returns}
use Rattle.aadl_loops.proofs.rises.free_before.Goals as goal

pub returns-clause-free : goal.returns-clause-free
returns-clause-free c =
    none_returns c.args.edges.now c.args.labels.now c.loop-row.free c.loop-row.row c.loop-row-test.false c.loop-row.invariant.within c.loop-row.invariant.level c.loop-row.invariant.rises
