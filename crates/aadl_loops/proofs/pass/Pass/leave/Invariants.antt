use Rattle.std.proofs.Common.{length}
use Rattle.aadl_loops.proofs.pass.Pass.leave.Given as goal

abbrev pub decreases-loop-row : goal.decreases-loop-row
decreases-loop-row l = length l.self.open.items
