use Rattle.std.proofs.Common.{ℕ, ◌<◌}
use Rattle.aadl_loops.specs.Loops.{IsOnLoop}
use Rattle.aadl_loops.proofs.first.first_on_loop.Given as goal

abbrev pub invariant-loop-row : goal.invariant-loop-row
invariant-loop-row l = (k : ℕ) → k < l.row → IsOnLoop l.edges k → ⊥
