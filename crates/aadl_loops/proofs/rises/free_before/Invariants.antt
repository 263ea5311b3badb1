use Rattle.std.proofs.Common.{ℕ, ◌≤◌, ◌<◌, length}
use Rattle.std.specs.List.{Contains}
use Rattle.aadl_loops.specs.Loops.{leads_of}
use Rattle.aadl_loops.specs.Labels.{label_at}
use Rattle.aadl_loops.proofs.rises.free_before.Given as goal

abbrev pub invariant-loop-row : goal.invariant-loop-row
invariant-loop-row l = record {
  within : l.free ≤ length l.edges;
  level : (k : ℕ) → k < l.row → (b : ℕ) → Contains (leads_of l.edges k) b → label_at l.labels k ≤ label_at l.labels b;
  rises : (k : ℕ) → k < l.row → k < l.free → (b : ℕ) → Contains (leads_of l.edges k) b → label_at l.labels k < label_at l.labels b;
}
