use Rattle.std.proofs.Common.{ℕ, ◌≤◌, ◌<◌, get_or}
use Rattle.aadl_loops.specs.Labels.{label_at}
use Rattle.aadl_loops.proofs.rises.lowest.Given as goal

abbrev pub invariant-loop-row : goal.invariant-loop-row
invariant-loop-row l = (k : ℕ) → k < l.row-index → l.lowest ≤ label_at l.labels (get_or l.rows k 0)
