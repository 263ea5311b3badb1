use Rattle.std.proofs.Common.{◌≡◌, ◌≤◌, false, length}
use Rattle.hw_text.specs.Text.{skipped_from}
use Rattle.hw_text.proofs.blank.skipped.Given as goal

abbrev pub invariant-loop-first : goal.invariant-loop-first
invariant-loop-first l = record {
  same : skipped_from l.in_comment l.rest ≡ skipped_from false l.bytes;
  within : length l.rest ≤ length l.bytes;
}

abbrev pub decreases-loop-first : goal.decreases-loop-first
decreases-loop-first l = length l.rest
