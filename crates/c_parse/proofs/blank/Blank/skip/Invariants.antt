use Rattle.std.proofs.Common.{◌≡◌, ◌≤◌, [], length}
use Rattle.c_parse.specs.Blanks.{skipped_from}
use Rattle.c_parse.proofs.blank.Blank.skip.Given as goal

abbrev pub invariant-loop-first : goal.invariant-loop-first
invariant-loop-first l = record {
  same : skipped_from l.blank l.start l.rest ≡ skipped_from l.fn.self [] l.bytes;
  within : length l.rest ≤ length l.bytes;
  start_within : length l.start ≤ length l.bytes;
}

abbrev pub decreases-loop-first : goal.decreases-loop-first
decreases-loop-first l = length l.rest
