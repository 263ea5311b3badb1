use Rattle.std.proofs.Common.{length}
use Rattle.case_files.proofs.escapes.unescape.Given as goal

abbrev pub decreases-loop-first : goal.decreases-loop-first
decreases-loop-first l = length l.rest
