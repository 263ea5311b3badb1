use Rattle.std.proofs.Common.{length}
use Rattle.case_files.proofs.telling.tell_answer.Given as goal

abbrev pub decreases-loop-line : goal.decreases-loop-line
decreases-loop-line l = length l.rest
