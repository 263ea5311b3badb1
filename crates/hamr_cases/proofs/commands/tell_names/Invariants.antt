use Rattle.std.proofs.Common.{length}
use Rattle.hamr_cases.proofs.commands.tell_names.Given as goal

abbrev pub decreases-loop-file : goal.decreases-loop-file
decreases-loop-file l = length l.rest
