use Rattle.std.proofs.Common.{length}
use Rattle.hamr_cli.proofs.TraceReading.{ReadsValues}
use Rattle.hamr_cli.proofs.trace.values.read_values.Given as goal

abbrev pub invariant-loop-after : goal.invariant-loop-after
invariant-loop-after l = ReadsValues l.bytes l.values l.rest

abbrev pub decreases-loop-after : goal.decreases-loop-after
decreases-loop-after l = length l.rest
