use Rattle.std.proofs.Common.{length}
use Rattle.hamr_cli.proofs.TraceReading.{ReadsLines}
use Rattle.hamr_cli.proofs.trace.reader.read_trace.Given as goal

abbrev pub invariant-loop-rest : goal.invariant-loop-rest
invariant-loop-rest l = ReadsLines l.arch l.bytes l.lines l.rest

abbrev pub decreases-loop-rest : goal.decreases-loop-rest
decreases-loop-rest l = length l.rest
