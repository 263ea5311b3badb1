use Rattle.std.proofs.Common.{◌≡◌, drop}
use Rattle.hamr_cli.specs.TraceNumber.{number_from}
use Rattle.hamr_cli.proofs.trace.numbers.digits_of.Given as goal

abbrev pub invariant-loop-byte : goal.invariant-loop-byte
invariant-loop-byte l = number_from l.number (drop l.byte-index l.word) ≡ number_from 0 l.word
