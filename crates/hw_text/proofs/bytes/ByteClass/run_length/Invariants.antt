use Rattle.std.proofs.Common.{◌≡◌, ◌+◌, length}
use Rattle.hw_text.specs.Text.{run_length}
use Rattle.hw_text.proofs.bytes.ByteClass.run_length.Given as goal

abbrev pub invariant-loop-first : goal.invariant-loop-first
invariant-loop-first l = record {
  same : l.count + run_length l.self l.rest ≡ run_length l.self l.bytes;
  within : l.count + length l.rest ≡ length l.bytes;
}

abbrev pub decreases-loop-first : goal.decreases-loop-first
decreases-loop-first l = length l.rest
