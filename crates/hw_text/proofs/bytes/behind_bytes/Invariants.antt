use Rattle.std.proofs.Common.{◌≡◌, ◌+◌, drop, length}
use Rattle.hw_text.specs.Text.{behind_bytes}
use Rattle.hw_text.proofs.bytes.behind_bytes.Given as goal

abbrev pub invariant-loop-byte : goal.invariant-loop-byte
invariant-loop-byte l = record {
  same : behind_bytes (drop l.byte-index l.begin) l.rest ≡ behind_bytes l.begin l.bytes;
  within : length l.rest + l.byte-index ≡ length l.bytes;
}
