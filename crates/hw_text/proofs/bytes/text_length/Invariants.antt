use Rattle.std.proofs.Common.{◌≡◌, ◌+◌, drop}
use Rattle.hw_text.specs.Text.{text_length}
use Rattle.hw_text.proofs.bytes.text_length.Given as goal

abbrev pub invariant-loop-byte : goal.invariant-loop-byte
invariant-loop-byte l = record {
  counted : l.count ≡ l.byte-index;
  same : l.count + text_length (drop l.byte-index l.bytes) ≡ text_length l.bytes;
}
