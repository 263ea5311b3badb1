use Rattle.std.proofs.Common.{◌≡◌, ◌+◌, drop}
use Rattle.aadl_tree.specs.Text.{quotable_length}
use Rattle.aadl_parse.proofs.quoted_text.quotable_length.Given as goal

abbrev pub invariant-loop-byte : goal.invariant-loop-byte
invariant-loop-byte l = record {
  counted : l.count ≡ l.byte-index;
  same : l.count + quotable_length (drop l.byte-index l.bytes) ≡ quotable_length l.bytes;
}
