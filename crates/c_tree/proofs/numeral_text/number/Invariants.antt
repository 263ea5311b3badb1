use Rattle.std.proofs.Common.{◌≡◌, ◌<◌, drop}
use Rattle.c_tree.specs.Numerals.{number_from}
use Rattle.c_tree.proofs.numeral_text.number.Given as goal

abbrev pub invariant-loop-byte : goal.invariant-loop-byte
invariant-loop-byte l = record {
  same : number_from l.class l.number (drop l.byte-index l.bytes) ≡ number_from l.class 0 l.bytes;
  small : l.number < 18446744073709551616;
}
