use Rattle.std.proofs.Common.{◌≡◌, false, drop}
use Rattle.hw_text.specs.Name.{is_name_tail}
use Rattle.hw_text.proofs.name.is_tail.Given as goal

abbrev pub invariant-loop-byte : goal.invariant-loop-byte
invariant-loop-byte l = is_name_tail l.after_underscore (drop l.byte-index l.bytes) ≡ is_name_tail false l.bytes
