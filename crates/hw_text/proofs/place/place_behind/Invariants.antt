use Rattle.std.proofs.Common.{◌≡◌, drop}
use Rattle.hw_text.specs.Places.{place_behind}
use Rattle.hw_text.proofs.place.place_behind.Given as goal

abbrev pub invariant-loop-byte : goal.invariant-loop-byte
invariant-loop-byte l = place_behind l.place (drop l.byte-index l.bytes) ≡ place_behind l.fn.at l.bytes
