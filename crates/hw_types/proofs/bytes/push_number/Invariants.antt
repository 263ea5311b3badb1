use Rattle.std.proofs.Common.{◌≡◌, ◌-◌, ◌++◌}
use Rattle.hw_types.specs.Value.{bytes_of_number}
use Rattle.hw_types.proofs.bytes.push_number.Given as goal

abbrev pub invariant-loop-index : goal.invariant-loop-index
invariant-loop-index l = l.bytes ++ bytes_of_number (l.width - l._index) l.rest ≡ l.initial.bytes ++ bytes_of_number l.width l.number
