use Rattle.std.proofs.Common.{◌≡◌, ◌-◌, ◌++◌, length}
use Rattle.hw_types.specs.Value.{zeros}
use Rattle.hw_types.proofs.bytes.pad.Given as goal

abbrev pub invariant-loop-at : goal.invariant-loop-at
invariant-loop-at l = l.bytes ++ zeros (l.end - l._at) ≡ l.initial.bytes ++ zeros (l.end - length l.initial.bytes)
