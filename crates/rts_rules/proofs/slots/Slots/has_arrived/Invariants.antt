use Rattle.std.proofs.Common.{◌≡◌, drop}
use Rattle.rts_rules.specs.Thread.{has_arrived}
use Rattle.rts_rules.proofs.slots.Slots.has_arrived.Given as goal

abbrev pub invariant-loop-slot : goal.invariant-loop-slot
invariant-loop-slot l = has_arrived (drop l.slot-index l.self) ≡ has_arrived l.self
