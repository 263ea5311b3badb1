use Rattle.std.proofs.Common.{◌≡◌, ◌++◌, take, drop}
use Rattle.rts_rules.specs.declared.slot.Slot.{Slot}
use Rattle.rts_rules.specs.Thread.{changed_slot}
use Rattle.rts_rules.proofs.slots.Slots.place.Given as goal

abbrev pub invariant-loop-place : goal.invariant-loop-place
invariant-loop-place l =
    (change : Slot → Slot) → changed_slot l.port change l.self ≡ take l.place l.self ++ changed_slot l.port change (drop l.place l.self)
