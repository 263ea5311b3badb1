use Rattle.std.proofs.Common.{◌≡◌, drop}
use Rattle.rts_rules.specs.Thread.{next_sent}
use Rattle.rts_rules.proofs.slots.Slots.sends_none.Given as goal

abbrev pub invariant-loop-slot : goal.invariant-loop-slot
invariant-loop-slot l = next_sent (drop l.slot-index l.self) ≡ next_sent l.self
