use Rattle.std.proofs.Common.{◌≡◌, ◌++◌, None, map, take, drop}
use Rattle.rts_rules.specs.Thread.{holding}
use Rattle.rts_rules.proofs.slots.Slots.clear.Given as goal

abbrev pub invariant-loop-place : goal.invariant-loop-place
invariant-loop-place l = l.self-inside.slots.items ≡ map (holding None) (take l.place l.fn.self) ++ drop l.place l.fn.self
