use Rattle.std.proofs.Common.{◌≡◌, ◌++◌, drop}
use Rattle.rts_rules.specs.Services.{slots_from}
use Rattle.rts_rules.proofs.slots.Slots.opening.Given as goal

abbrev pub invariant-loop-number : goal.invariant-loop-number
invariant-loop-number l =
    l.slots.items ++ slots_from l.number l.arch l.who (drop l.number l.arch.ports) ≡ slots_from 0 l.arch l.who l.arch.ports
