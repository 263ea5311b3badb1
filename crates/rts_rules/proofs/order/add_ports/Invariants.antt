use Rattle.std.proofs.Common.{◌≡◌, ◌++◌, drop}
use Rattle.arch_model.specs.Usage.{ports_used, ports_from}
use Rattle.rts_rules.specs.Services.{is_wanted}
use Rattle.rts_rules.proofs.order.add_ports.Given as goal

abbrev pub invariant-loop-number : goal.invariant-loop-number
invariant-loop-number l =
    l.ports ++ ports_from l.number l.arch.links l.who (is_wanted l.sampled) (drop l.number l.arch.ports) ≡ l.fn.ports ++ ports_used l.arch l.who (is_wanted l.sampled)
