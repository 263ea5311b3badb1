use Rattle.std.proofs.Common.{List, ◌++◌, drop, ap, ◌∙◌}
use Rattle.arch_model.specs.declared.id.PortId.{PortId}
use Rattle.arch_model.specs.Usage.{ports_used, ports_from}
use Rattle.rts_rules.specs.Services.{is_wanted}
use Rattle.rts_rules.proofs.Openings.{ports-grow, ports-stay}
use Rattle.rts_rules.proofs.order.add_ports.Goals as goal
use Rattle.rts_rules.proofs.order.add_ports.Goals.{then-is_at+in_ok-push, else-is_at}

pub loop-number-preserved : goal.loop-number-preserved
loop-number-preserved c =
    let arch = c.args.arch.now in
    let passes = is_wanted c.args.sampled in
    let whole = c.args.ports.now ++ ports_used arch c.args.who passes in
    elim c.if-is_at.branch [
      | then-is_at+in_ok-push w ↦ ports-grow arch.links c.args.who passes arch.ports c.loop-number.number c.is_at.result c.loop-number.ports c.if-is_at.ports whole
          c.loop-number.invariant c.is_at.ensures w.if-is_at.true (w.ports-is ∙ w.in_ok-push.ensures.ok)
      | else-is_at w ↦ ports-stay arch.links c.args.who passes arch.ports c.loop-number.number c.is_at.result c.if-is_at.ports whole
          (ap (λ (ports : List PortId). ports ++ ports_from c.loop-number.number arch.links c.args.who passes (drop c.loop-number.number arch.ports)) w.ports-is ∙ c.loop-number.invariant) c.is_at.ensures w.if-is_at.false
    ]
