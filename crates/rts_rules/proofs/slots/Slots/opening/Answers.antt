use Rattle.std.proofs.Common.{◌++◌, drop, ap, ◌∙◌}
use Rattle.rts_rules.specs.Services.{slots_from}
use Rattle.rts_rules.proofs.Openings.{slots-grow, slots-stay}
use Rattle.rts_rules.proofs.slots.Slots.opening.Goals as goal
use Rattle.rts_rules.proofs.slots.Slots.opening.Goals.{then-is_owned+in_ok-opening+in_ok-push, else-is_owned}

pub loop-number-preserved : goal.loop-number-preserved
loop-number-preserved c =
    let arch = c.args.arch.now in
    let whole = slots_from 0 arch c.args.who arch.ports in
    elim c.if-is_owned.branch [
      | then-is_owned+in_ok-opening+in_ok-push w ↦ slots-grow arch c.args.who arch.ports c.loop-number.number c.is_owned.result w.in_ok-opening.field-0
          c.loop-number.slots.items c.if-is_owned.slots.items whole c.loop-number.invariant c.is_owned.ensures w.if-is_owned.true w.in_ok-opening.ensures
          (ap (λ slots. slots.items) w.slots-is ∙ w.in_ok-push.ensures.items)
      | else-is_owned w ↦ slots-stay arch c.args.who arch.ports c.loop-number.number c.is_owned.result c.if-is_owned.slots.items whole
          (ap (λ slots. slots.items ++ slots_from c.loop-number.number arch c.args.who (drop c.loop-number.number arch.ports)) w.slots-is ∙ c.loop-number.invariant)
          c.is_owned.ensures w.if-is_owned.false
    ]
