use Rattle.std.proofs.Common.{◌<◌, Some, List, ℤ, length, get_or, ap, refl, ◌∙◌, arith}
use Rattle.rts_rules.proofs.Changes.{agree-next}
use Rattle.rts_rules.proofs.queue.WaitingQueue.offers.Goals as goal

pub loop-place-preserved : goal.loop-place-preserved
loop-place-preserved c =
    let items = c.args.items.now in
    let inside : c.loop-place.place < length items = omega (arith, ap length c.rows-item-items.ensures) in
    agree-next items c.args.self.now.items c.loop-place.place c.item-item.result c.loop-place.invariant inside
    (c.item-item.is ∙ ap (λ (xs : List (List ℤ)). get_or xs c.loop-place.place c.item-item.result) c.rows-item-items.ensures)
    (c.if-not-has_at.ensures.0 refl ∙ ap Some c.rows.ensures)
