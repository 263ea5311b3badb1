use Rattle.std.proofs.Common.{◌≡◌, ◌<◌, ◌==◌, true, List, length, get_or, ap, sym, ◌∙◌, arith}
use Rattle.std.proofs.lemmas.Bool.Decides.{nat_tests}
use Rattle.rts_rules.specs.declared.slot.Slot.{Slot}
use Rattle.rts_rules.proofs.Changes.{place-found}
use Rattle.rts_rules.proofs.slots.Slots.place.Goals as goal

pub returns-then-eq-clause-changed : goal.returns-then-eq-clause-changed
returns-then-eq-clause-changed c = λ change d.
    let slots : c.deref-slot-items.result.now ≡ c.args.self.now = cc in
    let inside : c.loop-place.place < length c.args.self.now = omega (arith, ap length slots) in
    let test : (c.slot-item.result.port.0 == c.args.port.0) ≡ true = sym c.eq.ensures ∙ c.if-eq.true in
    let found : c.slot-item.result.port.0 ≡ c.args.port.0 = grind (arith, nat_tests) in
    c.loop-place.invariant change
    ∙ place-found c.args.self.now c.loop-place.place c.slot-item.result d c.args.port change inside
    (c.slot-item.is ∙ ap (λ (xs : List Slot). get_or xs c.loop-place.place c.slot-item.result) slots) found
