-- What waits is the end of what arrived.
use Rattle.std.proofs.Common.{◌≡◌, ℕ, ℤ, ◌-◌, true, false, Bool, List, [], ◌∷◌, ◌++◌, length, take, drop, refl, ap, sym, ◌∙◌, append_assoc, subst, if◌then◌else◌}
use Rattle.std.proofs.lemmas.List.{append-nil, take-append-drop}
use Rattle.rts_rules.specs.Queue.{Queue, appended, taken, offered}
use Rattle.rts_laws.specs.Parts.{AtPort, Arrives, Leaves, IsQueueRun}
use Rattle.rts_laws.specs.Arrivals.{arrived, LeaveInOrder}
use Rattle.rts_laws.proofs.Places.{behind}

Values : Type 0
Values = List (List ℤ)

record EndsAs (all : List (List ℤ)) (items : List (List ℤ)) : Type 0 where
  gone : List (List ℤ)
  are : all ≡ gone ++ items

-- the end of an end
dropped : (n : ℕ) (all items : List (List ℤ)) → EndsAs all items → EndsAs all (drop n items)
dropped n all items ends = record {
  gone = ends.gone ++ take n items;
  are = ends.are ∙ ap (λ (xs : List (List ℤ)). ends.gone ++ xs) (sym (take-append-drop n items)) ∙ sym (append_assoc ends.gone (take n items) (drop n items));
}

more : (all items : List (List ℤ)) (value : List ℤ) → EndsAs all items → EndsAs (all ++ value ∷ []) (items ++ value ∷ [])
more all items value ends = record {
  gone = ends.gone;
  are = ap (λ (xs : List (List ℤ)). xs ++ value ∷ []) ends.are ∙ append_assoc ends.gone items (value ∷ []);
}

none : (all items : List (List ℤ)) → EndsAs all items → EndsAs all []
none all items ends = record { gone = all; are = sym (append-nil all) }

left : (whole : Bool) (all items : List (List ℤ)) → EndsAs all items → EndsAs all (if whole then [] else drop 1 items)
left true all items ends = none all items ends
left false all items ends = dropped 1 all items ends

waits : (done : List AtPort) (queue : Queue) (all : List (List ℤ)) → EndsAs all queue.items → EndsAs (all ++ arrived done) (behind done queue).items
waits [] queue all ends = subst (λ (xs : List (List ℤ)). EndsAs xs queue.items) (sym (append-nil all)) ends
waits (Arrives value ∷ later) queue all ends =
    subst (λ (xs : List (List ℤ)). EndsAs xs (behind later (appended queue value)).items) (append_assoc all (value ∷ []) (arrived later))
    (waits later (appended queue value) (all ++ value ∷ [])
    (dropped (length (queue.items ++ value ∷ []) - queue.room) (all ++ value ∷ []) (queue.items ++ value ∷ []) (more all queue.items value ends)))
waits (Leaves items ∷ later) queue all ends = waits later (taken queue) all (left queue.whole all queue.items ends)

whole-behind : (done : List AtPort) (queue : Queue) → (behind done queue).whole ≡ queue.whole
whole-behind [] queue = refl
whole-behind (Arrives value ∷ later) queue = whole-behind later (appended queue value)
whole-behind (Leaves items ∷ later) queue = whole-behind later (taken queue)

leaves : (before later : List AtPort) (items : List (List ℤ)) (queue : Queue) → IsQueueRun queue (before ++ Leaves items ∷ later) → items ≡ offered (behind before queue)
leaves [] later items queue run = run.0.all
leaves (Arrives value ∷ before) later items queue run = leaves before later items (appended queue value) run
leaves (Leaves other ∷ before) later items queue run = leaves before later items (taken queue) run.1

split-offer : (whole : Bool) (queue : Queue) (before : List AtPort) (waiting items : List (List ℤ)) → queue.whole ≡ whole → EndsAs (arrived before) waiting →
    items ≡ (if whole then waiting else take 1 waiting) → LeaveInOrder queue before items
split-offer true queue before waiting items whole ends is = record {
  gone = ends.gone;
  newer = [];
  all = ends.are ∙ ap (λ (xs : List (List ℤ)). ends.gone ++ xs) (sym is ∙ sym (append-nil items));
  newest = λ _. refl;
}
split-offer false queue before waiting items whole ends is = record {
  gone = ends.gone;
  newer = drop 1 waiting;
  all = ends.are ∙ ap (λ (xs : List (List ℤ)). ends.gone ++ xs) (sym (take-append-drop 1 waiting) ∙ ap (λ (xs : List (List ℤ)). xs ++ drop 1 waiting) (sym is));
  newest = λ all. absurd (cc);
}

pub in-order : (queue : Queue) (before later : List AtPort) (items : List (List ℤ)) → queue.items ≡ [] → IsQueueRun queue (before ++ Leaves items ∷ later) →
    LeaveInOrder queue before items
in-order queue before later items empty run =
    let ends : EndsAs (arrived before) (behind before queue).items = waits before queue [] (record { gone = []; are = sym empty }) in
    split-offer (behind before queue).whole queue before (behind before queue).items items (sym (whole-behind before queue)) ends (leaves before later items queue run)
