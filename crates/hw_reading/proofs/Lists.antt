-- Lists of members, read behind those that were read before.
use Rattle.std.proofs.Common.{◌≡◌, ◌∙◌, refl, sym, ap, subst, Bool, List, [], ◌∷◌, ◌++◌, true, false, append-nil, append_assoc}
use Rattle.std.specs.Prelude.{Result, Err, IsErrAnd}
use Rattle.hw_text.specs.Language.{◌⋅◌, Each, Made}
use Rattle.hw_text.specs.Reading.{begins, Begins, BeginsWithout, Anything, Reached, Reads, Leaves}
use Rattle.hw_text.specs.declared.read_fault.ReadFault.{ReadFault}
use Rattle.hw_text.proofs.Reading.{rebuilt}
use Rattle.hw_reading.specs.Lists.{all_of, SomeOf}
use Rattle.hw_reading.proofs.Choices.{no_member, a_member, no_members, hand_on, same}
use Rattle.hw_reading.proofs.Steps.{opening, then, halt}

module _ {T X : Type 0} (A : X → List T → Type 0) (p : T → Bool) (is : Begins p true A) where
  abbrev pub Later : List X → List X → List T → Type 0
  Later earlier = Made (λ later. earlier ++ later) (Each A)

  abbrev pub Members : List X → List T → List T → List X → Type 0
  Members earlier before at read = Leaves (Later earlier) (BeginsWithout p) before at (λ later. read ++ later) (Each A)

  pub members_begun : (earlier : List X) (before : List T) → Members earlier before before earlier
  members_begun earlier before = opening (λ later. earlier ++ later) (Each A) (BeginsWithout p) before

  module _ (earlier : List X) (before at : List T) (read : List X) (so : Members earlier before at read) where
    pub members_read : begins p at ≡ false → Reached (Later earlier) (BeginsWithout p) before at read
    members_read not_there = subst (λ (l : List X). Reached (Later earlier) (BeginsWithout p) before at l) (append-nil read) (no_member p is not_there so)

    pub members_halt : begins p at ≡ true → (after : List T) (fault : ReadFault) (result : Result (List X) ReadFault) → IsErrAnd result (λ e. e ≡ fault) → Reads A Anything at after (Err fault) → Reads (Later earlier) (BeginsWithout p) before after result
    members_halt there after fault result failed part = halt A after fault result (a_member p there (λ m ends. ends) so) no_members failed part

    pub members_more : begins p at ≡ true → (after : List T) (x : X) (new : List X) → new ≡ read ++ x ∷ [] → Reached A Anything at after x → Members earlier before after new
    members_more there after x new is_new part =
        rebuilt (Later earlier) (BeginsWithout p) before after (λ later. read ++ (x ∷ later)) (λ later. new ++ later) (Each A)
        (λ later. sym (append_assoc read (x ∷ []) later) ∙ ap (λ (l : List X). l ++ later) (sym is_new)) (then (a_member p there (λ m ends. ends) so) part)

  -- all of them, where none were read before
  pub all_members : (earlier : List X) → earlier ≡ [] → (before after : List T) (result : Result (List X) ReadFault) → Reads (Later earlier) (BeginsWithout p) before after result → Reads (Each A) (BeginsWithout p) before after result
  all_members earlier none before after result so =
      same (Each A) (Later []) (BeginsWithout p) before after result (λ l w text. (l, refl, text)) (λ l w text. subst (λ (r : List X). Each A r w) (sym text.1) text.2) (λ m ends. ends)
      (subst (λ (e : List X). Reads (Later e) (BeginsWithout p) before after result) none so)

  some_opening : (before : List T) → Leaves (SomeOf A) (BeginsWithout p) before before all_of (A ⋅ Each A)
  some_opening before = opening all_of (A ⋅ Each A) (BeginsWithout p) before

  module _ (before at : List T) where
    pub some_halt : (fault : ReadFault) (result : Result (List X) ReadFault) → IsErrAnd result (λ e. e ≡ fault) → Reads A Anything before at (Err fault) → Reads (SomeOf A) (BeginsWithout p) before at result
    some_halt fault result failed part = halt A at fault result (some_opening before) no_members failed part

    pub some_read : (x : X) → Reached A Anything before at x → (earlier : List X) → earlier ≡ x ∷ [] → (after : List T) (result : Result (List X) ReadFault) → Reads (Later earlier) (BeginsWithout p) at after result → Reads (SomeOf A) (BeginsWithout p) before after result
    some_read x first earlier one after result rest =
        hand_on (Later (x ∷ [])) (BeginsWithout p) at after (λ (l : List X). l) result result (remade (then (some_opening before) first)) (λ m ends. ends) (λ l r. r) (λ e r. r)
        (subst (λ (e : List X). Reads (Later e) (BeginsWithout p) at after result) one rest)
      where
        remade : Leaves (SomeOf A) (BeginsWithout p) before at (λ (l : List X). x ∷ l) (Each A) → Leaves (SomeOf A) (BeginsWithout p) before at (λ (l : List X). l) (Later (x ∷ []))
        remade so = record {
          taken = so.taken;
          split = so.split;
          back = λ y v left. subst (λ z. SomeOf A z (so.taken ++ v)) (sym left.1) (so.back left.0 v left.2);
          forth = λ z v m n text follows agrees looked.
              let l = so.forth z v m n text follows agrees looked in
              (x ∷ l.0, l.1, l.2, (l.0, refl, l.3), l.4);
        }
