-- Lists whose members differ, and names that are the same.
use Rattle.std.proofs.Common.{◌≡◌, ℕ, suc, true, false, List, ◌∷◌, Some, inl, inr, arith}
use Rattle.std.specs.Prelude.{AllPairs, slice_get}
use Rattle.std.specs.Str.{bytes_eq}
use Rattle.std.proofs.lemmas.Bool.{cases_Bool}
use Rattle.std.proofs.lemmas.Option.{get_or_from_slice_get, slice_get_within}
use Rattle.std.proofs.lemmas.Slice.Eq.{bytes_eq-Decides}

pub AllPairs-tail : {X : Type 0} (R : X → X → Type 0) (x : X) (xs : List X) → AllPairs R (x ∷ xs) → AllPairs R xs
AllPairs-tail R x xs all = λ i j d before inside. all (suc i) (suc j) d (omega arith) (omega arith)

pub AllPairs-head : {X : Type 0} (R : X → X → Type 0) (x : X) (xs : List X) (k : ℕ) (y : X) → AllPairs R (x ∷ xs) → slice_get xs k ≡ Some y → R x y
AllPairs-head R x xs k y all e =
    let inside = slice_get_within xs k y e in
    let pair = all 0 (suc k) x (omega arith) (omega arith) in
    rw (← get_or_from_slice_get xs k y x e) pair

pub same_names : (a b : List ℕ) → bytes_eq a b ≡ true → a ≡ b
same_names a b e = (bytes_eq-Decides a b).0 e

pub other_names : (a b : List ℕ) → (a ≡ b → ⊥) → bytes_eq a b ≡ false
other_names a b apart = elim (cases_Bool (bytes_eq a b)) [ inl equal ↦ absurd (apart (same_names a b equal)) | inr other ↦ other ]
