-- Loops that see whether all members pass.
use Rattle.std.proofs.Common.{◌≡◌, ◌≤◌, ◌<◌, ◌↔◌, ℕ, ◌+◌, true, false, List, length, take, get_or, All, sym, subst, refl}
use Rattle.std.proofs.lemmas.List.{take_all}
use Rattle.std.proofs.lemmas.List.Elements.{All-more, All-get_or}
use Rattle.std.proofs.lemmas.Bool.{false≢true}

module _ {X : Type 0} (P : X → Type 0) where
  pub all-more : (xs : List X) (i : ℕ) (x : X) → i < length xs → x ≡ get_or xs i x → All P (take i xs) → P x → All P (take (i + 1) xs)
  all-more xs i x within is before here = All-more P xs i x within before (subst P is here)

  pub all-fails : (xs : List X) (i : ℕ) (x : X) → i < length xs → x ≡ get_or xs i x → (P x → ⊥) → (false ≡ true) ↔ All P xs
  all-fails xs i x within is fails = (λ e. absurd (false≢true e), λ all. absurd (fails (subst P (sym is) (All-get_or P xs i x within all))))

  pub all-whole : (xs : List X) (i : ℕ) → length xs ≤ i → All P (take i xs) → (true ≡ true) ↔ All P xs
  all-whole xs i past before = (λ _. subst (All P) (take_all i xs past) before, λ _. refl)
