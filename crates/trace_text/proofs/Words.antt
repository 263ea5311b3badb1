-- Words by their numbers.
use Rattle.std.proofs.Common.{◌≡◌, ℕ, ℤ, pos, negsuc, zero, suc, ◌≤◌, List, [], ◌∷◌, length, None, refl, ap, arith}
use Rattle.std.specs.Prelude.{◌<ℤ◌, ◌≤ℤ◌}
use Rattle.std.specs.List.{slice_get}
use Rattle.std.specs.Option.{option_map_or}
use Rattle.std.proofs.lemmas.Int.{ints}
use Rattle.trace_text.specs.Pieces.{word_at}

pub word-below : (words : List (List ℕ)) (z : ℤ) → z <ℤ pos 0 → word_at words z ≡ []
word-below words (pos n) h = absurd (omega (arith, ints, h))
word-below words (negsuc n) h = refl

beyond : {X : Type 0} (xs : List X) (k : ℕ) → length xs ≤ k → slice_get xs k ≡ None
beyond [] k h = refl
beyond (x ∷ xs) zero h = absurd (omega (arith, h))
beyond (x ∷ xs) (suc k) h = beyond xs k (omega (arith, h))

pub word-above : (words : List (List ℕ)) (z : ℤ) → pos (length words) ≤ℤ z → word_at words z ≡ []
word-above words (pos n) h = ap (λ o. option_map_or (λ (w : List ℕ). w) o []) (beyond words n (omega (arith, ints, h)))
word-above words (negsuc n) h = refl
