-- Open brackets, one token further.
use Rattle.std.proofs.Common.{◌≡◌, ◌<◌, ℕ, ◌+◌, List, [], ◌∷◌, ◌++◌, length, get_or, take, refl, sym, ap, ◌∙◌, add-one}
use Rattle.std.proofs.Math.Seq.{take-suc}
use Rattle.hw_text.specs.declared.placed.Placed.{Placed}
use Rattle.hw_reading.specs.declared.bracket.Bracket.{Bracket}
use Rattle.hw_reading.specs.Brackets.{open_behind_one, open_behind}

module _ {T : Type 0} (bracket : T → Bracket) where
  pub open-append : (n : ℕ) (xs ys : List (Placed T)) → open_behind bracket n (xs ++ ys) ≡ open_behind bracket (open_behind bracket n xs) ys
  open-append n [] ys = refl
  open-append n (x ∷ xs) ys = open-append (open_behind_one n (bracket x.token)) xs ys

  pub open-more : (ts : List (Placed T)) (i : ℕ) (t : Placed T) → i < length ts → t ≡ get_or ts i t → open_behind bracket 0 (take (i + 1) ts) ≡ open_behind_one (open_behind bracket 0 (take i ts)) (bracket t.token)
  open-more ts i t within here =
      ap (λ (n : ℕ). open_behind bracket 0 (take n ts)) (add-one i) ∙ ap (open_behind bracket 0) (take-suc ts i t within) ∙ open-append 0 (take i ts) (get_or ts i t ∷ []) ∙
      ap (λ (x : Placed T). open_behind_one (open_behind bracket 0 (take i ts)) (bracket x.token)) (sym here)
