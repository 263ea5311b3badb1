-- The last of a list that passes a test, while the list is gone through, and lists of names.
use Rattle.std.proofs.Common.{◌≡◌, ◌≢◌, ℕ, suc, min, Bool, false, List, [], ◌∷◌, length, drop, Option, Some, None, refl, ap, arith}
use Rattle.std.specs.Cmp.Lexicographic.{pointwise}
use Rattle.std.specs.Str.{bytes_eq}
use Rattle.std.proofs.lemmas.Bool.{and_right}
use Rattle.aadl_tree.specs.declared.association.Association.{Association}
use Rattle.aadl_names.specs.Meanings.{first_there}
use Rattle.aadl_names.specs.Counting.{if_that}

pub last_later : (rest here before : Option Association) → first_there rest (first_there here before) ≡ first_there (first_there rest here) before
last_later None here before = refl
last_later (Some x) here before = refl

pub last_step : (rest before : Option Association) (passes : Bool) (a : Association) →
    first_there rest (first_there (if_that passes a) before) ≡ first_there (first_there rest (if_that passes a)) before
last_step rest before passes a = last_later rest (if_that passes a) before

pub other_lengths : (xs ys : List (List ℕ)) → length xs ≢ length ys → pointwise bytes_eq xs ys ≡ false
other_lengths [] [] other = absurd (other refl)
other_lengths [] (y ∷ ys) other = refl
other_lengths (x ∷ xs) [] other = refl
other_lengths (x ∷ xs) (y ∷ ys) other = and_right (bytes_eq x y) (pointwise bytes_eq xs ys) (other_lengths xs ys (λ same. other (ap suc same)))

pub drop_least : (xs : List (List ℕ)) → drop (min (length xs) 1) xs ≡ drop 1 xs
drop_least [] = refl
drop_least (x ∷ xs) = let one : min (length (x ∷ xs)) 1 ≡ 1 = omega arith in ap (λ (n : ℕ). drop n (x ∷ xs)) one
