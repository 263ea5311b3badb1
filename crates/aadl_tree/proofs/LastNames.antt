-- The last of a name and others, and what stands before it.
use Rattle.std.proofs.Common.{◌≡◌, ℕ, List, [], ◌∷◌, ◌++◌, length, refl, ap, ◌∙◌}
use Rattle.aadl_tree.specs.References.{last_of, without_last}

pub last_only : (n : List ℕ) (ms : List (List ℕ)) → ms ≡ [] → last_of n ms ≡ n
last_only n ms none = ap (last_of n) none

pub without_only : (n : List ℕ) (ms : List (List ℕ)) → ms ≡ [] → without_last n ms ≡ []
without_only n ms none = ap (without_last n) none

pushed : (n m : List ℕ) (ms : List (List ℕ)) → last_of n (ms ++ m ∷ []) ≡ m
pushed n m [] = refl
pushed n m (k ∷ ks) = pushed k m ks

pub last_pushed : (n m : List ℕ) (ms all : List (List ℕ)) → all ≡ ms ++ m ∷ [] → last_of n all ≡ m
last_pushed n m ms all is = ap (last_of n) is ∙ pushed n m ms

left : (n m : List ℕ) (ms : List (List ℕ)) → without_last n (ms ++ m ∷ []) ≡ n ∷ ms
left n m [] = refl
left n m (k ∷ ks) = ap (λ (xs : List (List ℕ)). n ∷ xs) (left k m ks)

pub without_pushed : (n m : List ℕ) (ms all : List (List ℕ)) → all ≡ ms ++ m ∷ [] → without_last n all ≡ n ∷ ms
without_pushed n m ms all is = ap (without_last n) is ∙ left n m ms
