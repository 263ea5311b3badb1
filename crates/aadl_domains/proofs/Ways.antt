-- The element at a place in a list that is put together, and paths behind others.
use Rattle.std.proofs.Common.{◌≡◌, ℕ, zero, suc, ◌+◌, ◌-◌, ◌<◌, ◌≤◌, List, [], ◌∷◌, ◌++◌, map, length, take, Option, Some, None, refl, sym, ap, ◌∙◌, arith, append_assoc}
use Rattle.std.specs.List.{slice_get}
use Rattle.std.specs.Option.{option_map}
use Rattle.std.proofs.lemmas.List.{take_more}
use Rattle.std.proofs.lemmas.Option.{slice_get-map, slice_get_within, get_or_from_slice_get}

pub in_front : {X : Type 0} (xs ys : List X) (k : ℕ) → k < length xs → slice_get (xs ++ ys) k ≡ slice_get xs k
in_front [] ys k below = absurd (omega arith)
in_front (x ∷ xs) ys zero below = refl
in_front (x ∷ xs) ys (suc k) below = in_front xs ys k (omega arith)

pub behind : {X : Type 0} (xs ys : List X) (k : ℕ) → length xs ≤ k → slice_get (xs ++ ys) k ≡ slice_get ys (k - length xs)
behind [] ys k past = ap (slice_get ys) (let e : k ≡ k - 0 = omega arith in e)
behind (x ∷ xs) ys zero past = absurd (omega arith)
behind (x ∷ xs) ys (suc k) past = behind xs ys k (omega arith) ∙ ap (slice_get ys) (let e : k - length xs ≡ suc k - suc (length xs) = omega arith in e)

pub no_prefix : (found : Option (List ℕ)) → option_map (λ (last : List ℕ). [] ++ last) found ≡ found
no_prefix None = refl
no_prefix (Some path) = refl

longer_some : (path : List ℕ) (s : ℕ) (found : Option (List ℕ)) →
    option_map (λ (last : List ℕ). path ++ last) (option_map (λ (last : List ℕ). s ∷ last) found) ≡ option_map (λ (last : List ℕ). (path ++ s ∷ []) ++ last) found
longer_some path s None = refl
longer_some path s (Some last) = ap Some (sym (append_assoc path (s ∷ []) last))

-- behind a path that is one subcomponent longer
pub longer : (path : List ℕ) (s : ℕ) (paths : List (List ℕ)) (k : ℕ) →
    option_map (λ (last : List ℕ). path ++ last) (slice_get (map (λ (last : List ℕ). s ∷ last) paths) k)
    ≡ option_map (λ (last : List ℕ). (path ++ s ∷ []) ++ last) (slice_get paths k)
longer path s paths k = ap (option_map (λ (last : List ℕ). path ++ last)) (slice_get-map (λ (last : List ℕ). s ∷ last) paths k) ∙ longer_some path s (slice_get paths k)

-- where a list has no element, it has ended
pub ended : {X : Type 0} (xs : List X) (k limit : ℕ) → slice_get xs k ≡ None → k ≤ limit → take k xs ≡ take limit xs
ended [] zero zero none below = refl
ended [] zero (suc limit) none below = refl
ended [] (suc k) zero none below = refl
ended [] (suc k) (suc limit) none below = refl
ended (x ∷ xs) zero limit none below = absurd (cc)
ended (x ∷ xs) (suc k) zero none below = absurd (omega arith)
ended (x ∷ xs) (suc k) (suc limit) none below = ap (λ (ys : List _). x ∷ ys) (ended xs k limit none (omega arith))

pub one_more : {X : Type 0} (xs : List X) (k : ℕ) (x : X) → slice_get xs k ≡ Some x → take (k + 1) xs ≡ take k xs ++ x ∷ []
one_more xs k x found =
    take_more xs k x (slice_get_within xs k x found) ∙ ap (λ (y : _). take k xs ++ y ∷ []) (get_or_from_slice_get xs k x x found)

pub taken_on : {X : Type 0} (xs before after : List X) (k : ℕ) (x : X) → Some x ≡ slice_get xs k → before ≡ take k xs → after ≡ before ++ x ∷ [] → after ≡ take (k + 1) xs
taken_on xs before after k x found taken more = more ∙ (ap (λ (ys : List _). ys ++ x ∷ []) taken ∙ sym (one_more xs k x (sym found)))
