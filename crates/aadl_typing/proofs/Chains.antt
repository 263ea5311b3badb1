-- Rows that lead one to the next, and rings of them.
use Rattle.std.proofs.Common.{◌≡◌, ◌⊎◌, inl, inr, ℕ, zero, suc, ◌+◌, ◌-◌, ◌<◌, ◌≤◌, List, [], ◌∷◌, ◌++◌, length, get_or, Option, Some, None, refl, sym, ap, subst, ◌∙◌, arith, length-append}
use Rattle.std.specs.Option.{option_and_then, unwrap_or}
use Rattle.std.specs.List.{slice_get}
use Rattle.std.proofs.lemmas.Option.{slice_get_within, slice_get-get_or}
use Rattle.aadl_names.specs.Meanings.{at_row}
use Rattle.aadl_typing.specs.Walks.{behind, IsOnRing}
use Rattle.aadl_typing.specs.Marks.{IsChain}

pub some_same : {x y : ℕ} → Some x ≡ Some y → x ≡ y
some_same {x} {y} is = ap (λ (o : Option ℕ). unwrap_or o x) is

pub get_left : (xs ys : List ℕ) (k x : ℕ) → slice_get xs k ≡ Some x → slice_get (xs ++ ys) k ≡ Some x
get_left [] ys k x is = absurd (cc)
get_left (z ∷ xs) ys zero x is = is
get_left (z ∷ xs) ys (suc k) x is = get_left xs ys k x is

pub get_last : (xs : List ℕ) (y : ℕ) → slice_get (xs ++ y ∷ []) (length xs) ≡ Some y
get_last [] y = refl
get_last (z ∷ xs) y = get_last xs y

-- a row of a list is one before the last, or the last
pub get_cases : (xs : List ℕ) (y k x : ℕ) → slice_get (xs ++ y ∷ []) k ≡ Some x → (slice_get xs k ≡ Some x) ⊎ ((k ≡ length xs) × (y ≡ x))
get_cases [] y zero x is = inr (refl, some_same is)
get_cases [] y (suc k) x is = absurd (cc)
get_cases (z ∷ xs) y zero x is = inl is
get_cases (z ∷ xs) y (suc k) x is =
    elim (get_cases xs y k x is) [
      | inl before ↦ inl before
      | inr last ↦ inr (ap suc last.0, last.1)
    ]

pub chain_one : (nexts : List (Option ℕ)) (at : ℕ) → IsChain nexts (at ∷ [])
chain_one nexts at k x y is follows = absurd (cc)

-- the last row leads one row further
pub chain_push : (nexts : List (Option ℕ)) (path : List ℕ) (at next : ℕ) → IsChain nexts (path ++ at ∷ []) → at_row nexts at ≡ Some next →
    IsChain nexts ((path ++ at ∷ []) ++ next ∷ [])
chain_push nexts path at next chain leads k x y is follows =
    let many : length (path ++ at ∷ []) ≡ length path + 1 = length-append path (at ∷ []) in
    elim (get_cases (path ++ at ∷ []) next (suc k) y follows) [
      | inl before ↦
          let inside = slice_get_within (path ++ at ∷ []) (suc k) y before in
          elim (get_cases (path ++ at ∷ []) next k x is) [
            | inl here ↦ chain k x y here before
            | inr last ↦ absurd (let no : k ≡ length (path ++ at ∷ []) = last.0 in omega arith)
          ]
      | inr end ↦
          let place : suc k ≡ length (path ++ at ∷ []) = end.0 in
          elim (get_cases (path ++ at ∷ []) next k x is) [
            | inl here ↦
                elim (get_cases path at k x here) [
                  | inl early ↦ absurd (let inside = slice_get_within path k x early in omega arith)
                  | inr last ↦ subst (λ (row : ℕ). at_row nexts row ≡ Some y) last.1 (leads ∙ ap Some end.1)
                ]
            | inr last ↦ absurd (let no : k ≡ length (path ++ at ∷ []) = last.0 in omega arith)
          ]
    ]

-- without its last row
pub chain_pop : (nexts : List (Option ℕ)) (rows : List ℕ) (at : ℕ) → IsChain nexts (rows ++ at ∷ []) → IsChain nexts rows
chain_pop nexts rows at chain k x y is follows = chain k x y (get_left rows (at ∷ []) k x is) (get_left rows (at ∷ []) (suc k) y follows)

-- so many rows further on
pub chain_walk : (nexts : List (Option ℕ)) (rows : List ℕ) → IsChain nexts rows → (steps k x y : ℕ) → slice_get rows k ≡ Some x → slice_get rows (k + steps) ≡ Some y →
    behind nexts steps x ≡ Some y
chain_walk nexts rows chain zero k x y is reached =
    let none : k + zero ≡ k = omega arith in sym is ∙ subst (λ (n : ℕ). slice_get rows n ≡ Some y) none reached
chain_walk nexts rows chain (suc steps) k x y is reached =
    let inside : k + suc steps < length rows = slice_get_within rows (k + suc steps) y reached in
    let next : slice_get rows (suc k) ≡ Some (get_or rows (suc k) 0) = slice_get-get_or rows (suc k) 0 (omega arith) in
    let place : k + suc steps ≡ suc k + steps = omega arith in
    ap (option_and_then (behind nexts steps)) (chain k x (get_or rows (suc k) 0) is next)
    ∙ chain_walk nexts rows chain steps (suc k) (get_or rows (suc k) 0) y next (subst (λ (n : ℕ). slice_get rows n ≡ Some y) place reached)

pub behind_add : (nexts : List (Option ℕ)) (a b n m : ℕ) → behind nexts a n ≡ Some m → behind nexts (a + b) n ≡ behind nexts b m
behind_add nexts zero b n m is = let none : zero + b ≡ b = omega arith in ap (λ (k : ℕ). behind nexts k n) none ∙ ap (behind nexts b) (some_same is)
behind_add nexts (suc a) b n m is =
    let more : suc a + b ≡ suc (a + b) = omega arith in
    ap (λ (k : ℕ). behind nexts k n) more ∙ behind_from nexts a b (at_row nexts n) m is (λ k e. behind_add nexts a b k m e)
  where
    behind_from : (nexts : List (Option ℕ)) (a b : ℕ) (o : Option ℕ) (m : ℕ) → option_and_then (behind nexts a) o ≡ Some m →
        ((k : ℕ) → behind nexts a k ≡ Some m → behind nexts (a + b) k ≡ behind nexts b m) → option_and_then (behind nexts (a + b)) o ≡ behind nexts b m
    behind_from nexts a b None m is on = absurd (cc)
    behind_from nexts a b (Some k) m is on = on k is

-- where the last row of a walk stands on it already, all rows from there on are on a ring
pub ring_row : (nexts : List (Option ℕ)) (path : List ℕ) (at place k x : ℕ) → IsChain nexts (path ++ at ∷ []) → slice_get path place ≡ Some at → place ≤ k →
    slice_get path k ≡ Some x → IsOnRing nexts x
ring_row nexts path at place k x chain back above is =
    let inside = slice_get_within path k x is in
    let end : k + (length path - k) ≡ length path = omega arith in
    let start : place + (k - place) ≡ k = omega arith in
    let to : behind nexts (length path - k) x ≡ Some at = chain_walk nexts (path ++ at ∷ []) chain (length path - k) k x at (get_left path (at ∷ []) k x is)
    (subst (λ (n : ℕ). slice_get (path ++ at ∷ []) n ≡ Some at) (sym end) (get_last path at)) in
    let from : behind nexts (k - place) at ≡ Some x = chain_walk nexts (path ++ at ∷ []) chain (k - place) place at x (get_left path (at ∷ []) place at back)
    (subst (λ (n : ℕ). slice_get (path ++ at ∷ []) n ≡ Some x) (sym start) (get_left path (at ∷ []) k x is)) in
    let round : behind nexts ((length path - k) + (k - place)) x ≡ Some x = behind_add nexts (length path - k) (k - place) x at to ∙ from in
    let more : (length path - k) + (k - place) ≡ suc ((length path - place) - 1) = omega arith in
    ((length path - place) - 1, subst (λ (n : ℕ). behind nexts n x ≡ Some x) more round)
