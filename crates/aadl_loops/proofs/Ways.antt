-- Paths that are continued, and sets of rows that no path leaves.
use Rattle.std.proofs.Common.{◌≡◌, ◌≢◌, ℕ, ◌<◌, ◌≤◌, List, [], ◌∷◌, ◌++◌, length, inl, inr, ◌⊎◌, refl, subst, sym, arith}
use Rattle.std.specs.List.{Contains}
use Rattle.std.proofs.lemmas.List.{get_or_past}
use Rattle.aadl_loops.specs.Loops.{leads_of, IsPath, IsOnLoop}

-- a path leads to the row, or it is the one
abbrev pub IsAhead : List (List ℕ) → ℕ → ℕ → Type 0
IsAhead edges a b = (a ≡ b) ⊎ ((between : List ℕ) × IsPath edges a between b)

-- a path and a step behind it
pub longer : (edges : List (List ℕ)) (between : List ℕ) (a b c : ℕ) → IsPath edges a between b → Contains (leads_of edges b) c → IsPath edges a (between ++ b ∷ []) c
longer edges [] a b c p q = (p, q)
longer edges (d ∷ between) a b c p q = (p.0, longer edges between d b c p.1 q)

pub one_further : (edges : List (List ℕ)) (a b c : ℕ) → IsAhead edges a b → Contains (leads_of edges b) c → (between : List ℕ) × IsPath edges a between c
one_further edges a b c ahead q =
    elim ahead [
      | inl same ↦ ([], subst (λ (r : ℕ). Contains (leads_of edges r) c) (sym same) q)
      | inr way ↦ (way.0 ++ b ∷ [], longer edges way.0 a b c way.1 q)
    ]

-- a set of rows that no step leaves, and no step from which leads to n
pub no_way : (edges : List (List ℕ)) (n : ℕ) (G : ℕ → Type 0) → ((a b : ℕ) → G a → Contains (leads_of edges a) b → (b ≢ n) × G b) →
    (between : List ℕ) (a : ℕ) → G a → IsPath edges a between n → ⊥
no_way edges n G step [] a g p = (step a n g p).0 refl
no_way edges n G step (c ∷ between) a g p = no_way edges n G step between c (step a c g p.0).1 p.1

-- nothing is in an empty list, as past the last row
pub leads_nowhere : (edges : List (List ℕ)) (a b : ℕ) → length edges ≤ a → Contains (leads_of edges a) b → ⊥
leads_nowhere edges a b past found =
    let here = subst (λ (leads : List ℕ). Contains leads b) (get_or_past edges a [] past) found in
    let none : here.0 < 0 = here.1 in
    omega arith

-- a path begins with a step
step_of : (edges : List (List ℕ)) (a : ℕ) (between : List ℕ) (b : ℕ) → IsPath edges a between b → (c : ℕ) × Contains (leads_of edges a) c
step_of edges a [] b p = (b, p)
step_of edges a (c ∷ between) b p = (c, p.0)

-- no row past the last one is on a loop
pub no_loop_past : (edges : List (List ℕ)) (a : ℕ) → length edges ≤ a → IsOnLoop edges a → ⊥
no_loop_past edges a past loop = let step = step_of edges a loop.0 a loop.1 in leads_nowhere edges a step.0 past step.1
