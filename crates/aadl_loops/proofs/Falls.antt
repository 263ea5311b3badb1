-- Labels that never fall along an edge.
use Rattle.std.proofs.Common.{ℕ, ◌<◌, ◌≤◌, List, [], ◌∷◌, length, inl, inr, arith}
use Rattle.std.specs.List.{Contains}
use Rattle.std.proofs.lemmas.Bool.{cases_lt}
use Rattle.aadl_loops.specs.Loops.{leads_of, IsPath, IsOnLoop}
use Rattle.aadl_loops.specs.Labels.{label_at}
use Rattle.aadl_loops.proofs.Ways.{leads_nowhere}

-- the labels do not fall along a path
never_falls : (edges : List (List ℕ)) (labels : List ℕ) → ((a b : ℕ) → Contains (leads_of edges a) b → label_at labels a ≤ label_at labels b) →
    (between : List ℕ) (a b : ℕ) → IsPath edges a between b → label_at labels a ≤ label_at labels b
never_falls edges labels step [] a b p = step a b p
never_falls edges labels step (c ∷ between) a b p =
    let first = step a c p.0 in
    let rest = never_falls edges labels step between c b p.1 in
    omega arith

-- where they rise along each edge of a row, no path leads back to it
pub no_return : (edges : List (List ℕ)) (labels : List ℕ) → ((a b : ℕ) → Contains (leads_of edges a) b → label_at labels a ≤ label_at labels b) →
    (a : ℕ) → ((b : ℕ) → Contains (leads_of edges a) b → label_at labels a < label_at labels b) → (between : List ℕ) → IsPath edges a between a → ⊥
no_return edges labels step a rises [] p = let up = rises a p in omega arith
no_return edges labels step a rises (c ∷ between) p =
    let up = rises c p.0 in
    let rest = never_falls edges labels step between c a p.1 in
    omega arith

-- where the labels of the first rows rise, none of these is on a loop
pub none_returns : (edges : List (List ℕ)) (labels : List ℕ) (free row : ℕ) → length edges ≤ row → free ≤ length edges →
    ((k : ℕ) → k < row → (b : ℕ) → Contains (leads_of edges k) b → label_at labels k ≤ label_at labels b) →
    ((k : ℕ) → k < row → k < free → (b : ℕ) → Contains (leads_of edges k) b → label_at labels k < label_at labels b) →
    (k : ℕ) → k < free → IsOnLoop edges k → ⊥
none_returns edges labels free row ended within level rises k below loop =
    no_return edges labels
    (λ a b lead. elim (cases_lt a (length edges)) [
      | inl inside ↦ level a (omega arith) b lead
      | inr past ↦ absurd (leads_nowhere edges a b past lead)
    ])
    k (rises k (omega arith) below) loop.0 loop.1
