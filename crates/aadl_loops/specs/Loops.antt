-- Paths and loops of a graph, whose rows each lead to rows by their numbers (this project's own). A number past the last row leads nowhere.
use Rattle.std.specs.Prelude.{ℕ, List, [], ◌∷◌, ◌<◌, slice_index_or, Contains}

-- where a row leads
abbrev pub leads_of : List (List ℕ) → ℕ → List ℕ
leads_of edges a = slice_index_or edges a []

-- the rows between lie on a path from a to b, each leading to the next
abbrev pub IsPath : List (List ℕ) → ℕ → List ℕ → ℕ → Type 0
IsPath edges a [] b = Contains (leads_of edges a) b
IsPath edges a (c ∷ between) b = Contains (leads_of edges a) c × IsPath edges c between b

-- a path leads from the row back to it
abbrev pub IsOnLoop : List (List ℕ) → ℕ → Type 0
IsOnLoop edges n = (between : List ℕ) × IsPath edges n between n

pub record IsFirstOnLoop (edges : List (List ℕ)) (n : ℕ) : Type 0 where
  pub loop : IsOnLoop edges n
  pub first : (k : ℕ) → k < n → IsOnLoop edges k → ⊥

abbrev pub HasNoLoop : List (List ℕ) → Type 0
HasNoLoop edges = (n : ℕ) → IsOnLoop edges n → ⊥
