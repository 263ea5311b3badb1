-- Walks along a graph in which each row leads to one row at most (this project's own). A row past the last one leads nowhere.
use Rattle.std.specs.Prelude.{◌≡◌, ◌⊎◌, ℕ, zero, suc, List, [], ◌∷◌, Option, Some, None, option_and_then, slice_index_or}
use Rattle.aadl_names.specs.Meanings.{at_row}

-- the row that is reached by so many steps
abbrev pub behind : List (Option ℕ) → ℕ → ℕ → Option ℕ
behind nexts zero n = Some n
behind nexts (suc k) n = option_and_then (behind nexts k) (at_row nexts n)

-- a walk from the row comes back to it
abbrev pub IsOnRing : List (Option ℕ) → ℕ → Type 0
IsOnRing nexts n = (k : ℕ) × (behind nexts (suc k) n ≡ Some n)

-- the row leads nowhere, or is on a ring
abbrev pub IsEnd : List (Option ℕ) → ℕ → Type 0
IsEnd nexts n = (at_row nexts n ≡ None) ⊎ IsOnRing nexts n

-- a walk from the row goes over these rows, which are no ends, to one that is
abbrev pub LeadsTo : List (Option ℕ) → ℕ → List ℕ → ℕ → Type 0
LeadsTo nexts n [] end = (n ≡ end) × IsEnd nexts n
LeadsTo nexts n (m ∷ between) end = (IsEnd nexts n → ⊥) × (at_row nexts n ≡ Some m) × LeadsTo nexts m between end

-- it is the first end that a walk from the row meets
abbrev pub IsFirstEnd : List (Option ℕ) → ℕ → ℕ → Type 0
IsFirstEnd nexts n end = (between : List ℕ) × LeadsTo nexts n between end

-- these are the ends of all rows; a row past the last one is an end itself
abbrev pub AreEnds : List (Option ℕ) → List ℕ → Type 0
AreEnds nexts ends = (n : ℕ) → IsFirstEnd nexts n (slice_index_or ends n n)
