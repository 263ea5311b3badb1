-- Rows of a graph that have a flaw: nothing is known of where they lead, or they lead to such a row (this project's own). Of a row past the
-- last one nothing is known.
use Rattle.std.specs.Prelude.{◌≡◌, ◌↔◌, ℕ, Bool, true, List, [], ◌∷◌, Option, Some, None, slice_index_or, Contains}
use Rattle.aadl_names.specs.Meanings.{at_row}

-- the row leads to that one
pub record IsAbove (rows : List (Option (List ℕ))) (n m : ℕ) : Type 0 where
  pub leads : List ℕ
  pub known : at_row rows n ≡ Some leads
  pub among : Contains leads m

-- each row leads to the next, and of the last nothing is known
abbrev pub LeadsToFlaw : List (Option (List ℕ)) → ℕ → List ℕ → Type 0
LeadsToFlaw rows n [] = at_row rows n ≡ None
LeadsToFlaw rows n (m ∷ between) = IsAbove rows n m × LeadsToFlaw rows m between

abbrev pub HasFlaw : List (Option (List ℕ)) → ℕ → Type 0
HasFlaw rows n = (between : List ℕ) × LeadsToFlaw rows n between

abbrev pub flaw_at : List Bool → ℕ → Bool
flaw_at flaws n = slice_index_or flaws n true

-- these are the rows that have a flaw
abbrev pub AreFlaws : List (Option (List ℕ)) → List Bool → Type 0
AreFlaws rows flaws = (n : ℕ) → (flaw_at flaws n ≡ true) ↔ HasFlaw rows n
