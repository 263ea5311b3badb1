-- The rows that a search has met (this project's own).
use Rattle.std.specs.Prelude.{◌≡◌, ℕ, ◌<◌, Bool, true, false, List, ◌++◌, length, slice_index_or, count_by, Contains, All}

-- rows below a limit, each once, in the order in which they were met
pub record Met : Type 0 where
  pub limit : ℕ
  pub rows : List ℕ

-- there is a mark for each row below the limit, and the marks tell which rows were met
pub record AreMarked (marks : List Bool) (rows : List ℕ) : Type 0 where
  pub told : (k : ℕ) → slice_index_or marks k false ≡ true → Contains rows k
  pub counted : count_by (λ b. b) marks ≡ length rows
  pub inside : All (λ row. row < length marks) rows

-- more rows were met, all of them among these
pub record Meets (old new : Met) (among : List ℕ) : Type 0 where
  pub limit : new.limit ≡ old.limit
  pub more : List ℕ
  pub rows : new.rows ≡ old.rows ++ more
  pub each : All (Contains among) more
