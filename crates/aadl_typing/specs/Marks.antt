-- What is known of the rows of a graph while the ends of walks are found (this project's own). No clause of a public function cites this.
use Rattle.std.specs.Prelude.{◌≡◌, ℕ, suc, Bool, true, false, List, [], ◌∷◌, ◌++◌, length, map, Option, Some, slice_get, slice_index_or, count_by}
use Rattle.aadl_typing.specs.declared.marks.Mark.{Mark}
use Rattle.aadl_typing.specs.declared.marks.Mark.TheVariants as mark
use Rattle.aadl_names.specs.Meanings.{at_row}
use Rattle.aadl_typing.specs.Walks.{IsFirstEnd}

-- a row past the last one is an end
abbrev pub mark_at : List Mark → ℕ → Mark
mark_at marks n = slice_index_or marks n (mark.Ends n)

abbrev pub open_marks : List (Option ℕ) → List Mark
open_marks nexts = map (λ next. mark.Open) nexts

abbrev pub is_open : Mark → Bool
is_open mark.Open = true
is_open (mark.Met k) = false
is_open (mark.Ends e) = false

abbrev pub open_count : List Mark → ℕ
open_count marks = count_by is_open marks

-- the ends that are known are right, and so are those behind them; the rows that were met are those of the walk
pub record AreRight (nexts : List (Option ℕ)) (marks : List Mark) (path : List ℕ) : Type 0 where
  pub long : length marks ≡ length nexts
  pub right : (n e : ℕ) → mark_at marks n ≡ mark.Ends e → IsFirstEnd nexts n e
  pub closed : (n e m : ℕ) → mark_at marks n ≡ mark.Ends e → at_row nexts n ≡ Some m → (f : ℕ) × (mark_at marks m ≡ mark.Ends f)
  pub met : (n k : ℕ) → mark_at marks n ≡ mark.Met k → slice_get path k ≡ Some n

-- each of these rows leads to the one behind it
abbrev pub IsChain : List (Option ℕ) → List ℕ → Type 0
IsChain nexts rows = (k x y : ℕ) → slice_get rows k ≡ Some x → slice_get rows (suc k) ≡ Some y → at_row nexts x ≡ Some y

-- the walk began at this row and has come to that one
pub record IsWalking (nexts : List (Option ℕ)) (marks : List Mark) (path : List ℕ) (start at : ℕ) : Type 0 where
  pub marked : AreRight nexts marks path
  pub chain : IsChain nexts (path ++ at ∷ [])
  pub from : slice_get (path ++ at ∷ []) 0 ≡ Some start

-- and the end of that one is known
pub record IsEnded (nexts : List (Option ℕ)) (marks : List Mark) (path : List ℕ) (start at : ℕ) : Type 0 where
  pub walking : IsWalking nexts marks path start at
  pub end : ℕ
  pub ended : mark_at marks at ≡ mark.Ends end

-- no walk is under way
pub record IsAtRest (nexts : List (Option ℕ)) (marks : List Mark) (path : List ℕ) : Type 0 where
  pub marked : AreRight nexts marks path
  pub empty : path ≡ []
