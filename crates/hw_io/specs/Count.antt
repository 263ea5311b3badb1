-- Counts of faults and absences, which stop at their last value (this project's own).
use Rattle.std.specs.Prelude.{ℕ, ◌+◌, ◌<◌, ◌≤◌, min, List}

-- the last value of a count
abbrev pub last : ℕ
last = 18446744073709551615

-- one more, or the last value again
abbrev pub one_more : ℕ → ℕ
one_more count = min (count + 1) last

-- the count rose; one that stands at its last value counts as risen
abbrev pub HasRisen : ℕ → ℕ → Type 0
HasRisen old new = new < last → old < new

-- no name's count fell
abbrev pub NeverFalls : (List ℕ → ℕ) → (List ℕ → ℕ) → Type 0
NeverFalls old new = (name : List ℕ) → old name ≤ new name
