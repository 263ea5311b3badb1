-- What is kept while flaws are found (this project's own). No clause of a public function cites this.
use Rattle.std.specs.Prelude.{◌≡◌, ℕ, ◌<◌, Bool, true, false, not, List, map, length, Option, Some, None, count_by}
use Rattle.std.specs.List.{list_any}
use Rattle.aadl_names.specs.Meanings.{at_row}
use Rattle.aadl_typing.specs.Flaws.{HasFlaw, flaw_at}

-- a row has a flaw by what is known of those to which it leads
abbrev pub shows_flaw : List Bool → Option (List ℕ) → Bool
shows_flaw flaws None = true
shows_flaw flaws (Some leads) = list_any (flaw_at flaws) leads

abbrev pub no_flaws : List (Option (List ℕ)) → List Bool
no_flaws rows = map (λ row. false) rows

abbrev pub flawless_count : List Bool → ℕ
flawless_count flaws = count_by not flaws

-- what is marked has a flaw
pub record IsSound (rows : List (Option (List ℕ))) (flaws : List Bool) : Type 0 where
  pub long : length flaws ≡ length rows
  pub sound : (n : ℕ) → flaw_at flaws n ≡ true → HasFlaw rows n

-- the row is marked, or shows no flaw
abbrev pub IsDone : List (Option (List ℕ)) → List Bool → ℕ → Type 0
IsDone rows flaws n = flaw_at flaws n ≡ false → shows_flaw flaws (at_row rows n) ≡ false

abbrev pub AreDone : List (Option (List ℕ)) → List Bool → Type 0
AreDone rows flaws = (n : ℕ) → n < length rows → IsDone rows flaws n
