-- How many brackets are open behind tokens, for a language that is given by what each token is to brackets (this project's own).
use Rattle.std.specs.Prelude.{ℕ, ◌+◌, ◌-◌, List, [], ◌∷◌}
use Rattle.hw_text.specs.declared.placed.Placed.{Placed}
use Rattle.hw_reading.specs.declared.bracket.Bracket.{Bracket}
use Rattle.hw_reading.specs.declared.bracket.Bracket.TheVariants.{Opens, Closes, Neither}

-- how many are open behind one, so many being open before it
abbrev pub open_behind_one : ℕ → Bracket → ℕ
open_behind_one n Opens = n + 1
open_behind_one n Closes = n - 1
open_behind_one n Neither = n

-- how many are open behind these tokens, so many being open before them
abbrev pub open_behind : {T : Type 0} → (T → Bracket) → ℕ → List (Placed T) → ℕ
open_behind bracket n [] = n
open_behind bracket n (t ∷ ts) = open_behind bracket (open_behind_one n (bracket t.token)) ts
