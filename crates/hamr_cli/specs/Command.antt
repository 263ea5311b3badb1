-- The table of commands: which words ask for what (this project's own; README).
use Rattle.std.specs.Prelude.{◌≡◌, ℕ, List, [], ◌∷◌, codes}
use Rattle.std.specs.List.{AllByRecursion}
use Rattle.std.specs.Prelude.{IsUtf8}

-- a command, with the words behind its name
pub data Command : Type 0 where
  judge : List ℕ → List ℕ → Command
  tidy : List ℕ → Command

-- the first word of the row
abbrev pub name_of : Command → List ℕ
name_of (judge model trace) = codes "judge"
name_of (tidy model) = codes "tidy"

-- the other words of the row
abbrev pub arguments_of : Command → List (List ℕ)
arguments_of (judge model trace) = model ∷ trace ∷ []
arguments_of (tidy model) = model ∷ []

-- the words are the row of the command, and are text
pub record IsRow (words : List (List ℕ)) (command : Command) : Type 0 where
  pub row : words ≡ name_of command ∷ arguments_of command
  pub text : AllByRecursion IsUtf8 (arguments_of command)

abbrev pub IsNoRow : List (List ℕ) → Type 0
IsNoRow words = (command : Command) → IsRow words command → ⊥
