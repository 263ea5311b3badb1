-- The words are the row of one command.
use Rattle.std.proofs.Common.{◌≡◌, ℕ, if◌then◌else◌, List, [], ◌∷◌, Option, Some, None, codes, refl, ap, sym, ◌∙◌}
use Rattle.std.specs.Str.{bytes_eq}
use Rattle.std.proofs.lemmas.Option.{same_Some}
use Rattle.hamr_cli.specs.Command.{Command, judge, tidy, name_of, arguments_of, IsRow}

-- the command that the words name, if they do
named_by : List (List ℕ) → Option Command
named_by [] = None
named_by (name ∷ []) = None
named_by (name ∷ model ∷ []) = if bytes_eq name (codes "tidy") then Some (tidy model) else None
named_by (name ∷ model ∷ trace ∷ []) = if bytes_eq name (codes "judge") then Some (judge model trace) else None
named_by (name ∷ model ∷ trace ∷ more ∷ others) = None

is_named : (command : Command) → named_by (name_of command ∷ arguments_of command) ≡ Some command
unfolding named_by
is_named (judge model trace) = refl
is_named (tidy model) = refl

pub row-one : (asked : List (List ℕ)) (one other : Command) → IsRow asked one → IsRow asked other → one ≡ other
row-one asked one other row row' =
    same_Some one other (sym (is_named one) ∙ sym (ap named_by row.row) ∙ ap named_by row'.row ∙ is_named other)
