-- The marks of the contract language: those of models, and the operators (this project's own; docs/formats/contracts.md).
use Rattle.std.specs.Prelude.{ℕ, List, [], ◌∷◌, codes, Option}
use Rattle.hw_text.specs.Text.{mark_among}
use Rattle.gumbo_parse.specs.declared.mark.Mark.{Mark}
use Rattle.gumbo_parse.specs.declared.mark.Mark.TheVariants as mark

abbrev pub mark_spelling : Mark → List ℕ
mark_spelling mark.Semicolon = codes ";"
mark_spelling mark.Colon = codes ":"
mark_spelling mark.DoubleColon = codes "::"
mark_spelling mark.Comma = codes ","
mark_spelling mark.Dot = codes "."
mark_spelling mark.OpenParenthesis = codes "("
mark_spelling mark.CloseParenthesis = codes ")"
mark_spelling mark.OpenBracket = codes "["
mark_spelling mark.CloseBracket = codes "]"
mark_spelling mark.Equal = codes "=="
mark_spelling mark.NotEqual = codes "!="
mark_spelling mark.Less = codes "<"
mark_spelling mark.LessOrEqual = codes "<="
mark_spelling mark.Greater = codes ">"
mark_spelling mark.GreaterOrEqual = codes ">="
mark_spelling mark.Plus = codes "+"
mark_spelling mark.Minus = codes "-"
mark_spelling mark.Star = codes "*"
mark_spelling mark.Slash = codes "/"
mark_spelling mark.Percent = codes "%"
mark_spelling mark.Ampersand = codes "&"
mark_spelling mark.Bar = codes "|"
mark_spelling mark.Bang = codes "!"
mark_spelling mark.Implication = codes "->:"
mark_spelling mark.Below = codes "..<"
mark_spelling mark.Addition = codes "+=>"
mark_spelling mark.Association = codes "=>"
mark_spelling mark.Arrow = codes "->"
mark_spelling mark.Range = codes ".."
mark_spelling mark.OpenBrace = codes "{"
mark_spelling mark.CloseBrace = codes "}"

-- the marks, the longest first
abbrev pub all_marks : List Mark
all_marks =
    mark.Implication ∷ mark.Below ∷ mark.Addition ∷ mark.DoubleColon ∷ mark.Equal ∷ mark.NotEqual ∷ mark.LessOrEqual ∷
    mark.GreaterOrEqual ∷ mark.Association ∷ mark.Arrow ∷ mark.Range ∷ mark.Semicolon ∷ mark.Colon ∷ mark.Comma ∷ mark.Dot ∷
    mark.OpenParenthesis ∷ mark.CloseParenthesis ∷ mark.OpenBracket ∷ mark.CloseBracket ∷ mark.Less ∷ mark.Greater ∷ mark.Plus ∷
    mark.Minus ∷ mark.Star ∷ mark.Slash ∷ mark.Percent ∷ mark.Ampersand ∷ mark.Bar ∷ mark.Bang ∷ mark.OpenBrace ∷ mark.CloseBrace ∷ []

-- the longest mark that the text begins with, and the text behind it
unfoldable pub mark_at : List ℕ → Option (Mark × List ℕ)
mark_at bs = mark_among mark_spelling all_marks bs
