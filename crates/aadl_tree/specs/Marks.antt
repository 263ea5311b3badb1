-- The marks of models (SAE AS5506, delimiters; docs/formats/model.md).
use Rattle.std.specs.Prelude.{ℕ, List, [], ◌∷◌, codes, Option}
use Rattle.hw_text.specs.Text.{mark_among}
use Rattle.aadl_tree.specs.declared.mark.Mark.{Mark}
use Rattle.aadl_tree.specs.declared.mark.Mark.TheVariants as mark

abbrev pub mark_spelling : Mark → List ℕ
mark_spelling mark.Addition = codes "+=>"
mark_spelling mark.Association = codes "=>"
mark_spelling mark.Arrow = codes "->"
mark_spelling mark.Range = codes ".."
mark_spelling mark.DoubleColon = codes "::"
mark_spelling mark.Semicolon = codes ";"
mark_spelling mark.Colon = codes ":"
mark_spelling mark.Comma = codes ","
mark_spelling mark.Dot = codes "."
mark_spelling mark.OpenParenthesis = codes "("
mark_spelling mark.CloseParenthesis = codes ")"
mark_spelling mark.OpenBrace = codes "{"
mark_spelling mark.CloseBrace = codes "}"
mark_spelling mark.OpenBracket = codes "["
mark_spelling mark.CloseBracket = codes "]"
mark_spelling mark.Plus = codes "+"
mark_spelling mark.Minus = codes "-"

-- the marks, the longest first
abbrev pub all_marks : List Mark
all_marks =
    mark.Addition ∷ mark.Association ∷ mark.Arrow ∷ mark.Range ∷ mark.DoubleColon ∷ mark.Semicolon ∷ mark.Colon ∷
    mark.Comma ∷ mark.Dot ∷ mark.OpenParenthesis ∷ mark.CloseParenthesis ∷ mark.OpenBrace ∷ mark.CloseBrace ∷
    mark.OpenBracket ∷ mark.CloseBracket ∷ mark.Plus ∷ mark.Minus ∷ []

-- the longest mark that the text begins with, and the text behind it
unfoldable pub mark_at : List ℕ → Option (Mark × List ℕ)
mark_at bs = mark_among mark_spelling all_marks bs
