-- The marks of C (ISO/IEC 9899:2011, 6.4.6), as far as the subset has them (docs/formats/c.md).
use Rattle.std.specs.Prelude.{ℕ, List, [], ◌∷◌, codes, Option}
use Rattle.hw_text.specs.Text.{mark_among}
use Rattle.c_parse.specs.declared.mark.Mark.{Mark}
use Rattle.c_parse.specs.declared.mark.Mark.TheVariants as mark

abbrev pub mark_text : Mark → List ℕ
mark_text mark.ShiftLeft = codes "<<"
mark_text mark.ShiftRight = codes ">>"
mark_text mark.LessOrEqual = codes "<="
mark_text mark.GreaterOrEqual = codes ">="
mark_text mark.Equal = codes "=="
mark_text mark.NotEqual = codes "!="
mark_text mark.And = codes "&&"
mark_text mark.Or = codes "||"
mark_text mark.Increment = codes "++"
mark_text mark.Decrement = codes "--"
mark_text mark.Arrow = codes "->"
mark_text mark.OpenBrace = codes "{"
mark_text mark.CloseBrace = codes "}"
mark_text mark.OpenParenthesis = codes "("
mark_text mark.CloseParenthesis = codes ")"
mark_text mark.OpenBracket = codes "["
mark_text mark.CloseBracket = codes "]"
mark_text mark.Semicolon = codes ";"
mark_text mark.Comma = codes ","
mark_text mark.Dot = codes "."
mark_text mark.Assign = codes "="
mark_text mark.Less = codes "<"
mark_text mark.Greater = codes ">"
mark_text mark.Plus = codes "+"
mark_text mark.Minus = codes "-"
mark_text mark.Star = codes "*"
mark_text mark.Slash = codes "/"
mark_text mark.Percent = codes "%"
mark_text mark.Ampersand = codes "&"
mark_text mark.Bar = codes "|"
mark_text mark.Caret = codes "^"
mark_text mark.Bang = codes "!"
mark_text mark.Tilde = codes "~"

-- the marks, the longest first
abbrev pub all_marks : List Mark
all_marks =
    mark.ShiftLeft ∷ mark.ShiftRight ∷ mark.LessOrEqual ∷ mark.GreaterOrEqual ∷ mark.Equal ∷ mark.NotEqual ∷
    mark.And ∷ mark.Or ∷ mark.Increment ∷ mark.Decrement ∷ mark.Arrow ∷ mark.OpenBrace ∷ mark.CloseBrace ∷
    mark.OpenParenthesis ∷ mark.CloseParenthesis ∷ mark.OpenBracket ∷ mark.CloseBracket ∷ mark.Semicolon ∷
    mark.Comma ∷ mark.Dot ∷ mark.Assign ∷ mark.Less ∷ mark.Greater ∷ mark.Plus ∷ mark.Minus ∷ mark.Star ∷
    mark.Slash ∷ mark.Percent ∷ mark.Ampersand ∷ mark.Bar ∷ mark.Caret ∷ mark.Bang ∷ mark.Tilde ∷ []

-- the longest mark that the text begins with, and the text behind it
unfoldable pub mark_at : List ℕ → Option (Mark × List ℕ)
mark_at bs = mark_among mark_text all_marks bs
