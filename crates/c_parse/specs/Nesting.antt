-- Brackets, and how far an expression goes (docs/formats/c.md).
use Rattle.std.specs.Prelude.{ℕ, ◌-◌, ◌==◌, ◌&&◌, Bool, true, false, List, count_by, take}
use Rattle.std.specs.List.{enumerate_from, position_or_len}
use Rattle.hw_text.specs.declared.placed.Placed.{Placed}
use Rattle.c_parse.specs.declared.keyword.Keyword.TheVariants as keyword
use Rattle.c_parse.specs.declared.mark.Mark.TheVariants as mark
use Rattle.c_parse.specs.declared.token.Token.{Token}
use Rattle.c_parse.specs.declared.token.Token.TheVariants as token
use Rattle.c_parse.specs.Values.{Tokens}

-- `(`, `[` or `{`
abbrev pub opens : Token → Bool
opens (token.Mark mark.OpenParenthesis) = true
opens (token.Mark mark.OpenBracket) = true
opens (token.Mark mark.OpenBrace) = true
opens _ = false

-- `)`, `]` or `}`
abbrev pub closes : Token → Bool
closes (token.Mark mark.CloseParenthesis) = true
closes (token.Mark mark.CloseBracket) = true
closes (token.Mark mark.CloseBrace) = true
closes _ = false

-- a closing bracket, `;` or `,`
abbrev pub ends : Token → Bool
ends (token.Mark mark.CloseParenthesis) = true
ends (token.Mark mark.CloseBracket) = true
ends (token.Mark mark.CloseBrace) = true
ends (token.Mark mark.Semicolon) = true
ends (token.Mark mark.Comma) = true
ends _ = false

-- `=`, `(`, `[`, `,` or `return`: what an expression begins behind, unless a call does
abbrev pub leads : Token → Bool
leads (token.Mark mark.Assign) = true
leads (token.Mark mark.OpenParenthesis) = true
leads (token.Mark mark.OpenBracket) = true
leads (token.Mark mark.Comma) = true
leads (token.Keyword keyword.Return) = true
leads _ = false

-- how many brackets are open behind these
abbrev pub brackets_open : List Token → ℕ
brackets_open ts = count_by opens ts - count_by closes ts

-- how many brackets are open behind these tokens
abbrev pub open_behind : Tokens → ℕ
open_behind ts = count_by (λ t. opens t.token) ts - count_by (λ t. closes t.token) ts

-- an expression that has these tokens so far ends before this one: outside its own brackets stands what ends it
abbrev pub ends_before : Tokens → Placed Token → Bool
ends_before ts t = ends t.token && (open_behind ts == 0)

-- how many of these tokens the expression has that begins with them, up to the one that ends it
unfoldable pub expression_length : Tokens → ℕ
expression_length ts = position_or_len (λ p. ends_before (take p.0 ts) p.1) (enumerate_from 0 ts)
