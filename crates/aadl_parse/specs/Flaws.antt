-- What is wrong with a token with which the grammar goes on: it is a bracket inside too many others, or a text in quotes with a byte that
-- may not stand there (docs/formats/model.md).
use Rattle.std.specs.Prelude.{ℕ, ◌+◌, ◌-◌, nat_lt, slice_get, option_and_then, if◌then◌else◌, List, [], ◌∷◌, take, Option, Some, None}
use Rattle.hw_text.specs.declared.placed.Placed.{Placed}
use Rattle.aadl_tree.specs.declared.token.Token.{Token}
use Rattle.aadl_tree.specs.declared.token.Token.TheVariants as token
use Rattle.aadl_tree.specs.declared.mark.Mark.{Mark}
use Rattle.aadl_tree.specs.declared.mark.Mark.TheVariants as mark
use Rattle.aadl_parse.specs.declared.flaw.Flaw.{Flaw}
use Rattle.aadl_parse.specs.declared.flaw.Flaw.TheVariants as flaw

-- how many brackets are open behind a mark, so many being open before it
abbrev pub open_behind_mark : ℕ → Mark → ℕ
open_behind_mark n mark.OpenParenthesis = n + 1
open_behind_mark n mark.OpenBrace = n + 1
open_behind_mark n mark.OpenBracket = n + 1
open_behind_mark n mark.CloseParenthesis = n - 1
open_behind_mark n mark.CloseBrace = n - 1
open_behind_mark n mark.CloseBracket = n - 1
open_behind_mark n _ = n

abbrev pub open_behind_token : ℕ → Token → ℕ
open_behind_token n (token.Mark m) = open_behind_mark n m
open_behind_token n _ = n

-- how many brackets are open behind these tokens, so many being open before them
abbrev pub open_behind : ℕ → List (Placed Token) → ℕ
open_behind n [] = n
open_behind n (t ∷ ts) = open_behind (open_behind_token n t.token) ts

-- what is wrong with a token before which so many brackets are open
abbrev pub flaw_of : ℕ → Token → Option Flaw
flaw_of n (token.SpoiltText plain) = Some (flaw.BadByte plain)
flaw_of n (token.Mark m) = if nat_lt 64 (open_behind_mark n m) then Some flaw.TooDeep else None
flaw_of n _ = None

-- what is wrong with the token at this index
abbrev pub flaw_at : List (Placed Token) → ℕ → Option Flaw
flaw_at ts i = option_and_then (λ t. flaw_of (open_behind 0 (take i ts)) t.token) (slice_get ts i)
