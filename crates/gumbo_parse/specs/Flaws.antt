-- What is wrong with a token with which the grammar goes on: it is a bracket inside too many others, or stands behind too many tokens of the
-- expression of a clause (docs/formats/contracts.md).
use Rattle.std.specs.Prelude.{ℕ, ◌+◌, nat_lt, slice_get, option_and_then, if◌then◌else◌, [], ◌∷◌, take, Option, Some, None}
use Rattle.hw_reading.specs.declared.bracket.Bracket.{Bracket}
use Rattle.hw_reading.specs.declared.bracket.Bracket.TheVariants.{Opens, Closes, Neither}
use Rattle.hw_reading.specs.Brackets.{open_behind_one}
use Rattle.hw_reading.specs.Brackets as brackets
use Rattle.gumbo_parse.specs.declared.flaw.Flaw.{Flaw}
use Rattle.gumbo_parse.specs.declared.flaw.Flaw.TheVariants.{TooDeep, TooLong}
use Rattle.gumbo_parse.specs.declared.flaw.Spot.{Spot}
use Rattle.gumbo_parse.specs.declared.flaw.Spot.TheVariants.{Outside, Heading, Expression}
use Rattle.gumbo_parse.specs.declared.mark.Mark.{Mark}
use Rattle.gumbo_parse.specs.declared.mark.Mark.TheVariants as mark
use Rattle.gumbo_parse.specs.declared.token.Token.{Token}
use Rattle.gumbo_parse.specs.declared.token.Token.TheVariants as token
use Rattle.gumbo_parse.specs.declared.word.Word.TheVariants as word
use Rattle.gumbo_parse.specs.Values.{Tokens}

-- parentheses and brackets
abbrev pub bracket_of : Token → Bracket
bracket_of (token.Mark mark.OpenParenthesis) = Opens
bracket_of (token.Mark mark.OpenBracket) = Opens
bracket_of (token.Mark mark.CloseParenthesis) = Closes
bracket_of (token.Mark mark.CloseBracket) = Closes
bracket_of _ = Neither

-- how many brackets are open behind a token, so many being open before it
abbrev pub open_behind_token : ℕ → Token → ℕ
open_behind_token n t = open_behind_one n (bracket_of t)

-- how many brackets are open behind these tokens, so many being open before them
abbrev pub open_behind : ℕ → Tokens → ℕ
open_behind = brackets.open_behind bracket_of

-- a token more of the expression, within one
abbrev pub one_further : Spot → Spot
one_further (Expression n) = Expression (n + 1)
one_further Outside = Outside
one_further Heading = Heading

-- the colon behind the word, name and text of a clause begins its expression, and the semicolon ends the clause
abbrev pub spot_behind_mark : Spot → Mark → Spot
spot_behind_mark s mark.Semicolon = Outside
spot_behind_mark Heading mark.Colon = Expression 0
spot_behind_mark s m = one_further s

abbrev pub spot_behind : Spot → Token → Spot
spot_behind s (token.Word word.Assume) = Heading
spot_behind s (token.Word word.Guarantee) = Heading
spot_behind s (token.Mark m) = spot_behind_mark s m
spot_behind s _ = one_further s

-- where in a clause a text goes on behind these tokens
abbrev pub spot_after : Spot → Tokens → Spot
spot_after s [] = s
spot_after s (t ∷ ts) = spot_after (spot_behind s t.token) ts

-- how many tokens of its expression a clause has there
abbrev pub length_in : Spot → ℕ
length_in (Expression n) = n
length_in Outside = 0
length_in Heading = 0

-- what is wrong with a token before which so many brackets are open, and which stands there in a clause
abbrev pub flaw_of : ℕ → Spot → Token → Option Flaw
flaw_of n s t =
    if nat_lt 64 (open_behind_token n t) then Some TooDeep
    else if nat_lt 500 (length_in (spot_behind s t)) then Some TooLong
    else None

-- what is wrong with the token at this index
abbrev pub flaw_at : Tokens → ℕ → Option Flaw
flaw_at ts i = option_and_then (λ t. flaw_of (open_behind 0 (take i ts)) (spot_after Outside (take i ts)) t.token) (slice_get ts i)
