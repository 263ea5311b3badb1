-- What is wrong with a token with which the grammar goes on: it is a bracket inside too many others, an expression goes on with it that has
-- too many tokens, or a range ends with it that is empty (docs/formats/c.md).
use Rattle.std.specs.Prelude.{ℕ, ◌+◌, ◌-◌, nat_le, nat_lt, Bool, false, not, ◌&&◌, if◌then◌else◌, [], ◌∷◌, codes, take, drop, slice_get, unwrap_or, Option, Some, None, is_some}
use Rattle.std.specs.Option.{option_map_or}
use Rattle.hw_text.specs.declared.place.Place.{Place}
use Rattle.hw_text.specs.declared.refusal.Refusal.{Refusal}
use Rattle.hw_text.specs.Reading.{begins}
use Rattle.c_tree.specs.declared.dialect.Dialect.{Dialect}
use Rattle.c_tree.specs.Dialects.{is_full}
use Rattle.c_parse.specs.declared.flaw.Flaw.{Flaw}
use Rattle.c_parse.specs.declared.flaw.Flaw.TheVariants.{TooDeep, TooLong, EmptyRange}
use Rattle.c_parse.specs.declared.mark.Mark.TheVariants as mark
use Rattle.c_parse.specs.Nesting.{opens, leads, open_behind, expression_length}
use Rattle.c_parse.specs.RangeEnds.{empty_range_at}
use Rattle.c_parse.specs.Refusals.{limit, syntax}
use Rattle.c_parse.specs.Values.{Tokens, is_name, is_mark}

-- a bracket inside 64 others
abbrev pub is_too_deep : Tokens → ℕ → Bool
is_too_deep ts i = option_map_or (λ t. opens t.token) (slice_get ts i) false && nat_le 64 (open_behind (take i ts))

-- a name and `(`
abbrev pub begins_call : Tokens → Bool
begins_call [] = false
begins_call (t ∷ ts) = is_name t && begins (is_mark mark.OpenParenthesis) ts

-- behind the first token begins an expression, and more than 500 of these tokens are its own
abbrev pub leads_too_far : Tokens → Bool
leads_too_far [] = false
leads_too_far (t ∷ ts) = leads t.token && (not (begins_call ts) && nat_lt 500 (expression_length ts))

-- Of the 502 tokens up to there, an expression begins behind the first, and the others are its own. Where nothing is wrong before, it is an
-- outermost one of a text that goes on with the token: in the grammar of users no expression holds a call, and a bracket within an expression
-- begins another one later, so that the outermost one has its 501st token first (`outermost_expressions`).
abbrev pub is_too_long : Tokens → ℕ → Bool
is_too_long ts i = leads_too_far (drop (i - 501) (take (i + 1) ts))

-- what is wrong with the token at this index, in the full grammar or in that of users
abbrev pub flaw_at : Dialect → Tokens → ℕ → Option Flaw
flaw_at dialect ts i =
    if not (is_full dialect) && is_too_deep ts i then Some TooDeep
    else if not (is_full dialect) && is_too_long ts i then Some TooLong
    else if is_some (empty_range_at ts i) then Some EmptyRange
    else None

abbrev pub nowhere : Place
nowhere = record { line = 0; column = 0 }

-- where the token at the index stands
abbrev pub place_at : Tokens → ℕ → Place
place_at ts i = option_map_or (λ t. t.place) (slice_get ts i) nowhere

-- What is told of the token at the index for its flaw: of a bracket where it stands, of an expression where its first token stands, with
-- the number of its tokens, and of a range where its second literal begins.
abbrev pub flawed : Tokens → ℕ → Flaw → Refusal
flawed ts i TooDeep = limit (codes "nesting") (place_at ts i) 65 64
flawed ts i TooLong = limit (codes "tokens") (place_at ts (i - 500)) (expression_length (drop (i - 500) ts)) 500
flawed ts i EmptyRange = syntax (unwrap_or (empty_range_at ts i) nowhere)
