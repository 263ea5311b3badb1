-- What is told of a text that is no contract, of a failure in it (this project's own; docs/formats/contracts.md).
use Rattle.std.specs.Prelude.{◌+◌, ◌-◌, ℕ, Bool, true, false, if◌then◌else◌, [], ◌∷◌, drop, slice_get, codes, Option, Some, None}
use Rattle.hw_text.specs.declared.code.Code.TheVariants as code
use Rattle.hw_text.specs.declared.place.Place.{Place}
use Rattle.hw_text.specs.declared.placed.Placed.{Placed}
use Rattle.hw_text.specs.declared.refusal.Refusal.{Refusal}
use Rattle.gumbo_parse.specs.declared.flaw.Flaw.{Flaw}
use Rattle.gumbo_parse.specs.declared.flaw.Flaw.TheVariants.{TooDeep, TooLong}
use Rattle.gumbo_parse.specs.declared.mark.Mark.TheVariants as mark
use Rattle.gumbo_parse.specs.declared.token.Token.{Token}
use Rattle.gumbo_parse.specs.declared.token.Token.TheVariants as token
use Rattle.hw_reading.specs.Refusing.{plain, limit}
use Rattle.gumbo_parse.specs.Values.{Tokens}

-- no contract goes on with what stands there
abbrev pub syntax : Place → Refusal
syntax at = plain code.ContractSyntax at

abbrev pub is_semicolon : Token → Bool
is_semicolon (token.Mark mark.Semicolon) = true
is_semicolon _ = false

-- how many tokens stand before the first semicolon, or in all where there is none
abbrev pub span : Tokens → ℕ
span [] = 0
span (t ∷ ts) = if is_semicolon t.token then 0 else span ts + 1

-- where the token stands
abbrev pub place_in : Option (Placed Token) → Place
place_in None = record { line = 0; column = 0 }
place_in (Some t) = t.place

-- what is wrong with the token at the index: a bracket is told where it stands, and too long an expression at its first token, with the
-- number of its tokens
abbrev pub flawed : Tokens → ℕ → Flaw → Refusal
flawed ts i TooDeep = limit code.ContractLimit (codes "nesting") (place_in (slice_get ts i)) 65 64
flawed ts i TooLong = limit code.ContractLimit (codes "tokens") (place_in (slice_get ts (i - 500))) (500 + span (drop i ts)) 500

-- no text goes on with what stands there: a token, or the end
abbrev pub unexpected_there : Place → Option (Placed Token) → Refusal
unexpected_there end None = syntax end
unexpected_there end (Some t) = syntax t.place
