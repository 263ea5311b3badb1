-- What is told of a text that is no model: of its length, or of a failure in it (this project's own; docs/formats/model.md).
use Rattle.std.specs.Prelude.{◌+◌, ℕ, pos, min, if◌then◌else◌, List, [], codes, Option, Some, None}
use Rattle.hw_text.specs.declared.code.Code.{Code}
use Rattle.hw_text.specs.declared.code.Code.TheVariants as code
use Rattle.hw_text.specs.declared.place.Place.{Place}
use Rattle.hw_text.specs.declared.placed.Placed.{Placed}
use Rattle.hw_text.specs.declared.refusal.Refusal.{Refusal}
use Rattle.aadl_tree.specs.declared.token.Token.{Token}
use Rattle.aadl_tree.specs.declared.token.Token.TheVariants as token
use Rattle.aadl_tree.specs.Words.{word_spelling, is_left_out}
use Rattle.aadl_parse.specs.declared.flaw.Flaw.{Flaw}
use Rattle.aadl_parse.specs.declared.flaw.Flaw.TheVariants as flaw
use Rattle.aadl_parse.specs.declared.stop.Stop.{Stop}
use Rattle.aadl_parse.specs.declared.stop.Stop.TheVariants as stop
use Rattle.aadl_parse.specs.LeftOut.{is_left_out_name}
use Rattle.aadl_parse.specs.Stops.{start}

-- a refusal with no detail
abbrev pub plain : Code → Place → Refusal
plain c at = record { code = c; place = at; word = []; low = pos 0; high = pos 0; length = pos 0 }

-- a refusal that names a word
abbrev pub named : Code → Place → List ℕ → Refusal
named c at word = record { code = c; place = at; word = word; low = pos 0; high = pos 0; length = pos 0 }

-- what there is more of than is allowed, how much, and how much is allowed
abbrev pub limit : List ℕ → Place → ℕ → ℕ → Refusal
limit kind at counted allowed =
    record { code = code.ModelLimit; place = at; word = kind; low = pos counted; high = pos allowed; length = pos 0 }

abbrev pub too_long : ℕ → Refusal
too_long counted = limit (codes "bytes") start counted 1048576

-- no model goes on with this token
abbrev pub unexpected : Token → Place → Refusal
unexpected (token.Word w) at = if is_left_out w then named code.ModelUnsupported at (word_spelling w) else plain code.ModelSyntax at
unexpected (token.Name n) at = if is_left_out_name n then named code.ModelUnsupported at n else plain code.ModelSyntax at
unexpected _ at = plain code.ModelSyntax at

-- the place so many bytes further on the line, behind the quote that stands there
abbrev pub behind_quote : Place → ℕ → Place
behind_quote at n = record { line = at.line; column = min (at.column + 1 + n) 4294967295 }

-- what is wrong with the token that stands there
abbrev pub flawed : Place → Flaw → Refusal
flawed at flaw.TooDeep = limit (codes "nesting") at 65 64
flawed at (flaw.BadByte n) = plain code.ModelBadByte (behind_quote at n)

-- the tokens end there, and are no model
abbrev pub stopped : Stop → Place → Refusal
stopped stop.End at = plain code.ModelSyntax at
stopped stop.BadByte at = plain code.ModelBadByte at
stopped stop.BadToken at = plain code.ModelBadToken at

-- no text goes on with what stands there: a token, or the end
abbrev pub unexpected_there : Place → Stop → Option (Placed Token) → Refusal
unexpected_there end cause None = stopped cause end
unexpected_there end cause (Some t) = unexpected t.token t.place
