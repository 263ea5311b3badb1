-- Contracts that are written piece by piece.
use Rattle.std.proofs.Common.{ℕ, List}
use Rattle.hw_text.specs.Text.{skipped}
use Rattle.hw_reading.proofs.Written as written
use Rattle.gumbo_parse.specs.Allowed.{IsAllowed}
use Rattle.gumbo_parse.specs.declared.token.Token.{Token}
use Rattle.gumbo_parse.specs.Tokens.{token_at}

-- the text of a token with this behind it begins with the token, and with no blank
abbrev pub StandsBefore : List ℕ → Token → List ℕ → Type 0
StandsBefore = written.StandsBefore token_at skipped

-- before what this holds of, the bytes are these tokens, where those are allowed
abbrev pub Writes : (List ℕ → Type 0) → List ℕ → List Token → Type 0
Writes = written.Writes token_at skipped IsAllowed
