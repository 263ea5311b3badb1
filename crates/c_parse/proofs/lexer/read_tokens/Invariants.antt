use Rattle.std.proofs.Common.{List, ℕ, ◌++◌, length}
use Rattle.hw_text.specs.declared.place.Place.{Place}
use Rattle.hw_text.specs.declared.placed.Placed.{Placed}
use Rattle.hw_text.specs.Tokens.{AreTokensOf}
use Rattle.c_parse.specs.declared.token.Token.{Token}
use Rattle.c_parse.specs.Blanks.{skipped}
use Rattle.c_parse.specs.Tokens.{token_at, HasTokens}
use Rattle.c_parse.proofs.lexer.read_tokens.Given as goal

abbrev pub invariant-tokens : goal.invariant-tokens
invariant-tokens l = (ts : List (Placed Token)) (end : Place) (rest : List ℕ) → AreTokensOf token_at skipped l.place l.rest ts end rest → HasTokens l.bytes (l.tokens ++ ts) end rest

abbrev pub decreases-tokens : goal.decreases-tokens
decreases-tokens l = length l.rest
