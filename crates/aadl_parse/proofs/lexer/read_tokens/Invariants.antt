use Rattle.std.proofs.Common.{List, ℕ, ◌++◌, length}
use Rattle.hw_text.specs.declared.place.Place.{Place}
use Rattle.hw_text.specs.declared.placed.Placed.{Placed}
use Rattle.hw_text.specs.Text.{skipped}
use Rattle.hw_text.specs.Tokens.{AreTokensOf, Lexes}
use Rattle.aadl_tree.specs.declared.token.Token.{Token}
use Rattle.aadl_tree.specs.Tokens.{token_at}
use Rattle.aadl_parse.specs.Stops.{start}
use Rattle.aadl_parse.proofs.lexer.read_tokens.Given as goal

abbrev pub invariant-tokens : goal.invariant-tokens
invariant-tokens l = (ts : List (Placed Token)) (end : Place) (rest : List ℕ) → AreTokensOf token_at skipped l.place l.rest ts end rest → Lexes token_at skipped start l.bytes (l.tokens ++ ts) end rest

abbrev pub decreases-tokens : goal.decreases-tokens
decreases-tokens l = length l.rest
