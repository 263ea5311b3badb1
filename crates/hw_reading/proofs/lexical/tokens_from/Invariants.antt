use Rattle.std.proofs.Common.{List, ℕ, ◌++◌, length}
use Rattle.hw_text.specs.declared.place.Place.{Place}
use Rattle.hw_text.specs.declared.placed.Placed.{Placed}
use Rattle.hw_text.specs.Tokens.{AreTokensOf}
use Rattle.hw_reading.proofs.lexical.tokens_from.Given as goal

abbrev pub invariant-tokens : goal.invariant-tokens
invariant-tokens g l =
    (ts : List (Placed _)) (end : Place) (rest : List ℕ) → AreTokensOf g.L.Lexical.token_at g.L.Lexical.skipped l.place l.rest ts end rest → AreTokensOf g.L.Lexical.token_at g.L.Lexical.skipped l.fn.at l.bytes (l.tokens ++ ts) end rest

abbrev pub decreases-tokens : goal.decreases-tokens
decreases-tokens g l = length l.rest
