-- A text has these tokens and no others (this project's own).
use Rattle.std.specs.Prelude.{◌≡◌, ℕ, List, [], map}
use Rattle.hw_text.specs.declared.place.Place.{Place}
use Rattle.hw_text.specs.declared.placed.Placed.{Placed}
use Rattle.c_parse.specs.declared.token.Token.{Token}
use Rattle.c_parse.specs.Tokens.{HasTokens}

-- each token is the longest at its place, with white space between them, up to the end of the text
pub record IsLexedAs (bytes : List ℕ) (ts : List Token) : Type 0 where
  pub placed : List (Placed Token)
  pub end : Place
  pub lexed : HasTokens bytes placed end []
  pub same : map (λ t. t.token) placed ≡ ts
  pub only : (others : List (Placed Token)) (other : Place) (rest : List ℕ) → HasTokens bytes others other rest → others ≡ placed
