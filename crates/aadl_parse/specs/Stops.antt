-- Where the tokens of a model's text end, and why (docs/formats/model.md).
use Rattle.std.specs.Prelude.{◌≡◌, ℕ, if◌then◌else◌, List, [], ◌∷◌}
use Rattle.hw_text.specs.declared.place.Place.{Place}
use Rattle.hw_text.specs.declared.placed.Placed.{Placed}
use Rattle.hw_text.specs.Text.{skipped}
use Rattle.hw_text.specs.Tokens.{Lexes}
use Rattle.aadl_tree.specs.declared.token.Token.{Token}
use Rattle.aadl_tree.specs.Text.{is_bad_byte}
use Rattle.aadl_tree.specs.Tokens.{token_at}
use Rattle.aadl_parse.specs.declared.stop.Stop.{Stop}
use Rattle.aadl_parse.specs.declared.stop.Stop.TheVariants as stop

-- why no token begins at the front of this text, which has none there
abbrev pub stop_at : List ℕ → Stop
stop_at [] = stop.End
stop_at (b ∷ bs) = if is_bad_byte b then stop.BadByte else stop.BadToken

-- where a text begins
abbrev pub start : Place
start = record { line = 1; column = 1 }

-- a text has these tokens, each the longest that stands there, with white space and comments between them; they end at this place, for
-- this cause
pub record IsLexed (bytes : List ℕ) (tokens : List (Placed Token)) (end : Place) (cause : Stop) : Type 0 where
  pub behind : List ℕ
  pub lexed : Lexes token_at skipped start bytes tokens end behind
  pub stopped : cause ≡ stop_at behind
