-- Which tokens a text has (this project's own).
use Rattle.std.specs.Prelude.{ℕ, List}
use Rattle.hw_text.specs.Text.{skipped}
use Rattle.hw_reading.specs.Lexed as lexed
use Rattle.gumbo_parse.specs.declared.token.Token.{Token}
use Rattle.gumbo_parse.specs.Tokens.{token_at}

-- a text has these tokens and no others, each the longest at its place, with white space and comments between them
abbrev pub HasTokens : List ℕ → List Token → Type 0
HasTokens = lexed.HasTokens token_at skipped
