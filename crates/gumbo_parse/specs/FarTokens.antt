-- How far behind the colon of a clause a text has come, told by its tokens (this project's own; docs/formats/contracts.md).
use Rattle.std.specs.Prelude.{◌≡◌, ℕ, Bool, true, false, ◌∷◌, ◌++◌, length}
use Rattle.std.specs.List.{All}
use Rattle.hw_text.specs.declared.placed.Placed.{Placed}
use Rattle.gumbo_parse.specs.declared.mark.Mark.TheVariants as mark
use Rattle.gumbo_parse.specs.declared.token.Token.{Token}
use Rattle.gumbo_parse.specs.declared.token.Token.TheVariants as token
use Rattle.gumbo_parse.specs.declared.word.Word.TheVariants as word
use Rattle.gumbo_parse.specs.Values.{Tokens}

-- `assume` or `guarantee`
abbrev pub begins_clause : Token → Bool
begins_clause (token.Word word.Assume) = true
begins_clause (token.Word word.Guarantee) = true
begins_clause _ = false

-- neither one of these nor `;`
abbrev pub stays_in_clause : Token → Bool
stays_in_clause (token.Word word.Assume) = false
stays_in_clause (token.Word word.Guarantee) = false
stays_in_clause (token.Mark mark.Semicolon) = false
stays_in_clause _ = true

-- nor `:`
abbrev pub stays_in_heading : Token → Bool
stays_in_heading (token.Word word.Assume) = false
stays_in_heading (token.Word word.Guarantee) = false
stays_in_heading (token.Mark mark.Semicolon) = false
stays_in_heading (token.Mark mark.Colon) = false
stays_in_heading _ = true

-- tokens that end in the heading of a clause: its word, and what stands between that and its colon
pub record EndsInHeading (ts : Tokens) : Type 0 where
  pub front : Tokens
  pub word : Placed Token
  pub heading : Tokens
  pub parts : ts ≡ front ++ word ∷ heading
  pub begun : begins_clause word.token ≡ true
  pub headed : All (λ t. stays_in_heading t.token ≡ true) heading

-- tokens that end so many tokens behind the colon of a clause, in its expression
pub record EndsInExpression (ts : Tokens) (n : ℕ) : Type 0 where
  pub before : Tokens
  pub colon : Placed Token
  pub behind : Tokens
  pub parts : ts ≡ before ++ colon ∷ behind
  pub headed : EndsInHeading before
  pub divided : colon.token ≡ token.Mark mark.Colon
  pub inner : All (λ t. stays_in_clause t.token ≡ true) behind
  pub counted : length behind ≡ n
