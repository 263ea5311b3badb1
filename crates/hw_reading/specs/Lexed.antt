-- Which tokens a text has, for a language that is given by its longest token at the front of a text, and by what stands behind blanks (this
-- project's own).
use Rattle.std.specs.Prelude.{◌≡◌, ℕ, List, [], map, Option}
use Rattle.hw_text.specs.declared.place.Place.{Place}
use Rattle.hw_text.specs.declared.placed.Placed.{Placed}
use Rattle.hw_text.specs.Tokens.{Lexes}

-- a text that stands there has these tokens and no others, each the longest at its place, with blanks between them
pub record HasTokensAt {T : Type 0} (token_at : List ℕ → Option (T × List ℕ)) (skipped : List ℕ → List ℕ) (at : Place) (bytes : List ℕ) (ts : List T) : Type 0 where
  pub placed : List (Placed T)
  pub end : Place
  pub lexed : Lexes token_at skipped at bytes placed end []
  pub same : map (λ t. t.token) placed ≡ ts
  pub only : (others : List (Placed T)) (other : Place) (rest : List ℕ) → Lexes token_at skipped at bytes others other rest → others ≡ placed

-- the same wherever it stands
abbrev pub HasTokens : {T : Type 0} → (List ℕ → Option (T × List ℕ)) → (List ℕ → List ℕ) → List ℕ → List T → Type 0
HasTokens token_at skipped bytes ts = (at : Place) → HasTokensAt token_at skipped at bytes ts
