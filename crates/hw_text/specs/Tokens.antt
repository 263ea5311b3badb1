-- What it means that a text has these tokens, for a language that is given by its longest token at the front of a text, and by what
-- stands behind blanks (this project's own).
use Rattle.std.specs.Prelude.{◌≡◌, ℕ, List, [], ◌∷◌, Option, Some, None}
use Rattle.hw_text.specs.declared.place.Place.{Place}
use Rattle.hw_text.specs.declared.placed.Placed.{Placed}
use Rattle.hw_text.specs.Places.{place_of_rest}

-- a text at a place, behind blanks, has these tokens at its front, each the longest that stands there, with blanks between them; at the
-- end stands what begins no token
abbrev pub AreTokensOf : {T : Type 0} → (List ℕ → Option (T × List ℕ)) → (List ℕ → List ℕ) → Place → List ℕ → List (Placed T) → Place → List ℕ → Type 0
AreTokensOf token_at skipped at bs [] end rest = (token_at bs ≡ None) × (end ≡ at) × (rest ≡ bs)
AreTokensOf token_at skipped at bs (t ∷ ts) end rest =
    (after : List ℕ) × (token_at bs ≡ Some (t.token, after)) × (t.place ≡ at) ×
    AreTokensOf token_at skipped (place_of_rest at bs (skipped after)) (skipped after) ts end rest

-- a text at a place has these tokens, and then what begins no token; it is read whole where that is empty
abbrev pub Lexes : {T : Type 0} → (List ℕ → Option (T × List ℕ)) → (List ℕ → List ℕ) → Place → List ℕ → List (Placed T) → Place → List ℕ → Type 0
Lexes token_at skipped at bs ts end rest = AreTokensOf token_at skipped (place_of_rest at bs (skipped bs)) (skipped bs) ts end rest
