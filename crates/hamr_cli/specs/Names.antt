-- Names that differ.
use Rattle.std.specs.Prelude.{◌≢◌, ℕ, Bool, true, ◌&&◌, not, List, [], ◌∷◌, ◌++◌, AllPairs}
use Rattle.std.specs.List.{list_any}
use Rattle.std.specs.Str.{bytes_eq}

abbrev pub is_among : List ℕ → List (List ℕ) → Bool
is_among name names = list_any (bytes_eq name) names

-- no name is among these, or twice there
abbrev pub are_new : List (List ℕ) → List (List ℕ) → Bool
are_new seen [] = true
are_new seen (name ∷ names) = not (is_among name seen) && are_new (seen ++ name ∷ []) names

-- no two are equal
abbrev pub Differ : List (List ℕ) → Type 0
Differ names = AllPairs (λ name other. name ≢ other) names
