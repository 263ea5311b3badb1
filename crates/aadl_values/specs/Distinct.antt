-- Words that differ (this project's own).
use Rattle.std.specs.Prelude.{ℕ, Bool, true, ◌&&◌, not, List, [], ◌∷◌, ◌++◌}
use Rattle.std.specs.List.{list_any}
use Rattle.std.specs.Str.{bytes_eq}

-- none of these words is among those before it, the first of them being behind the words of `seen`
abbrev pub are_new : List (List ℕ) → List (List ℕ) → Bool
are_new seen [] = true
are_new seen (w ∷ ws) = not (list_any (bytes_eq w) seen) && are_new (seen ++ w ∷ []) ws

abbrev pub are_distinct : List (List ℕ) → Bool
are_distinct ws = are_new [] ws
