-- The words of a trace: what stands between its spaces, commas, brackets and line ends.
use Rattle.std.specs.Prelude.{◌≡◌, ℕ, Bool, true, ◌||◌, not, ◌==◌, List, [], ◌∷◌}
use Rattle.std.specs.List.{list_all}

-- a space, a comma, a bracket or a line end
abbrev pub ends_word : ℕ → Bool
ends_word b = b == 32 || (b == 44 || (b == 91 || (b == 93 || b == 10)))

abbrev pub is_word_byte : ℕ → Bool
is_word_byte b = not (ends_word b)

abbrev pub IsWord : List ℕ → Type 0
IsWord bytes = list_all is_word_byte bytes ≡ true

-- bytes before which a word ends
abbrev pub EndsWord : List ℕ → Type 0
EndsWord [] = Unit {0}
EndsWord (b ∷ bs) = ends_word b ≡ true
