-- The names of C (ISO/IEC 9899:2011, 6.4.2; docs/formats/c.md).
use Rattle.std.specs.Prelude.{ℕ, Bool, false, ◌&&◌, ◌||◌, not, ◌==◌, List, [], ◌∷◌}
use Rattle.std.specs.List.{list_all}
use Rattle.hw_text.specs.Name.{is_letter, is_letter_or_digit}
use Rattle.hw_types.specs.CWords.{is_c_word}

abbrev pub begins_name : ℕ → Bool
begins_name b = is_letter b || (b == 95)

abbrev pub continues_name : ℕ → Bool
continues_name b = is_letter_or_digit b || (b == 95)

-- a letter or underscore, and then letters, digits and underscores
abbrev pub is_spelled_as_name : List ℕ → Bool
is_spelled_as_name [] = false
is_spelled_as_name (b ∷ bs) = begins_name b && list_all continues_name bs

-- spelled as a name, and no word
unfoldable pub is_identifier : List ℕ → Bool
is_identifier bs = is_spelled_as_name bs && not (is_c_word bs)
