-- Names of AADL text (SAE AS5506, identifiers), in the profile of docs/formats/model.md.
use Rattle.std.specs.Prelude.{ℕ, Bool, true, false, ◌&&◌, ◌||◌, not, ◌==◌, nat_le, if◌then◌else◌, List, [], ◌∷◌, map, codes}
use Rattle.std.specs.Char.{to_ascii_lowercase}
use Rattle.std.specs.List.{list_any}
use Rattle.std.specs.Str.{bytes_eq}

abbrev pub is_upper_letter : ℕ → Bool
is_upper_letter b = nat_le 65 b && nat_le b 90

abbrev pub is_lower_letter : ℕ → Bool
is_lower_letter b = nat_le 97 b && nat_le b 122

abbrev pub is_letter : ℕ → Bool
is_letter b = is_upper_letter b || is_lower_letter b

abbrev pub is_digit : ℕ → Bool
is_digit b = nat_le 48 b && nat_le b 57

abbrev pub is_letter_or_digit : ℕ → Bool
is_letter_or_digit b = is_letter b || is_digit b

-- letters, digits and single underscores, each followed by a letter or digit; before them stands an underscore or not
abbrev pub is_name_tail : Bool → List ℕ → Bool
is_name_tail after_underscore [] = not after_underscore
is_name_tail after_underscore (b ∷ bs) =
    if is_letter_or_digit b then is_name_tail false bs else (b == 95 && (not after_underscore && is_name_tail true bs))

-- a letter, and then such a tail
abbrev pub is_spelled_as_name : List ℕ → Bool
is_spelled_as_name [] = false
is_spelled_as_name (b ∷ bs) = is_letter b && is_name_tail false bs

-- the same bytes with the letters A to Z put in lower case
abbrev pub lowered : List ℕ → List ℕ
lowered bs = map to_ascii_lowercase bs

-- the words that are no names: those of the grammar, and those that this profile leaves out
abbrev pub reserved_words : List (List ℕ)
reserved_words =
    codes "abstract" ∷ codes "access" ∷ codes "annex" ∷ codes "applies" ∷ codes "bus" ∷ codes "calls" ∷
    codes "classifier" ∷ codes "compute" ∷ codes "connections" ∷ codes "constant" ∷ codes "data" ∷ codes "delta" ∷
    codes "device" ∷ codes "end" ∷ codes "event" ∷ codes "extends" ∷ codes "false" ∷ codes "feature" ∷
    codes "features" ∷ codes "flow" ∷ codes "flows" ∷ codes "group" ∷ codes "implementation" ∷ codes "in" ∷
    codes "inverse" ∷ codes "memory" ∷ codes "modes" ∷ codes "none" ∷ codes "out" ∷ codes "package" ∷
    codes "parameter" ∷ codes "port" ∷ codes "private" ∷ codes "process" ∷ codes "processor" ∷ codes "properties" ∷
    codes "prototypes" ∷ codes "provides" ∷ codes "public" ∷ codes "reference" ∷ codes "refined" ∷ codes "renames" ∷
    codes "requires" ∷ codes "self" ∷ codes "subcomponents" ∷ codes "subprogram" ∷ codes "system" ∷ codes "thread" ∷
    codes "to" ∷ codes "true" ∷ codes "virtual" ∷ codes "with" ∷ []

-- the same word but for case
abbrev pub is_same_word : List ℕ → List ℕ → Bool
is_same_word one other = bytes_eq (lowered one) (lowered other)

-- a reserved word, in whatever case
unfoldable pub is_reserved : List ℕ → Bool
is_reserved word = list_any (is_same_word word) reserved_words

-- spelled as a name, and not reserved
abbrev pub is_name : List ℕ → Bool
is_name bs = is_spelled_as_name bs && not (is_reserved bs)
