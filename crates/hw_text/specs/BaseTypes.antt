-- The base types and their names (SAE AS5506, base types; docs/formats/model.md).
use Rattle.std.specs.Prelude.{ℕ, if◌then◌else◌, List, [], ◌∷◌, codes, Option, Some, None}
use Rattle.std.specs.Str.{bytes_eq}
use Rattle.hw_text.specs.declared.base_type.BaseType.{BaseType}
use Rattle.hw_text.specs.declared.base_type.BaseType.TheVariants.{Boolean, Integer8, Integer16, Integer32, Integer64, Unsigned8, Unsigned16, Unsigned32, Unsigned64}

-- the name behind `base_types::`
unfoldable pub base_name : BaseType → List ℕ
base_name Boolean = codes "boolean"
base_name Integer8 = codes "integer_8"
base_name Integer16 = codes "integer_16"
base_name Integer32 = codes "integer_32"
base_name Integer64 = codes "integer_64"
base_name Unsigned8 = codes "unsigned_8"
base_name Unsigned16 = codes "unsigned_16"
base_name Unsigned32 = codes "unsigned_32"
base_name Unsigned64 = codes "unsigned_64"

abbrev pub all_bases : List BaseType
all_bases = Boolean ∷ Integer8 ∷ Integer16 ∷ Integer32 ∷ Integer64 ∷ Unsigned8 ∷ Unsigned16 ∷ Unsigned32 ∷ Unsigned64 ∷ []

-- the first of these base types that has this name
abbrev pub base_among : List BaseType → List ℕ → Option BaseType
base_among [] n = None
base_among (b ∷ bs) n = if bytes_eq n (base_name b) then Some b else base_among bs n

-- the base type of this name
unfoldable pub base_named : List ℕ → Option BaseType
base_named n = base_among all_bases n
