-- The canonical text of what declarations name, and of lists (this project's own; docs/formats/c.md).
use Rattle.std.specs.Prelude.{ℕ, Bool, if◌then◌else◌, List, [], ◌∷◌, ◌++◌, codes, Option, Some, None}
use Rattle.std.specs.List.{flat_map}
use Rattle.c_tree.specs.declared.named.Named.{Named}
use Rattle.c_tree.specs.declared.named.Literal.{Literal}
use Rattle.c_tree.specs.declared.named.SignedLiteral.{SignedLiteral}
use Rattle.c_tree.specs.declared.type_name.TypeName.{TypeName}
use Rattle.c_tree.specs.declared.type_name.TypeName.TheVariants.{Integer, Truth, Defined}
use Rattle.c_tree.specs.Types.{integer_text}

abbrev pub type_text : TypeName → List ℕ
type_text (Integer at class) = integer_text class
type_text (Truth at) = codes "bool"
type_text (Defined x) = x.name.bytes

abbrev pub truth_text : Bool → List ℕ
truth_text b = if b then codes "true" else codes "false"

abbrev pub signed_text : SignedLiteral → List ℕ
signed_text l = (if l.negative then codes "-" else []) ++ l.literal.numeral.bytes

-- the length of an array, where it is one
abbrev pub length_text : Option Literal → List ℕ
length_text None = []
length_text (Some l) = codes "[" ++ l.numeral.bytes ++ codes "]"

-- a type, a name, and the length of an array
abbrev pub declared_text : TypeName → Named → Option Literal → List ℕ
declared_text class x length = type_text class ++ codes " " ++ x.name.bytes ++ length_text length

abbrev pub behind_comma : List ℕ → List ℕ
behind_comma text = codes ", " ++ text

-- one after another, with commas between
abbrev pub with_commas : List (List ℕ) → List ℕ
with_commas [] = []
with_commas (t ∷ ts) = t ++ flat_map behind_comma ts
