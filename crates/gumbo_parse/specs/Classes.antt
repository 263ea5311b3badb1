-- The types of state variables: their grammar and canonical text (this project's own; docs/formats/contracts.md).
use Rattle.std.specs.Prelude.{ℕ, List, [], ◌∷◌, ◌++◌, codes, Option, Some, None}
use Rattle.std.specs.List.{flat_map}
use Rattle.hw_text.specs.declared.place.Place.{Place}
use Rattle.hw_text.specs.Language.{One, ◌⋅◌, Maybe, Each, Made, ◌∣◌}
use Rattle.hw_text.specs.declared.base_type.BaseType.{BaseType}
use Rattle.hw_text.specs.BaseTypes.{base_name}
use Rattle.gumbo_parse.specs.declared.class.Class.{Class}
use Rattle.gumbo_parse.specs.declared.class.Class.TheVariants.{Base, Model}
use Rattle.gumbo_parse.specs.declared.class.Variable.{Variable}
use Rattle.gumbo_parse.specs.declared.class_name.ClassName.{ClassName}
use Rattle.gumbo_parse.specs.declared.expression.Named.{Named}
use Rattle.gumbo_parse.specs.declared.mark.Mark.TheVariants as mark
use Rattle.gumbo_parse.specs.declared.shape.Shape.TheVariants as shape
use Rattle.gumbo_parse.specs.ClassNames.{other_of}
use Rattle.gumbo_parse.specs.Grammar.{Sign, Name}
use Rattle.gumbo_parse.specs.Values.{Tokens, place_of, base_of}

abbrev pub base_class : Place × (Place × BaseType) → Class
base_class p = Base p.0 p.1.1

-- "base_types" "::" BASE
abbrev pub SpellsBase : Class → Tokens → Type 0
SpellsBase = Made base_class (One (place_of shape.BasePackage) ⋅ Sign mark.DoubleColon ⋅ One base_of)

abbrev pub name_behind : Place × Named → List ℕ
name_behind p = p.1.name

-- "::" NAME
abbrev pub SpellsStep : List ℕ → Tokens → Type 0
SpellsStep = Made name_behind (Sign mark.DoubleColon ⋅ Name)

-- "." NAME
abbrev pub SpellsImplementation : List ℕ → Tokens → Type 0
SpellsImplementation = Made name_behind (Sign mark.Dot ⋅ Name)

abbrev pub model_class : ClassName × (List (List ℕ) × Option (List ℕ)) → Class
model_class p = Model (record { first = p.0; others = p.1.0; implementation = p.1.1 })

-- NAME { "::" NAME } [ "." NAME ], whose first name is not `base_types`
abbrev pub SpellsModel : Class → Tokens → Type 0
SpellsModel = Made model_class (One other_of ⋅ Each SpellsStep ⋅ Maybe SpellsImplementation)

abbrev pub SpellsClass : Class → Tokens → Type 0
SpellsClass = SpellsBase ∣ SpellsModel

abbrev pub variable_of : Named × (Place × (Class × Place)) → Variable
variable_of p = record { name = p.0; class = p.1.1.0 }

-- NAME ":" class ";"
abbrev pub SpellsVariable : Variable → Tokens → Type 0
SpellsVariable = Made variable_of (Name ⋅ Sign mark.Colon ⋅ SpellsClass ⋅ Sign mark.Semicolon)

abbrev pub behind_colons : List ℕ → List ℕ
behind_colons n = codes "::" ++ n

abbrev pub implementation_text : Option (List ℕ) → List ℕ
implementation_text None = []
implementation_text (Some n) = codes "." ++ n

abbrev pub base_text : BaseType → List ℕ
base_text base = codes "base_types::" ++ base_name base

-- a reference to a type as it is written, in lower case
abbrev pub class_text : Class → List ℕ
class_text (Base at base) = base_text base
class_text (Model m) = m.first.name ++ flat_map behind_colons m.others ++ implementation_text m.implementation

-- one line
abbrev pub variable_text : Variable → List ℕ
variable_text v = v.name.name ++ codes ": " ++ class_text v.class ++ codes ";" ++ 10 ∷ []
