-- The canonical tokens of a tree, one case for each production of the grammar (docs/formats/model.md): those of classifiers, and of
-- what stands in several places.
use Rattle.std.specs.Prelude.{ℕ, List, [], ◌∷◌, ◌++◌, codes, Option, Some, None}
use Rattle.std.specs.List.{flat_map}
use Rattle.aadl_tree.specs.declared.token.Token.{Token}
use Rattle.aadl_tree.specs.declared.token.Token.TheVariants as token
use Rattle.aadl_tree.specs.declared.word.Word.{Word}
use Rattle.aadl_tree.specs.declared.word.Word.TheVariants as word
use Rattle.aadl_tree.specs.declared.mark.Mark.TheVariants as mark
use Rattle.aadl_tree.specs.declared.category.Category.{Category}
use Rattle.aadl_tree.specs.declared.category.Category.TheVariants as category
use Rattle.aadl_tree.specs.declared.names.QualifiedName.{QualifiedName}
use Rattle.aadl_tree.specs.declared.names.Path.{Path}
use Rattle.aadl_tree.specs.declared.names.ImplementationName.{ImplementationName}
use Rattle.hw_text.specs.declared.base_type.BaseType.{BaseType}
use Rattle.aadl_tree.specs.declared.class.Class.{Class}
use Rattle.aadl_tree.specs.declared.class.Class.TheVariants.{Base, Model}
use Rattle.hw_text.specs.BaseTypes.{base_name}

abbrev pub category_word : Category → Word
category_word category.Data = word.Data
category_word category.Thread = word.Thread
category_word category.Process = word.Process
category_word category.System = word.System
category_word category.Device = word.Device
category_word category.Processor = word.Processor

-- "," x
abbrev pub behind_comma : {X : Type 0} → (X → List Token) → X → List Token
behind_comma tokens x = token.Mark mark.Comma ∷ tokens x

-- "::" NAME
abbrev pub behind_colons : List ℕ → List Token
behind_colons n = token.Mark mark.DoubleColon ∷ token.Name n ∷ []

-- "." NAME
abbrev pub behind_dot : List ℕ → List Token
behind_dot n = token.Mark mark.Dot ∷ token.Name n ∷ []

-- [ "." NAME ]
abbrev pub maybe_behind_dot : Option (List ℕ) → List Token
maybe_behind_dot None = []
maybe_behind_dot (Some n) = behind_dot n

-- NAME { "::" NAME }
unfoldable pub qualified_tokens : QualifiedName → List Token
qualified_tokens q = token.Name q.first.name ∷ flat_map behind_colons q.others

-- NAME { "." NAME }
unfoldable pub path_tokens : Path → List Token
path_tokens p = token.Name p.first.name ∷ flat_map behind_dot p.others

-- NAME "." NAME
abbrev pub implementation_name_tokens : ImplementationName → List Token
implementation_name_tokens n = token.Name n.component_type.name ∷ behind_dot n.name

-- "base_types" "::" BASE
abbrev pub base_tokens : BaseType → List Token
base_tokens base = token.Name (codes "base_types") ∷ token.Mark mark.DoubleColon ∷ token.Name (base_name base) ∷ []

-- the same, or NAME { "::" NAME } [ "." NAME ]
abbrev pub class_tokens : Class → List Token
class_tokens (Base at base) = base_tokens base
class_tokens (Model m) = token.Name m.first.name ∷ flat_map behind_colons m.others ++ maybe_behind_dot m.implementation

-- nothing for no member, and else the word and the members
abbrev pub section_tokens : {X : Type 0} → Word → (X → List Token) → List X → List Token
section_tokens w tokens [] = []
section_tokens w tokens (x ∷ xs) = token.Word w ∷ flat_map tokens (x ∷ xs)
