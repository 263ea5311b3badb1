-- References as text: names and classifiers as they are written, prefix included, in lower case, as refusals and notes tell them (this
-- project's own).
use Rattle.std.specs.Prelude.{ℕ, List, [], ◌∷◌, ◌++◌, codes, Option, Some, None}
use Rattle.std.specs.List.{flat_map}
use Rattle.hw_text.specs.BaseTypes.{base_name}
use Rattle.aadl_tree.specs.declared.names.QualifiedName.{QualifiedName}
use Rattle.aadl_tree.specs.declared.names.Path.{Path}
use Rattle.aadl_tree.specs.declared.names.ImplementationName.{ImplementationName}
use Rattle.aadl_tree.specs.declared.class.ModelClass.{ModelClass}
use Rattle.aadl_tree.specs.declared.class.Class.{Class}
use Rattle.aadl_tree.specs.declared.class.Class.TheVariants.{Base, Model}
use Rattle.aadl_tree.specs.declared.connection.ConnectionEnd.{ConnectionEnd}

-- names with such a mark between them
abbrev pub parted : List ℕ → List (List ℕ) → List ℕ
parted mark [] = []
parted mark (n ∷ ns) = n ++ flat_map (λ m. mark ++ m) ns

-- the last of a name and others behind it
abbrev pub last_of : List ℕ → List (List ℕ) → List ℕ
last_of n [] = n
last_of n (m ∷ ms) = last_of m ms

-- a name and others behind it, without the last
abbrev pub without_last : List ℕ → List (List ℕ) → List (List ℕ)
without_last n [] = []
without_last n (m ∷ ms) = n ∷ without_last m ms

-- `data_model::enumerators`
abbrev pub qualified_text : QualifiedName → List ℕ
qualified_text q = parted (codes "::") (q.first.name ∷ q.others)

-- `enumerators` of it
abbrev pub last_name : QualifiedName → List ℕ
last_name q = last_of q.first.name q.others

-- `plant.pump.on`
abbrev pub path_text : Path → List ℕ
path_text p = parted (codes ".") (p.first.name ∷ p.others)

-- `pump.i`
abbrev pub implementation_text : ImplementationName → List ℕ
implementation_text n = parted (codes ".") (n.component_type.name ∷ n.name ∷ [])

-- the name behind a dot, where there is one
abbrev pub dotted : Option (List ℕ) → List ℕ
dotted None = []
dotted (Some n) = codes "." ++ n

-- `pump.on`, or `on`
abbrev pub end_text : ConnectionEnd → List ℕ
end_text e = e.first.name ++ dotted e.port

-- `base_types::integer_32`, or `plant::pump.i`
abbrev pub class_text : Class → List ℕ
class_text (Base at base) = codes "base_types::" ++ base_name base
class_text (Model c) = parted (codes "::") (c.first.name ∷ c.others) ++ dotted c.implementation

-- `pump` of it: the last name before the dot
abbrev pub type_name : ModelClass → List ℕ
type_name c = last_of c.first.name c.others

-- `plant` of it: the names before that one; nothing where there are none
abbrev pub prefix_text : ModelClass → List ℕ
prefix_text c = parted (codes "::") (without_last c.first.name c.others)
