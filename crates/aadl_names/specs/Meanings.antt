-- What the references of a model mean (after SAE AS5506, name spaces; this project's own where it differs: one package, and the first
-- declaration of a name is meant).
use Rattle.std.specs.Prelude.{ℕ, ◌==◌, Bool, true, false, List, [], ◌∷◌, map, Option, Some, None, if◌then◌else◌, option_map, option_and_then, slice_get}
use Rattle.std.specs.Str.{bytes_eq}
use Rattle.aadl_tree.specs.declared.category.Category.{Category}
use Rattle.aadl_tree.specs.declared.category.Category.TheVariants as category
use Rattle.aadl_tree.specs.declared.class.Class.{Class}
use Rattle.aadl_tree.specs.declared.class.Class.TheVariants.{Base, Model}
use Rattle.aadl_tree.specs.declared.component.Implementation.{Implementation}
use Rattle.aadl_tree.specs.declared.connection.Connection.{Connection}
use Rattle.aadl_tree.specs.declared.connection.ConnectionEnd.{ConnectionEnd}
use Rattle.aadl_tree.specs.declared.feature.Feature.{Feature}
use Rattle.aadl_tree.specs.declared.feature.PortKind.{PortKind}
use Rattle.aadl_tree.specs.declared.feature.PortKind.TheVariants as kind
use Rattle.aadl_tree.specs.declared.names.Named.{Named}
use Rattle.aadl_tree.specs.declared.names.Path.{Path}
use Rattle.aadl_tree.specs.declared.package.Package.{Package}
use Rattle.aadl_tree.specs.declared.subcomponent.Subcomponent.{Subcomponent}
use Rattle.aadl_tree.specs.References.{qualified_text, prefix_text, type_name}
use Rattle.aadl_names.specs.declared.class_row.ClassRow.{ClassRow}
use Rattle.aadl_names.specs.declared.class_row.ClassRow.TheVariants as row
use Rattle.aadl_names.specs.declared.element.Element.{Element}
use Rattle.aadl_names.specs.declared.element.Element.TheVariants as element
use Rattle.aadl_names.specs.declared.parts.PartRow.{PartRow}
use Rattle.aadl_names.specs.declared.references.References.{References}
use Rattle.aadl_names.specs.declared.resolved.Resolved.{Resolved}
use Rattle.aadl_names.specs.declared.tables.Tables.{Tables}
use Rattle.aadl_names.specs.Keys.{Key, key, type_key, implementation_key, place_of}

-- the key of a part: its declaration, and its name
abbrev pub part_key : {T : Type 0} → (T → Named) → PartRow T → Key
part_key name row = key row.owner (name row.part).name []

-- the names of a package and of all that it declares
abbrev pub references_of : Package → Tables → References
references_of p t = record {
  package_name = qualified_text p.name;
  types = map type_key t.types;
  implementations = map implementation_key t.implementations;
  features = map (part_key (λ (f : Feature). f.name)) t.features;
  subcomponents = map (part_key (λ (s : Subcomponent). s.name)) t.subcomponents;
  connections = map (part_key (λ (c : Connection). c.name)) t.connections;
}

-- nothing, or the name of the package
abbrev pub is_own_prefix : List ℕ → List ℕ → Bool
is_own_prefix own [] = true
is_own_prefix own (b ∷ bs) = bytes_eq (b ∷ bs) own

-- the first type of the name, or the first implementation of both
abbrev pub row_named : References → List ℕ → Option (List ℕ) → Option ClassRow
row_named r name None = option_map row.Type (place_of r.types (key 0 name []))
row_named r name (Some implementation) = option_map row.Implementation (place_of r.implementations (key 0 name implementation))

-- what a classifier refers to
abbrev pub class_row : References → Class → Option ClassRow
class_row r (Base at base) = Some row.Base
class_row r (Model c) = if is_own_prefix r.package_name (prefix_text c) then row_named r (type_name c) c.implementation else None

-- a base type is data
abbrev pub category_of : Tables → ClassRow → Option Category
category_of t row.Base = Some category.Data
category_of t (row.Type n) = option_map (λ type. type.category) (slice_get t.types n)
category_of t (row.Implementation n) = option_map (λ implementation. implementation.category) (slice_get t.implementations n)

abbrev pub number_of : Category → ℕ
number_of category.Data = 0
number_of category.Thread = 1
number_of category.Process = 2
number_of category.System = 3
number_of category.Device = 4
number_of category.Processor = 5

abbrev pub is_of : Category → Option Category → Bool
is_of asked None = false
is_of asked (Some found) = number_of asked == number_of found

-- what a classifier means where one of this category is asked for: one of another category is nothing there
abbrev pub means : References → Tables → Category → Class → Option ClassRow
means r t asked class = option_and_then (λ found. if is_of asked (category_of t found) then Some found else None) (class_row r class)

-- the type of an implementation: the first of its name, which is of its category
abbrev pub type_of : References → Tables → Implementation → Option ℕ
type_of r t i =
    option_and_then (λ found. if is_of i.category (category_of t (row.Type found)) then Some found else None)
    (place_of r.types (key 0 i.name.component_type.name []))

-- the data that a port carries; events carry none
abbrev pub payload_of : References → Tables → PortKind → Option ClassRow
payload_of r t (kind.Data class) = means r t category.Data class
payload_of r t kind.Event = None
payload_of r t (kind.EventData class) = means r t category.Data class

-- what each implementation, port and subcomponent refers to
abbrev pub resolved_of : References → Tables → Resolved
resolved_of r t = record {
  types = map (type_of r t) t.implementations;
  payloads = map (λ (port : PartRow Feature). payload_of r t port.part.kind) t.features;
  classes = map (λ (s : PartRow Subcomponent). means r t s.part.category s.part.class) t.subcomponents;
}

abbrev pub at_row : {X : Type 0} → List (Option X) → ℕ → Option X
at_row rows n = option_and_then (λ found. found) (slice_get rows n)

-- the type of what a classifier refers to
abbrev pub type_row : Resolved → ClassRow → Option ℕ
type_row to row.Base = None
type_row to (row.Type n) = Some n
type_row to (row.Implementation n) = at_row to.types n

-- the row of its feature of this name
abbrev pub feature_row : References → Resolved → ClassRow → List ℕ → Option ℕ
feature_row r to within name = option_and_then (λ type. place_of r.features (key type name [])) (type_row to within)

-- the row of its subcomponent of this name, which an implementation alone has
abbrev pub subcomponent_row : References → ClassRow → List ℕ → Option ℕ
subcomponent_row r row.Base name = None
subcomponent_row r (row.Type n) name = None
subcomponent_row r (row.Implementation n) name = place_of r.subcomponents (key n name [])

-- and that of its connection
abbrev pub connection_row : References → ClassRow → List ℕ → Option ℕ
connection_row r row.Base name = None
connection_row r (row.Type n) name = None
connection_row r (row.Implementation n) name = place_of r.connections (key n name [])

-- the class of its subcomponent of this name
abbrev pub class_inside : References → Resolved → ClassRow → List ℕ → Option ClassRow
class_inside r to within name = option_and_then (at_row to.classes) (subcomponent_row r within name)

-- its feature of this name, or behind a dot one of its subcomponent
abbrev pub end_inside : References → Resolved → ClassRow → List ℕ → Option (List ℕ) → Option ℕ
end_inside r to within first None = feature_row r to within first
end_inside r to within first (Some port) = option_and_then (λ class. feature_row r to class port) (class_inside r to within first)

-- an end of a connection of an implementation: a feature of its own, or one of a subcomponent
abbrev pub end_row : References → Resolved → ℕ → ConnectionEnd → Option ℕ
end_row r to n e = end_inside r to (row.Implementation n) e.first.name e.port

abbrev pub first_there : {X : Type 0} → Option X → Option X → Option X
first_there None other = other
first_there (Some x) other = Some x

abbrev pub element_at : {T : Type 0} → (ℕ → ℕ → Element) → List (PartRow T) → Option ℕ → Option Element
element_at {T} kind rows place = option_map (λ (part : PartRow T). kind part.owner part.number) (option_and_then (slice_get rows) place)

-- what a name means in a type or an implementation: a subcomponent, else a feature, else a connection
abbrev pub part_named : References → Resolved → Tables → ClassRow → List ℕ → Option Element
part_named r to t within name =
    first_there (element_at element.Subcomponent t.subcomponents (subcomponent_row r within name))
    (first_there (element_at element.Feature t.features (feature_row r to within name))
    (element_at element.Connection t.connections (connection_row r within name)))

-- what a path means there: each name but the last is a subcomponent of what stands before it
abbrev pub path_from : References → Resolved → Tables → ClassRow → List ℕ → List (List ℕ) → Option Element
path_from r to t within name [] = part_named r to t within name
path_from r to t within name (next ∷ names) = option_and_then (λ class. path_from r to t class next names) (class_inside r to within name)

abbrev pub path_row : References → Resolved → Tables → ClassRow → Path → Option Element
path_row r to t within p = path_from r to t within p.first.name p.others
