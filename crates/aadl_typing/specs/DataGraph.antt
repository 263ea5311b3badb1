-- The data of a model as a graph, in which a data type with Base_Type alone leads to the type that it names (after SAE AS5506, the data
-- model annex; this project's own).
use Rattle.std.specs.Prelude.{ℕ, ◌+◌, nat_lt, if◌then◌else◌, List, [], ◌∷◌, ◌++◌, map, length, Option, Some, None, option_and_then}
use Rattle.hw_text.specs.declared.base_type.BaseType.{BaseType}
use Rattle.hw_text.specs.declared.base_type.BaseType.TheVariants.{Boolean, Integer8, Integer16, Integer32, Integer64, Unsigned8, Unsigned16, Unsigned32, Unsigned64}
use Rattle.aadl_tree.specs.declared.association.Association.{Association}
use Rattle.aadl_tree.specs.declared.class.Class.{Class}
use Rattle.aadl_tree.specs.declared.component.ComponentType.{ComponentType}
use Rattle.aadl_tree.specs.declared.component.Implementation.{Implementation}
use Rattle.aadl_tree.specs.declared.feature.Feature.{Feature}
use Rattle.aadl_tree.specs.declared.feature.PortKind.{PortKind}
use Rattle.aadl_tree.specs.declared.feature.PortKind.TheVariants as kind
use Rattle.aadl_names.specs.declared.class_row.ClassRow.{ClassRow}
use Rattle.aadl_names.specs.declared.class_row.ClassRow.TheVariants as row
use Rattle.aadl_names.specs.declared.parts.PartRow.{PartRow}
use Rattle.aadl_names.specs.declared.references.References.{References}
use Rattle.aadl_names.specs.declared.tables.Tables.{Tables}
use Rattle.aadl_types.specs.declared.deciding.Deciding.{Deciding}
use Rattle.aadl_types.specs.declared.shape.Part.{Part}
use Rattle.aadl_types.specs.declared.shape.Part.TheVariants as part
use Rattle.aadl_types.specs.Shaping.{deciding_among, deciding_with, declared_type, part_of, base_part}

abbrev pub base_number : BaseType → ℕ
base_number Boolean = 0
base_number Integer8 = 1
base_number Integer16 = 2
base_number Integer32 = 3
base_number Integer64 = 4
base_number Unsigned8 = 5
base_number Unsigned16 = 6
base_number Unsigned32 = 7
base_number Unsigned64 = 8

-- the types are numbered behind the nine base types, and the implementations behind the types
abbrev pub class_number : Tables → ClassRow → Option ℕ
class_number t row.Base = None
class_number t (row.Type n) = if nat_lt n (length t.types) then Some (9 + n) else None
class_number t (row.Implementation n) = if nat_lt n (length t.implementations) then Some (9 + length t.types + n) else None

abbrev pub part_number : Tables → Part → Option ℕ
part_number t (part.Base base) = Some (base_number base)
part_number t (part.Row class) = class_number t class

-- the Base_Type where neither Enumerators nor Dimension counts
abbrev pub alone : Option Association → Option Association → Option Association → Option Association
alone None base None = base
alone None base (Some dimension) = None
alone (Some enumerators) base dimension = None

-- what the Base_Type that alone counts means; where it is no list of one classifier, or that names nothing, there is nothing
abbrev pub next_by : References → Tables → Deciding → Option ℕ
next_by r t d = option_and_then (part_number t) (option_and_then (base_part r t) (alone d.enumerators d.base_type d.dimension))

abbrev pub type_next : References → Tables → ComponentType → Option ℕ
type_next r t c = next_by r t (deciding_among c.properties)

abbrev pub implementation_next : References → Tables → Implementation → Option ℕ
implementation_next r t i = next_by r t (deciding_with i (declared_type r t i))

-- base types lead nowhere
abbrev pub base_nexts : List (Option ℕ)
base_nexts = None ∷ None ∷ None ∷ None ∷ None ∷ None ∷ None ∷ None ∷ None ∷ []

abbrev pub nexts_of : References → Tables → List (Option ℕ)
nexts_of r t = (base_nexts ++ map (type_next r t) t.types) ++ map (implementation_next r t) t.implementations

-- the data that a port carries; events carry none
abbrev pub class_data : References → Tables → Class → Option ℕ
class_data r t class = option_and_then (part_number t) (part_of r t class)

abbrev pub kind_data : References → Tables → PortKind → Option ℕ
kind_data r t (kind.Data class) = class_data r t class
kind_data r t kind.Event = None
kind_data r t (kind.EventData class) = class_data r t class

abbrev pub payloads_of : References → Tables → List (Option ℕ)
payloads_of r t = map (λ (port : PartRow Feature). kind_data r t port.part.kind) t.features
