-- Uses of data that have no layout, for another cause than that they contain themselves (after SAE AS5506, the data model annex; this
-- project's own: docs/formats/model.md).
use Rattle.std.specs.Prelude.{◌≡◌, ℕ, Bool, false, if◌then◌else◌, List, [], ◌∷◌, ◌++◌, map, filter_map, Option, Some, None}
use Rattle.hw_text.specs.declared.code.Code.TheVariants as code
use Rattle.hw_text.specs.declared.refusal.Refusal.{Refusal}
use Rattle.aadl_tree.specs.declared.class.Class.{Class}
use Rattle.aadl_tree.specs.declared.component.ComponentType.{ComponentType}
use Rattle.aadl_tree.specs.declared.component.Implementation.{Implementation}
use Rattle.aadl_tree.specs.declared.feature.Feature.{Feature}
use Rattle.aadl_tree.specs.declared.feature.PortKind.{PortKind}
use Rattle.aadl_tree.specs.declared.feature.PortKind.TheVariants as kind
use Rattle.aadl_tree.specs.declared.subcomponent.Subcomponent.{Subcomponent}
use Rattle.aadl_tree.specs.References.{class_text}
use Rattle.aadl_names.specs.declared.parts.PartRow.{PartRow}
use Rattle.aadl_names.specs.declared.references.References.{References}
use Rattle.aadl_names.specs.declared.tables.Tables.{Tables}
use Rattle.aadl_names.specs.Offences.{named, earliest_from, offences}
use Rattle.aadl_types.specs.declared.shape.Part.{Part}
use Rattle.aadl_types.specs.declared.shape.Shape.{Shape}
use Rattle.aadl_types.specs.declared.shape.Shape.TheVariants as shape
use Rattle.aadl_types.specs.DataRows.{is_data}
use Rattle.aadl_types.specs.Shaping.{type_shape, implementation_shape}
use Rattle.aadl_typing.specs.DataGraph.{part_number, class_data}
use Rattle.aadl_typing.specs.Flaws.{flaw_at, AreFlaws}
use Rattle.aadl_typing.specs.PayloadWidths.{class_place}

abbrev pub parts_in : Shape → List Part
parts_in (shape.Enum names) = []
parts_in (shape.Array element times) = element ∷ []
parts_in (shape.Alias base) = base ∷ []
parts_in (shape.Struct members) = members

-- the rows of what data of this shape are made of; nothing is known of data that no rule gives a shape
abbrev pub made_of : Tables → Option Shape → Option (List ℕ)
made_of t None = None
made_of t (Some s) = Some (filter_map (part_number t) (parts_in s))

abbrev pub type_made : References → Tables → ComponentType → Option (List ℕ)
type_made r t c = made_of t (type_shape r t c)

abbrev pub implementation_made : References → Tables → Implementation → Option (List ℕ)
implementation_made r t i = made_of t (implementation_shape r t i)

-- base types are made of nothing
abbrev pub base_made : List (Option (List ℕ))
base_made = Some [] ∷ Some [] ∷ Some [] ∷ Some [] ∷ Some [] ∷ Some [] ∷ Some [] ∷ Some [] ∷ Some [] ∷ []

-- the data of a model as a graph, in which each leads to what it is made of
abbrev pub made_rows : References → Tables → List (Option (List ℕ))
made_rows r t = (base_made ++ map (type_made r t) t.types) ++ map (implementation_made r t) t.implementations

abbrev pub flawed : List Bool → Option ℕ → Bool
flawed flaws None = false
flawed flaws (Some n) = flaw_at flaws n

-- a class that means data with a flaw is refused as it is written, where it begins
abbrev pub use_offence : References → Tables → List Bool → Class → Option Refusal
use_offence r t flaws class =
    if flawed flaws (class_data r t class) then Some (named code.ModelBadProperty (class_place class) (class_text class)) else None

abbrev pub kind_offence : References → Tables → List Bool → PortKind → Option Refusal
kind_offence r t flaws (kind.Data class) = use_offence r t flaws class
kind_offence r t flaws kind.Event = None
kind_offence r t flaws (kind.EventData class) = use_offence r t flaws class

abbrev pub port_offence : References → Tables → List Bool → PartRow Feature → Option Refusal
port_offence r t flaws port = kind_offence r t flaws port.part.kind

-- of subcomponents those that are data use data
abbrev pub subcomponent_offence : References → Tables → List Bool → PartRow Subcomponent → Option Refusal
subcomponent_offence r t flaws row = if is_data row.part.category then use_offence r t flaws row.part.class else None

-- the earliest refusal of a port, a subcomponent or one of these classes, and of the one known before
pub record IsFirstUse (r : References) (t : Tables) (bases : List Class) (known first : Option Refusal) : Type 0 where
  pub flaws : List Bool
  pub right : AreFlaws (made_rows r t) flaws
  pub told : first ≡ earliest_from (earliest_from (earliest_from known
      (offences (port_offence r t flaws) t.features)) (offences (subcomponent_offence r t flaws) t.subcomponents)) (offences (use_offence r t flaws) bases)
