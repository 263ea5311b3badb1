-- What is made of the parts of productions.
use Rattle.std.specs.Prelude.{ℕ, List, [], ◌∷◌, Option, Some, None, is_some, ⊤}
use Rattle.hw_text.specs.declared.place.Place.{Place}
use Rattle.aadl_tree.specs.declared.annex.Annex.{Annex}
use Rattle.aadl_tree.specs.declared.association.Association.{Association}
use Rattle.aadl_tree.specs.declared.association.Operator.{Operator}
use Rattle.aadl_tree.specs.declared.category.Category.{Category}
use Rattle.aadl_tree.specs.declared.class.Class.{Class}
use Rattle.aadl_tree.specs.declared.component.ComponentType.{ComponentType}
use Rattle.aadl_tree.specs.declared.component.Implementation.{Implementation}
use Rattle.aadl_tree.specs.declared.connection.Connection.{Connection}
use Rattle.aadl_tree.specs.declared.connection.ConnectionEnd.{ConnectionEnd}
use Rattle.aadl_tree.specs.declared.feature.Direction.{Direction}
use Rattle.aadl_tree.specs.declared.feature.Feature.{Feature}
use Rattle.aadl_tree.specs.declared.feature.PortKind.{PortKind}
use Rattle.aadl_tree.specs.declared.feature.PortKind.TheVariants as kind
use Rattle.aadl_tree.specs.declared.names.ImplementationName.{ImplementationName}
use Rattle.aadl_tree.specs.declared.names.Named.{Named}
use Rattle.aadl_tree.specs.declared.names.Path.{Path}
use Rattle.aadl_tree.specs.declared.names.QualifiedName.{QualifiedName}
use Rattle.aadl_tree.specs.declared.package.Declaration.{Declaration}
use Rattle.aadl_tree.specs.declared.package.Declaration.TheVariants as declaration
use Rattle.aadl_tree.specs.declared.package.Import.{Import}
use Rattle.aadl_tree.specs.declared.package.Package.{Package}
use Rattle.aadl_tree.specs.declared.subcomponent.Subcomponent.{Subcomponent}
use Rattle.aadl_tree.specs.declared.value.PropertyValue.{PropertyValue}
use Rattle.aadl_parse.specs.Choice.{Choice, First, Second}

abbrev pub either_of : {X : Type 0} → Choice X X → X
either_of (First x) = x
either_of (Second x) = x

-- the members of a section; there are none where it says so
abbrev pub section_of : {X : Type 0} → Choice ⊤ (List X) → List X
section_of (First u) = []
section_of (Second xs) = xs

-- the members of a section; there are none where it is not there
abbrev pub or_none : {X : Type 0} → Option (List X) → List X
or_none None = []
or_none (Some xs) = xs

-- what stands behind a mark, and behind two words
abbrev pub behind_mark : {X : Type 0} → ⊤ × X → X
behind_mark p = p.1

abbrev pub behind_words : {X : Type 0} → ⊤ × (⊤ × X) → X
behind_words p = p.1.1

abbrev pub listed : {X : Type 0} → X × List X → List X
listed p = p.0 ∷ p.1

-- the operator, whether it is constant, the values, and the paths
abbrev pub SettingParts : Type 0
SettingParts = Operator × (Option ⊤ × (PropertyValue × (List PropertyValue × (Option (List Path) × ⊤))))

abbrev pub association_of : QualifiedName × SettingParts → Association
association_of p = record {
  property = p.0;
  operator = p.1.0;
  constant = is_some p.1.1.0;
  first = p.1.1.1.0;
  others = p.1.1.1.1.0;
  applies_to = or_none p.1.1.1.1.1.0;
}

abbrev pub own_of : ⊤ × (List Association × ⊤) → List Association
own_of p = p.1.0

abbrev pub ending_of : Option (List Association) × ⊤ → Option (List Association)
ending_of p = p.0

abbrev pub data_kind_of : ⊤ × (⊤ × Class) → PortKind
data_kind_of p = kind.Data p.1.1

abbrev pub event_data_kind_of : ⊤ × (⊤ × Class) → PortKind
event_data_kind_of p = kind.EventData p.1.1

abbrev pub event_kind_of : ⊤ → PortKind
event_kind_of p = kind.Event

abbrev pub events_of : ⊤ × Choice PortKind PortKind → PortKind
events_of p = either_of p.1

abbrev pub feature_of : Named × (⊤ × (Direction × (PortKind × Option (List Association)))) → Feature
feature_of p = record { name = p.0; direction = p.1.1.0; kind = p.1.1.1.0; own = p.1.1.1.1 }

abbrev pub subcomponent_of : Named × (⊤ × (Category × (Class × Option (List Association)))) → Subcomponent
subcomponent_of p = record { name = p.0; category = p.1.1.0; class = p.1.1.1.0; own = p.1.1.1.1 }

abbrev pub connection_end_of : Named × Option (List ℕ) → ConnectionEnd
connection_end_of p = record { first = p.0; port = p.1 }

-- the end that a connection leads to, and its own associations
abbrev pub DestinationParts : Type 0
DestinationParts = ⊤ × (ConnectionEnd × Option (List Association))

abbrev pub connection_of : Named × (⊤ × (⊤ × (ConnectionEnd × DestinationParts))) → Connection
connection_of p = record { name = p.0; from = p.1.1.1.0; to = p.1.1.1.1.1.0; own = p.1.1.1.1.1.1 }

abbrev pub nothing_of : ⊤ × ⊤ → ⊤
nothing_of p = tt

abbrev pub members_behind : {X : Type 0} → ⊤ × Choice ⊤ (List X) → List X
members_behind p = section_of p.1

abbrev pub annex_of : ⊤ × (Named × ((Option (List ℕ) × Place) × ⊤)) → Annex
annex_of p = record { name = p.1.0; text = p.1.1.0.0; text_place = p.1.1.0.1 }

abbrev pub implementation_name_of : Named × List ℕ → ImplementationName
implementation_name_of p = record { component_type = p.0; name = p.1 }

-- NAME, features, properties, annexes, and the name behind "end"
abbrev pub TypeParts : Type 0
TypeParts = Named × (Option (List Feature) × (Option (List Association) × (List Annex × (⊤ × (Named × ⊤)))))

abbrev pub type_of : Category → TypeParts → ComponentType
type_of category p = record {
  category = category;
  name = p.0;
  features = or_none p.1.0;
  properties = or_none p.1.1.0;
  annexes = p.1.1.1.0;
  end_name = p.1.1.1.1.1.0;
}

-- the name, subcomponents, connections, properties, annexes, and the name behind "end"
abbrev pub ImplementationParts : Type 0
ImplementationParts = ⊤ × (ImplementationName × (Option (List Subcomponent) × (Option (List Connection) × (Option (List Association) × (List Annex × (⊤ × (ImplementationName × ⊤)))))))

abbrev pub implementation_of : Category → ImplementationParts → Implementation
implementation_of category p = record {
  category = category;
  name = p.1.0;
  subcomponents = or_none p.1.1.0;
  connections = or_none p.1.1.1.0;
  properties = or_none p.1.1.1.1.0;
  annexes = p.1.1.1.1.1.0;
  end_name = p.1.1.1.1.1.1.1.0;
}

abbrev pub component_of : Category → Choice ImplementationParts TypeParts → Declaration
component_of category (First p) = declaration.Implementation (implementation_of category p)
component_of category (Second p) = declaration.Type (type_of category p)

abbrev pub declaration_of : Choice Annex (Category × Choice ImplementationParts TypeParts) → Declaration
declaration_of (First annex) = declaration.Annex annex
declaration_of (Second p) = component_of p.0 p.1

-- the category, and what stands behind it
abbrev pub ComponentParts : Type 0
ComponentParts = Category × Choice ImplementationParts TypeParts

abbrev pub import_of : ⊤ × (QualifiedName × (List QualifiedName × ⊤)) → Import
import_of p = record { first = p.1.0; others = p.1.1.0 }

-- the imports, the declarations, and the name behind "end"
abbrev pub BodyParts : Type 0
BodyParts = ⊤ × (List Import × (List Declaration × (⊤ × (QualifiedName × ⊤))))

abbrev pub package_of : ⊤ × (QualifiedName × BodyParts) → Package
package_of p = record { name = p.1.0; imports = p.1.1.1.0; declarations = p.1.1.1.1.0; end_name = p.1.1.1.1.1.1.0 }
