-- Trees without their places: each place is put at the start (this project's own; docs/formats/model.md).
use Rattle.std.specs.Prelude.{◌≡◌, List, map, Option}
use Rattle.std.specs.Option.{option_map}
use Rattle.hw_text.specs.declared.place.Place.{Place}
use Rattle.aadl_tree.specs.declared.annex.Annex.{Annex}
use Rattle.aadl_tree.specs.declared.association.Association.{Association}
use Rattle.aadl_tree.specs.declared.class.Class.{Class}
use Rattle.aadl_tree.specs.declared.class.Class.TheVariants.{Base, Model}
use Rattle.aadl_tree.specs.declared.component.ComponentType.{ComponentType}
use Rattle.aadl_tree.specs.declared.component.Implementation.{Implementation}
use Rattle.aadl_tree.specs.declared.connection.Connection.{Connection}
use Rattle.aadl_tree.specs.declared.connection.ConnectionEnd.{ConnectionEnd}
use Rattle.aadl_tree.specs.declared.feature.Feature.{Feature}
use Rattle.aadl_tree.specs.declared.feature.PortKind.{PortKind}
use Rattle.aadl_tree.specs.declared.feature.PortKind.TheVariants as kind
use Rattle.aadl_tree.specs.declared.names.ImplementationName.{ImplementationName}
use Rattle.aadl_tree.specs.declared.names.Named.{Named}
use Rattle.aadl_tree.specs.declared.names.Path.{Path}
use Rattle.aadl_tree.specs.declared.names.QualifiedName.{QualifiedName}
use Rattle.aadl_tree.specs.declared.package.Declaration.{Declaration}
use Rattle.aadl_tree.specs.declared.package.Declaration.TheVariants as declaration
use Rattle.aadl_tree.specs.declared.package.Import.{Import}
use Rattle.aadl_tree.specs.declared.package.Package.{Package}
use Rattle.aadl_tree.specs.declared.subcomponent.Subcomponent.{Subcomponent}
use Rattle.aadl_tree.specs.declared.value.PropertyValue.{PropertyValue}
use Rattle.aadl_tree.specs.declared.value.PropertyValue.TheFolds.{fold-PropertyValue, fold-RecordField}
use Rattle.aadl_tree.specs.declared.value.PropertyValue.TheOpen.{PropertyValue-F, RecordField-F}
use Rattle.aadl_tree.specs.declared.value.PropertyValue.TheOpen as open_value
use Rattle.aadl_tree.specs.declared.value.PropertyValue.TheVariants as value
use Rattle.aadl_tree.specs.declared.value.RecordField.{RecordField}

-- where a text begins
abbrev pub origin : Place
origin = record { line = 1; column = 1 }

abbrev pub unplaced_named : Named → Named
unplaced_named n = record { name = n.name; place = origin }

abbrev pub unplaced_qualified : QualifiedName → QualifiedName
unplaced_qualified q = record { first = unplaced_named q.first; others = q.others }

abbrev pub unplaced_path : Path → Path
unplaced_path p = record { first = unplaced_named p.first; others = p.others }

abbrev pub unplaced_implementation_name : ImplementationName → ImplementationName
unplaced_implementation_name n = record { component_type = unplaced_named n.component_type; name = n.name }

abbrev pub unplaced_class : Class → Class
unplaced_class (Base at base) = Base origin base
unplaced_class (Model m) = Model (record { first = m.first; place = origin; others = m.others; implementation = m.implementation })

-- a value, its parts being unplaced
abbrev pub unplaced_step : PropertyValue-F PropertyValue RecordField → PropertyValue
unplaced_step (open_value.Quantity q) = value.Quantity q
unplaced_step (open_value.Range from to) = value.Range from to
unplaced_step (open_value.Text t) = value.Text t
unplaced_step (open_value.Truth b) = value.Truth b
unplaced_step (open_value.Name q) = value.Name (unplaced_qualified q)
unplaced_step (open_value.List vs) = value.List vs
unplaced_step (open_value.Record fs) = value.Record fs
unplaced_step (open_value.Classifier c) = value.Classifier (unplaced_class c)
unplaced_step (open_value.Reference p) = value.Reference (unplaced_path p)

abbrev pub unplaced_field_step : RecordField-F PropertyValue RecordField → RecordField
unplaced_field_step f = record { name = f.name; value = f.value }

abbrev pub unplaced_value : PropertyValue → PropertyValue
unplaced_value v = fold-PropertyValue PropertyValue RecordField unplaced_step unplaced_field_step v

abbrev pub unplaced_field : RecordField → RecordField
unplaced_field f = fold-RecordField PropertyValue RecordField unplaced_step unplaced_field_step f

abbrev pub unplaced_association : Association → Association
unplaced_association a = record {
  property = unplaced_qualified a.property;
  operator = a.operator;
  constant = a.constant;
  first = unplaced_value a.first;
  others = map unplaced_value a.others;
  applies_to = map unplaced_path a.applies_to;
}

-- what stands in braces
abbrev pub unplaced_own : Option (List Association) → Option (List Association)
unplaced_own = option_map (map unplaced_association)

abbrev pub unplaced_kind : PortKind → PortKind
unplaced_kind (kind.Data class) = kind.Data (unplaced_class class)
unplaced_kind kind.Event = kind.Event
unplaced_kind (kind.EventData class) = kind.EventData (unplaced_class class)

abbrev pub unplaced_feature : Feature → Feature
unplaced_feature f = record { name = unplaced_named f.name; direction = f.direction; kind = unplaced_kind f.kind; own = unplaced_own f.own }

abbrev pub unplaced_subcomponent : Subcomponent → Subcomponent
unplaced_subcomponent s = record { name = unplaced_named s.name; category = s.category; class = unplaced_class s.class; own = unplaced_own s.own }

abbrev pub unplaced_end : ConnectionEnd → ConnectionEnd
unplaced_end e = record { first = unplaced_named e.first; port = e.port }

abbrev pub unplaced_connection : Connection → Connection
unplaced_connection c = record { name = unplaced_named c.name; from = unplaced_end c.from; to = unplaced_end c.to; own = unplaced_own c.own }

abbrev pub unplaced_annex : Annex → Annex
unplaced_annex a = record { name = unplaced_named a.name; text = a.text; text_place = origin }

abbrev pub unplaced_type : ComponentType → ComponentType
unplaced_type t = record {
  category = t.category;
  name = unplaced_named t.name;
  features = map unplaced_feature t.features;
  properties = map unplaced_association t.properties;
  annexes = map unplaced_annex t.annexes;
  end_name = unplaced_named t.end_name;
}

abbrev pub unplaced_implementation : Implementation → Implementation
unplaced_implementation i = record {
  category = i.category;
  name = unplaced_implementation_name i.name;
  subcomponents = map unplaced_subcomponent i.subcomponents;
  connections = map unplaced_connection i.connections;
  properties = map unplaced_association i.properties;
  annexes = map unplaced_annex i.annexes;
  end_name = unplaced_implementation_name i.end_name;
}

abbrev pub unplaced_declaration : Declaration → Declaration
unplaced_declaration (declaration.Type t) = declaration.Type (unplaced_type t)
unplaced_declaration (declaration.Implementation i) = declaration.Implementation (unplaced_implementation i)
unplaced_declaration (declaration.Annex a) = declaration.Annex (unplaced_annex a)

abbrev pub unplaced_import : Import → Import
unplaced_import i = record { first = unplaced_qualified i.first; others = map unplaced_qualified i.others }

abbrev pub unplaced_package : Package → Package
unplaced_package p = record {
  name = unplaced_qualified p.name;
  imports = map unplaced_import p.imports;
  declarations = map unplaced_declaration p.declarations;
  end_name = unplaced_qualified p.end_name;
}

-- the same packages but for where their parts stand
abbrev pub SamePackage : Package → Package → Type 0
SamePackage p q = unplaced_package p ≡ unplaced_package q
