-- The trees of thin models: what a parser makes of each part, wherever it stands in the text (this project's own, a part of SAE
-- AS5506; docs/formats/model.md).
use Rattle.std.specs.Prelude.{◌≡◌, ℕ, ◌<◌, ◌^◌, false, List, [], ◌∷◌, ◌++◌, map, codes, Option, Some, None}
use Rattle.hw_text.specs.declared.place.Place.{Place}
use Rattle.aadl_tree.specs.declared.association.Association.{Association}
use Rattle.aadl_tree.specs.declared.association.Operator.TheVariants as operator
use Rattle.aadl_tree.specs.declared.category.Category.TheVariants as category
use Rattle.hw_text.specs.declared.base_type.BaseType.TheVariants as base
use Rattle.aadl_tree.specs.declared.class.Class.{Class}
use Rattle.aadl_tree.specs.declared.class.Class.TheVariants as class
use Rattle.aadl_tree.specs.declared.component.ComponentType.{ComponentType}
use Rattle.aadl_tree.specs.declared.component.Implementation.{Implementation}
use Rattle.aadl_tree.specs.declared.connection.Connection.{Connection}
use Rattle.aadl_tree.specs.declared.connection.ConnectionEnd.{ConnectionEnd}
use Rattle.aadl_tree.specs.declared.feature.Direction.{Direction}
use Rattle.aadl_tree.specs.declared.feature.Direction.TheVariants as direction
use Rattle.aadl_tree.specs.declared.feature.Feature.{Feature}
use Rattle.aadl_tree.specs.declared.feature.PortKind.TheVariants as kind
use Rattle.aadl_tree.specs.declared.names.ImplementationName.{ImplementationName}
use Rattle.aadl_tree.specs.declared.names.QualifiedName.{QualifiedName}
use Rattle.aadl_tree.specs.declared.package.Declaration.TheVariants as declaration
use Rattle.aadl_tree.specs.declared.package.Import.{Import}
use Rattle.aadl_tree.specs.declared.package.Package.{Package}
use Rattle.aadl_tree.specs.declared.subcomponent.Subcomponent.{Subcomponent}
use Rattle.aadl_tree.specs.declared.value.Number.TheVariants as number
use Rattle.aadl_tree.specs.declared.value.PropertyValue.{out-PropertyValue}
use Rattle.aadl_tree.specs.declared.value.PropertyValue.TheOpen as value
use Rattle.hamr_cli.specs.declared.thin.feature.Way.{Way}
use Rattle.hamr_cli.specs.declared.thin.feature.Way.TheVariants.{Out, In, Queued}
use Rattle.hamr_cli.specs.declared.thin.feature.Feature.{Feature as ThinFeature}
use Rattle.hamr_cli.specs.declared.thin.device.Device.{Device}
use Rattle.hamr_cli.specs.declared.thin.subcomponent.Subcomponent.{Subcomponent as ThinSubcomponent}
use Rattle.hamr_cli.specs.declared.thin.connection.Tip.{Tip}
use Rattle.hamr_cli.specs.declared.thin.connection.Connection.{Connection as ThinConnection}
use Rattle.hamr_cli.specs.declared.thin.heading.ImplementationName.{ImplementationName as ThinName}
use Rattle.hamr_cli.specs.declared.thin.model.ThinModel.{ThinModel}

-- the members of one list and those of the other, in order
abbrev pub Each : {X Y : Type 0} → (X → Y → Type 0) → List X → List Y → Type 0
Each R [] [] = Unit {0}
Each R [] (y ∷ ys) = ⊥
Each R (x ∷ xs) [] = ⊥
Each R (x ∷ xs) (y ∷ ys) = R x y × Each R xs ys

-- NAME, without `::`
pub record IsPlainName (q : QualifiedName) (name : List ℕ) : Type 0 where
  pub word : q.first.name ≡ name
  pub alone : q.others ≡ []

-- queue_size => SIZE;
pub record IsQueueSize (a : Association) (size : ℕ) : Type 0 where
  pub property : IsPlainName a.property (codes "queue_size")
  pub operator : a.operator ≡ operator.Set
  pub constant : a.constant ≡ false
  pub first : out-PropertyValue a.first ≡ value.Quantity (record { sign = None; number = number.Integer size; unit = None })
  pub others : a.others ≡ []
  pub applies_to : a.applies_to ≡ []
  pub bits : size < 2 ^ 32

abbrev pub direction_of : Way → Direction
direction_of Out = direction.Out
direction_of In = direction.In
direction_of (Queued size) = direction.In

-- what stands in the braces of a port: nothing, or a Queue_Size alone
abbrev pub IsOwn : Option (List Association) → Way → Type 0
IsOwn own Out = own ≡ None
IsOwn own In = own ≡ None
IsOwn own (Queued size) = (a : Association) × (own ≡ Some (a ∷ [])) × IsQueueSize a size

-- NAME: DIRECTION event data port base_types::integer_32 OWN;
pub record IsFeature (tree : Feature) (f : ThinFeature) : Type 0 where
  pub feature_name : tree.name.name ≡ f.name
  pub way : tree.direction ≡ direction_of f.way
  pub type : (place : Place) × (tree.kind ≡ kind.EventData (class.Base place base.Integer32))
  pub braces : IsOwn tree.own f.way

-- device NAME features FEATURES end NAME;
pub record IsDevice (tree : ComponentType) (d : Device) : Type 0 where
  pub device : tree.category ≡ category.Device
  pub device_name : tree.name.name ≡ d.name
  pub members : Each IsFeature tree.features d.features
  pub no_properties : tree.properties ≡ []
  pub no_annexes : tree.annexes ≡ []
  pub end : tree.end_name.name ≡ d.end_name

-- NAME of a component type, without `::` and without an implementation
abbrev pub IsTypeName : Class → List ℕ → Type 0
IsTypeName (class.Base place b) name = ⊥
IsTypeName (class.Model c) name = (c.first.name ≡ name) × (c.others ≡ []) × (c.implementation ≡ None)

-- NAME: device NAME;
pub record IsSubcomponent (tree : Subcomponent) (s : ThinSubcomponent) : Type 0 where
  pub own_name : tree.name.name ≡ s.name
  pub device : tree.category ≡ category.Device
  pub type : IsTypeName tree.class s.device
  pub braces : tree.own ≡ None

-- NAME.NAME
pub record IsTip (tree : ConnectionEnd) (t : Tip) : Type 0 where
  pub at : tree.first.name ≡ t.component
  pub behind : tree.port ≡ Some t.port

-- NAME: port NAME.NAME -> NAME.NAME;
pub record IsConnection (tree : Connection) (c : ThinConnection) : Type 0 where
  pub own_name : tree.name.name ≡ c.name
  pub source : IsTip tree.from c.from
  pub target : IsTip tree.to c.to
  pub braces : tree.own ≡ None

-- NAME.NAME
pub record IsImplementationName (tree : ImplementationName) (n : ThinName) : Type 0 where
  pub type : tree.component_type.name ≡ n.system
  pub behind : tree.name ≡ n.own

-- with base_types;
pub record IsBaseImport (i : Import) : Type 0 where
  pub base : IsPlainName i.first (codes "base_types")
  pub alone : i.others ≡ []

-- system NAME end NAME;
pub record IsSystem (tree : ComponentType) (m : ThinModel) : Type 0 where
  pub system : tree.category ≡ category.System
  pub system_name : tree.name.name ≡ m.heading.system
  pub no_features : tree.features ≡ []
  pub no_properties : tree.properties ≡ []
  pub no_annexes : tree.annexes ≡ []
  pub end : tree.end_name.name ≡ m.heading.system_end

-- system implementation NAME.NAME subcomponents SUBCOMPONENTS connections CONNECTIONS end NAME.NAME;
pub record IsImplementation (tree : Implementation) (m : ThinModel) : Type 0 where
  pub system : tree.category ≡ category.System
  pub own_name : IsImplementationName tree.name m.heading.implementation
  pub inside : Each IsSubcomponent tree.subcomponents m.subcomponents
  pub joins : Each IsConnection tree.connections m.connections
  pub no_properties : tree.properties ≡ []
  pub no_annexes : tree.annexes ≡ []
  pub end : IsImplementationName tree.end_name m.ending.implementation

-- package NAME public with base_types; DEVICES SYSTEM IMPLEMENTATION end NAME;
pub record IsTree (p : Package) (m : ThinModel) : Type 0 where
  pub package_name : IsPlainName p.name m.package_name
  pub import : Import
  pub imports : p.imports ≡ import ∷ []
  pub is_base : IsBaseImport import
  pub types : List ComponentType
  pub system : ComponentType
  pub implementation : Implementation
  pub declared : p.declarations ≡ map (λ t. declaration.Type t) types ++ declaration.Type system ∷ declaration.Implementation implementation ∷ []
  pub devices : Each IsDevice types m.devices
  pub is_system : IsSystem system m
  pub is_implementation : IsImplementation implementation m
  pub end : IsPlainName p.end_name m.ending.package_name
