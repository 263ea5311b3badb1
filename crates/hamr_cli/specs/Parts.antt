-- The parts of a thin model in the tree of a parsed package: what each says, where it is one of a thin model (this project's own, a
-- part of SAE AS5506; docs/formats/model.md).
use Rattle.std.specs.Prelude.{ℕ, ◌^◌, Bool, true, false, ◌&&◌, not, ◌==◌, nat_lt, if◌then◌else◌, List, [], ◌∷◌, length, codes, Option, Some, None, is_none}
use Rattle.std.specs.Option.{option_map}
use Rattle.std.specs.Str.{bytes_eq}
use Rattle.aadl_tree.specs.declared.association.Association.{Association}
use Rattle.aadl_tree.specs.declared.association.Operator.{Operator}
use Rattle.aadl_tree.specs.declared.association.Operator.TheVariants as operator
use Rattle.aadl_tree.specs.declared.category.Category.{Category}
use Rattle.aadl_tree.specs.declared.category.Category.TheVariants as category
use Rattle.hw_text.specs.declared.base_type.BaseType.TheVariants as base
use Rattle.aadl_tree.specs.declared.class.Class.{Class}
use Rattle.aadl_tree.specs.declared.class.Class.TheVariants as class
use Rattle.aadl_tree.specs.declared.component.ComponentType.{ComponentType}
use Rattle.aadl_tree.specs.declared.connection.Connection.{Connection}
use Rattle.aadl_tree.specs.declared.connection.ConnectionEnd.{ConnectionEnd}
use Rattle.aadl_tree.specs.declared.feature.Direction.{Direction}
use Rattle.aadl_tree.specs.declared.feature.Direction.TheVariants as direction
use Rattle.aadl_tree.specs.declared.feature.Feature.{Feature}
use Rattle.aadl_tree.specs.declared.feature.PortKind.{PortKind}
use Rattle.aadl_tree.specs.declared.feature.PortKind.TheVariants as kind
use Rattle.aadl_tree.specs.declared.names.QualifiedName.{QualifiedName}
use Rattle.aadl_tree.specs.declared.subcomponent.Subcomponent.{Subcomponent}
use Rattle.aadl_tree.specs.declared.value.Number.{Number}
use Rattle.aadl_tree.specs.declared.value.Number.TheVariants as number
use Rattle.aadl_tree.specs.declared.value.Quantity.{Quantity}
use Rattle.aadl_tree.specs.declared.value.PropertyValue.{PropertyValue, out-PropertyValue}
use Rattle.aadl_tree.specs.declared.value.PropertyValue.TheOpen.{PropertyValue-F}
use Rattle.aadl_tree.specs.declared.value.RecordField.{RecordField}
use Rattle.aadl_tree.specs.declared.value.PropertyValue.TheOpen as value
use Rattle.hamr_cli.specs.declared.thin.feature.Way.{Way}
use Rattle.hamr_cli.specs.declared.thin.feature.Way.TheVariants as way
use Rattle.hamr_cli.specs.declared.thin.feature.Feature.{Feature as ThinFeature}
use Rattle.hamr_cli.specs.declared.thin.device.Device.{Device}
use Rattle.hamr_cli.specs.declared.thin.subcomponent.Subcomponent.{Subcomponent as ThinSubcomponent}
use Rattle.hamr_cli.specs.declared.thin.connection.Tip.{Tip}
use Rattle.hamr_cli.specs.declared.thin.connection.Connection.{Connection as ThinConnection}
use Rattle.hamr_cli.specs.Steps.{◌>>=◌}

-- the first, where there are no others
abbrev pub alone : {X Y : Type 0} → X → List Y → Option X
alone x [] = Some x
alone x (y ∷ ys) = None

-- what each is, where each is something
abbrev pub all_of : {X Y : Type 0} → (X → Option Y) → List X → Option (List Y)
all_of f [] = Some []
all_of f (x ∷ xs) = f x >>= (λ y. option_map (λ ys. y ∷ ys) (all_of f xs))

-- one name, without `::`
abbrev pub plain_name : QualifiedName → Option (List ℕ)
plain_name q = alone q.first.name q.others

-- this name, without `::`
abbrev pub is_word : List ℕ → QualifiedName → Bool
is_word word q = bytes_eq q.first.name word && (length q.others == 0)

abbrev pub is_device : Category → Bool
is_device category.Device = true
is_device _ = false

-- base_types::integer_32
abbrev pub is_integer_32 : Class → Bool
is_integer_32 (class.Base place base.Integer32) = true
is_integer_32 _ = false

-- event data port base_types::integer_32
abbrev pub is_thin_port : PortKind → Bool
is_thin_port (kind.EventData c) = is_integer_32 c
is_thin_port _ = false

-- a whole number of 32 bits
abbrev pub integer_in : Number → Option ℕ
integer_in (number.Integer n) = if nat_lt n (2 ^ 32) then Some n else None
integer_in (number.Real text) = None

-- a number without a sign or a unit
abbrev pub quantity_in : Quantity → Option ℕ
quantity_in q = if is_none q.sign && is_none q.unit then integer_in q.number else None

abbrev pub size_in : PropertyValue-F PropertyValue RecordField → Option ℕ
size_in (value.Quantity q) = quantity_in q
size_in _ = None

abbrev pub is_set : Operator → Bool
is_set operator.Set = true
is_set operator.Append = false

-- one value for the property, and for all that it stands in
abbrev pub is_plain : Association → Bool
is_plain a = is_set a.operator && (not a.constant && ((length a.others == 0) && (length a.applies_to == 0)))

-- queue_size => INT
abbrev pub queue_size_of : Association → Option ℕ
queue_size_of a = if is_word (codes "queue_size") a.property && is_plain a then size_in (out-PropertyValue a.first) else None

-- nothing but a Queue_Size
abbrev pub queue_of : List Association → Option Way
queue_of [] = None
queue_of (a ∷ as') = alone a as' >>= (λ only. option_map (λ size. way.Queued size) (queue_size_of only))

-- which way a port goes, with what stands in its braces; no Queue_Size is written at an out port
abbrev pub way_of : Direction → Option (List Association) → Option Way
way_of direction.Out None = Some way.Out
way_of direction.Out (Some own) = None
way_of direction.In None = Some way.In
way_of direction.In (Some own) = queue_of own

-- NAME: in or out event data port base_types::integer_32
unfoldable pub feature_of : Feature → Option ThinFeature
feature_of f = do
  w ← way_of f.direction f.own
  if is_thin_port f.kind then Some (record { name = f.name.name; way = w }) else None

-- a device type with nothing but features
abbrev pub is_bare_device : ComponentType → Bool
is_bare_device t = is_device t.category && ((length t.properties == 0) && (length t.annexes == 0))

-- device NAME features FEATURES end NAME
unfoldable pub device_of : ComponentType → Option Device
device_of t = do
  features ← all_of feature_of t.features
  if is_bare_device t then Some (record { name = t.name.name; features = features; end_name = t.end_name.name }) else None

-- the name of a component type, without `::` and without an implementation
abbrev pub type_name : Class → Option (List ℕ)
type_name (class.Base place b) = None
type_name (class.Model c) = if is_none c.implementation then alone c.first.name c.others else None

-- NAME: device NAME
unfoldable pub subcomponent_of : Subcomponent → Option ThinSubcomponent
subcomponent_of s = do
  device ← type_name s.class
  if is_device s.category && is_none s.own then Some (record { name = s.name.name; device = device }) else None

-- NAME.NAME
abbrev pub tip_of : ConnectionEnd → Option Tip
tip_of e = option_map (λ port. record { component = e.first.name; port = port }) e.port

-- NAME: port NAME.NAME -> NAME.NAME
unfoldable pub connection_of : Connection → Option ThinConnection
connection_of c = do
  from ← tip_of c.from
  to ← tip_of c.to
  if is_none c.own then Some (record { name = c.name.name; from = from; to = to }) else None
