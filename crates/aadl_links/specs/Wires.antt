-- The ports of an instance, and the connections that lead from one to the next (after SAE AS5506, connection instances).
use Rattle.std.specs.Prelude.{ℕ, ◌-◌, length, ◌&&◌, not, Bool, true, false, is_some, List, [], ◌∷◌, ◌++◌, map, Option, Some, None, if◌then◌else◌, option_map, option_and_then, slice_get}
use Rattle.aadl_tree.specs.declared.category.Category.{Category}
use Rattle.aadl_tree.specs.declared.category.Category.TheVariants as category
use Rattle.aadl_tree.specs.declared.connection.Connection.{Connection}
use Rattle.aadl_tree.specs.declared.connection.ConnectionEnd.{ConnectionEnd}
use Rattle.aadl_tree.specs.declared.feature.Direction.{Direction}
use Rattle.aadl_tree.specs.declared.feature.Direction.TheVariants as direction
use Rattle.aadl_tree.specs.declared.feature.Feature.{Feature}
use Rattle.aadl_tree.specs.declared.subcomponent.Subcomponent.{Subcomponent}
use Rattle.aadl_names.specs.declared.parts.PartRow.{PartRow}
use Rattle.aadl_names.specs.declared.resolved.Resolved.{Resolved}
use Rattle.aadl_names.specs.declared.tables.Tables.{Tables}
use Rattle.aadl_names.specs.Keys.{Key, key, place_of}
use Rattle.aadl_names.specs.Meanings.{at_row, part_key, type_row}
use Rattle.aadl_domains.specs.Components.{implementation_in}

-- a model, and the implementation with which its instance begins
pub record Wires : Type 0 where
  pub tables : Tables
  pub resolved : Resolved
  pub root : ℕ

abbrev pub wires_of : Tables → Resolved → ℕ → Wires
wires_of t to n = record { tables = t; resolved = to; root = n }

-- a port of the instance: the rows of the subcomponents on the way to its component, from outside, and its name
pub record PortAt : Type 0 where
  pub path : List ℕ
  pub name : List ℕ

abbrev pub port_at : List ℕ → List ℕ → PortAt
port_at path name = record { path = path; name = name }

abbrev pub name_of : PartRow Subcomponent → List ℕ
name_of row = row.part.name.name

abbrev pub subcomponent_name : Wires → ℕ → Option (List ℕ)
subcomponent_name w s = option_map name_of (slice_get w.tables.subcomponents s)

abbrev pub feature_keys : Tables → List Key
feature_keys t = map (part_key (λ (f : Feature). f.name)) t.features

abbrev pub subcomponent_keys : Tables → List Key
subcomponent_keys t = map (part_key (λ (s : Subcomponent). s.name)) t.subcomponents

-- the row of the feature of a type, and of the subcomponent of an implementation
abbrev pub feature_named : Wires → List ℕ → ℕ → Option ℕ
feature_named w name type = place_of (feature_keys w.tables) (key type name [])

abbrev pub subcomponent_named : Wires → ℕ → List ℕ → Option ℕ
subcomponent_named w n name = place_of (subcomponent_keys w.tables) (key n name [])

-- connections run inside of systems and processes
abbrev pub holds_connections : Category → Bool
holds_connections category.Data = false
holds_connections category.Thread = false
holds_connections category.Process = true
holds_connections category.System = true
holds_connections category.Device = false
holds_connections category.Processor = false

-- threads and devices send
abbrev pub may_send : Category → Bool
may_send category.Data = false
may_send category.Thread = true
may_send category.Process = false
may_send category.System = false
may_send category.Device = true
may_send category.Processor = false

abbrev pub innermost : List ℕ → Option ℕ
innermost path = slice_get path (length path - 1)

abbrev pub class_inside_row : Wires → ℕ → PartRow Subcomponent → Option ℕ
class_inside_row w s row = if holds_connections row.part.category then option_and_then implementation_in (at_row w.resolved.classes s) else None

-- the implementation whose connections run inside of a subcomponent
abbrev pub inside : Wires → ℕ → Option ℕ
inside w s = option_and_then (class_inside_row w s) (slice_get w.tables.subcomponents s)

abbrev pub inside_last : Wires → Option ℕ → Option ℕ
inside_last w None = Some w.root
inside_last w (Some s) = inside w s

-- and inside of the component to which a path leads; that of none is the root
abbrev pub within : Wires → List ℕ → Option ℕ
within w path = inside_last w (innermost path)

-- a port of a component itself, or one of its subcomponent
abbrev pub end_named : Wires → ℕ → List ℕ → List ℕ → Option (List ℕ) → Option PortAt
end_named w n path first None = Some (port_at path first)
end_named w n path first (Some port) = option_map (λ s. port_at (path ++ s ∷ []) port) (subcomponent_named w n first)

-- the port at an end of a connection of an implementation, in the component of this path
abbrev pub end_at : Wires → ℕ → List ℕ → ConnectionEnd → Option PortAt
end_at w n path e = end_named w n path e.first.name e.port

-- from a subcomponent to another one, to a port of the component itself, and from one
abbrev pub is_across : Connection → Bool
is_across c = is_some c.from.port && is_some c.to.port

abbrev pub is_up : Connection → Bool
is_up c = is_some c.from.port && not (is_some c.to.port)

abbrev pub is_down : Connection → Bool
is_down c = not (is_some c.from.port) && is_some c.to.port

abbrev pub port_text : Option (List ℕ) → List ℕ
port_text None = []
port_text (Some name) = name

-- where a connection ends, as it is written
abbrev pub destination_key : PartRow Connection → Key
destination_key row = key row.owner row.part.to.first.name (port_text row.part.to.port)

abbrev pub destinations_of : Tables → List Key
destinations_of t = map destination_key t.connections

abbrev pub is_out : Direction → Bool
is_out direction.In = false
is_out direction.Out = true

abbrev pub out_row : ℕ → PartRow Feature → Option ℕ
out_row f row = if is_out row.part.direction then Some f else None

-- the row of the out port of this name of a thread or a device
abbrev pub out_named : Wires → List ℕ → ℕ → Option ℕ
out_named w name type = option_and_then (λ f. option_and_then (out_row f) (slice_get w.tables.features f)) (feature_named w name type)

abbrev pub sender_inside : Wires → List ℕ → ℕ → PartRow Subcomponent → Option ℕ
sender_inside w name s row =
    if may_send row.part.category then option_and_then (out_named w name) (option_and_then (type_row w.resolved) (at_row w.resolved.classes s)) else None

abbrev pub sender_row : Wires → List ℕ → ℕ → Option ℕ
sender_row w name s = option_and_then (sender_inside w name s) (slice_get w.tables.subcomponents s)

abbrev pub sender : Wires → PortAt → Option ℕ
sender w at = option_and_then (sender_row w at.name) (innermost at.path)
