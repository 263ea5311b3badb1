-- Connections with one destination (after SAE AS5506, port connections; this project's own: one connection at most leads to a port).
use Rattle.std.specs.Prelude.{ℕ, List, [], map, Option, Some, None}
use Rattle.hw_text.specs.declared.code.Code.TheVariants as code
use Rattle.hw_text.specs.declared.place.Place.{Place}
use Rattle.hw_text.specs.declared.refusal.Refusal.{Refusal}
use Rattle.aadl_tree.specs.declared.connection.Connection.{Connection}
use Rattle.aadl_names.specs.declared.parts.PartRow.{PartRow}
use Rattle.aadl_names.specs.declared.tables.Tables.{Tables}
use Rattle.aadl_names.specs.Keys.{Key, key}
use Rattle.aadl_names.specs.Offences.{named, repeats_from}
use Rattle.aadl_structure.specs.declared.destination.Destination.{Destination}

abbrev pub destination : PartRow Connection → Destination
destination row = record { implementation = row.owner; end = row.part.to }

-- nothing for a port of the component itself
abbrev pub port_name : Option (List ℕ) → List ℕ
port_name None = []
port_name (Some port) = port

-- its implementation, its first name and the name behind the dot
abbrev pub destination_key : Destination → Key
destination_key d = key d.implementation d.end.first.name (port_name d.end.port)

abbrev pub destination_place : Destination → Place
destination_place d = d.end.first.place

abbrev pub fan_in : Refusal → Refusal
fan_in r = named code.ModelFanIn r.place r.word

-- the destinations that an earlier connection of the implementation has
abbrev pub fan_in_offences : Tables → List Refusal
fan_in_offences t = map fan_in (repeats_from destination_key destination_place [] (map destination t.connections))
