-- Links: what runs from an out port of a thread or device to a port, end to end (after SAE AS5506, connection instances).
use Rattle.std.specs.Prelude.{◌≡◌, ℕ, ◌≤◌, Bool, true, List, [], ◌∷◌, length, Option, Some, slice_get}
use Rattle.aadl_tree.specs.declared.connection.Connection.{Connection}
use Rattle.aadl_names.specs.declared.parts.PartRow.{PartRow}
use Rattle.aadl_names.specs.Keys.{place_of}
use Rattle.aadl_links.specs.declared.source.Source.{Source}
use Rattle.aadl_links.specs.Wires.{Wires, PortAt, port_at, within, end_at, is_across, is_up, is_down, destination_key, destinations_of, sender}

-- a connection of this kind, inside of some component, leads from one port to the other
pub record Runs (w : Wires) (kind : Connection → Bool) (c : ℕ) (from to : PortAt) : Type 0 where
  pub path : List ℕ
  pub row : PartRow Connection
  pub found : slice_get w.tables.connections c ≡ Some row
  pub stands : within w path ≡ Some row.owner
  pub fits : kind row.part ≡ true
  pub begins : end_at w row.owner path row.part.from ≡ Some from
  pub ends : end_at w row.owner path row.part.to ≡ Some to

-- connections of this kind lead there one after another; the last comes first
abbrev pub RunAll : Wires → (Connection → Bool) → List ℕ → PortAt → PortAt → Type 0
RunAll w kind [] from to = from ≡ to
RunAll w kind (c ∷ before) from to = (between : PortAt) × Runs w kind c between to × RunAll w kind before from between

-- from an out port of a thread or device, which stands in at most 32 systems and a process, connections lead up
pub record Rises (w : Wires) (feature : ℕ) (ups : List ℕ) (from to : PortAt) : Type 0 where
  pub sends : sender w from ≡ Some feature
  pub near : length from.path ≤ 34
  pub up : RunAll w is_up ups from to

-- then one leads across, and others down
pub record IsLink (w : Wires) (feature : ℕ) (ups : List ℕ) (across : ℕ) (downs : List ℕ) (from to : PortAt) : Type 0 where
  pub left : PortAt
  pub entered : PortAt
  pub rises : Rises w feature ups from left
  pub over : Runs w is_across across left entered
  pub down : RunAll w is_down downs entered to

-- no two connections of an implementation have one destination: each is the first with its own
abbrev pub HasOneSource : Wires → Type 0
HasOneSource w = (c : ℕ) (row : PartRow Connection) → slice_get w.tables.connections c ≡ Some row →
    place_of (destinations_of w.tables) (destination_key row) ≡ Some c

abbrev pub source_at : PortAt → ℕ → ℕ → Source
source_at from feature across = record { path = from.path; feature = feature; across = across }

-- a link from the source leads to the port
pub record IsSourceOf (w : Wires) (to : PortAt) (source : Source) : Type 0 where
  pub name : List ℕ
  pub ups : List ℕ
  pub downs : List ℕ
  pub link : IsLink w source.feature ups source.across downs (port_at source.path name) to

-- whatever link leads to the port begins there
abbrev pub IsOnlySource : Wires → PortAt → Option Source → Type 0
IsOnlySource w to found = (feature : ℕ) (ups : List ℕ) (across : ℕ) (downs : List ℕ) (from : PortAt) →
    IsLink w feature ups across downs from to → found ≡ Some (source_at from feature across)
