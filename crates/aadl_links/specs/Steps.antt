-- What the search for a source keeps. No clause of a public function cites this.
use Rattle.std.specs.Prelude.{◌≡◌, ℕ, List, Option, Some, None, slice_get}
use Rattle.aadl_tree.specs.declared.connection.Connection.{Connection}
use Rattle.aadl_names.specs.declared.parts.PartRow.{PartRow}
use Rattle.aadl_links.specs.declared.source.Source.{Source}
use Rattle.aadl_links.specs.Wires.{Wires, PortAt, port_at, subcomponent_named}
use Rattle.aadl_links.specs.Links.{Rises, source_at}

-- the connection of an implementation ends at this port of its subcomponent
pub record Enters (w : Wires) (n s : ℕ) (port : List ℕ) (c : ℕ) : Type 0 where
  pub row : PartRow Connection
  pub found : slice_get w.tables.connections c ≡ Some row
  pub own : row.owner ≡ n
  pub first : subcomponent_named w n row.part.to.first.name ≡ Some s
  pub ends : row.part.to.port ≡ Some port

-- the connection of an implementation ends at this port of the component itself
pub record Leaves (w : Wires) (n : ℕ) (port : List ℕ) (c : ℕ) : Type 0 where
  pub row : PartRow Connection
  pub found : slice_get w.tables.connections c ≡ Some row
  pub own : row.owner ≡ n
  pub first : row.part.to.first.name ≡ port
  pub ends : row.part.to.port ≡ None

-- connections lead up to the port from the source
pub record RisesFrom (w : Wires) (to : PortAt) (across : ℕ) (source : Source) : Type 0 where
  pub name : List ℕ
  pub ups : List ℕ
  pub rises : Rises w source.feature ups (port_at source.path name) to
  pub same : source.across ≡ across

-- from wherever they do
abbrev pub IsOnlyRise : Wires → PortAt → ℕ → Option Source → Type 0
IsOnlyRise w to across found = (feature : ℕ) (ups : List ℕ) (from : PortAt) → Rises w feature ups from to → found ≡ Some (source_at from feature across)
