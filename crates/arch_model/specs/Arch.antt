-- What makes the tables of an architecture fit one another (this project's own, after the instances of SAE AS5506).
use Rattle.std.specs.Prelude.{◌≡◌, ◌≢◌, ◌⊎◌, ◌↔◌, ℕ, true, false, ◌<◌, ◌≤◌, ◌==◌, List, length, codes, Option, Some, slice_get, All, AllPairs, count_by}
use Rattle.std.specs.Option.{option_map}
use Rattle.arch_model.specs.declared.parts.ArchParts.{ArchParts}
use Rattle.arch_model.specs.declared.pd.Pd.{Pd}
use Rattle.arch_model.specs.declared.port.Port.{Port}
use Rattle.arch_model.specs.declared.link.Link.{Link}
use Rattle.arch_model.specs.declared.role.Role.TheVariants.{Device, Periodic}
use Rattle.arch_model.specs.declared.kind.Kind.TheVariants.{Sampled, Event}
use Rattle.arch_model.specs.declared.type_row.TypeRow.{TypeRow}
use Rattle.arch_model.specs.BaseTypes.{event_type}
use Rattle.arch_model.specs.TypeTable.{IsTypeTable}

-- a domain by itself: a thread of a period has one above 0, and generated files keep the name `types` for themselves
pub record IsDomain (pd : Pd) : Type 0 where
  pub period : pd.role ≡ Periodic → 0 < pd.period
  pub free_name : pd.role ≢ Device → pd.name ≢ codes "types"

-- a port by itself: its domain and its type are there, its queue holds 1 to 64 items, that of a data port one, and event
-- ports alone are of the type without a value
pub record IsPort (pds : List Pd) (types : List TypeRow) (port : Port) : Type 0 where
  pub owner : port.owner.0 < length pds
  pub typed : port.ty < length types
  pub some_room : 1 ≤ port.size
  pub room : port.size ≤ 64
  pub one_value : port.kind ≡ Sampled → port.size ≡ 1
  pub event : (port.kind ≡ Event) ↔ (port.ty ≡ event_type)

-- the place of the type whose name in C the type at a place has
abbrev pub same_of : List TypeRow → ℕ → Option ℕ
same_of types place = option_map (λ row. row.same) (slice_get types place)

-- a link leads from an out port to an in port of the same kind, of another domain, and of a type that is the same in C
pub record Joins (types : List TypeRow) (from to : Port) : Type 0 where
  pub out : from.outward ≡ true
  pub in_ : to.outward ≡ false
  pub kind : from.kind ≡ to.kind
  pub other_domain : from.owner ≢ to.owner
  pub one_type : same_of types from.ty ≡ same_of types to.ty

pub record IsLink (ports : List Port) (types : List TypeRow) (link : Link) : Type 0 where
  pub from : link.from.0 < length ports
  pub to : link.to.0 < length ports
  pub joins : (from to : Port) → slice_get ports link.from.0 ≡ Some from → slice_get ports link.to.0 ≡ Some to → Joins types from to

-- links go by the port that they leave, and then by the one where they end
abbrev pub IsBefore : Link → Link → Type 0
IsBefore link later = (link.from.0 < later.from.0) ⊎ ((link.from.0 ≡ later.from.0) × (link.to.0 < later.to.0))

-- two ports of one domain have two names
abbrev pub HaveOwnNames : Port → Port → Type 0
HaveOwnNames port other = port.owner.0 ≡ other.owner.0 → port.name ≢ other.name

-- the tables fit one another
pub record IsWellFormed (parts : ArchParts) : Type 0 where
  pub few_domains : length parts.pds ≤ 60
  pub domains : All IsDomain parts.pds
  pub domain_names : AllPairs (λ pd other. pd.name ≢ other.name) parts.pds
  pub ports : All (IsPort parts.pds parts.types) parts.ports
  pub few_ports : (domain : ℕ) → count_by (λ port. port.owner.0 == domain) parts.ports ≤ 32
  pub port_order : AllPairs (λ port later. port.owner.0 ≤ later.owner.0) parts.ports
  pub port_names : AllPairs HaveOwnNames parts.ports
  pub links : All (IsLink parts.ports parts.types) parts.links
  pub link_order : AllPairs IsBefore parts.links
  pub one_sender : AllPairs (λ link other. link.to.0 ≢ other.to.0) parts.links
  pub types : IsTypeTable parts.types
  pub frame : 0 < parts.frame
  pub origins : length parts.origins ≡ length parts.pds
