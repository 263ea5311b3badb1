-- The instance of a thin model: its domains, their ports and the links between them (SAE AS5506, semantic connections, between
-- devices; docs/formats/model.md).
use Rattle.std.specs.Prelude.{ℕ, ◌+◌, Bool, true, false, ◌&&◌, ◌||◌, not, ◌==◌, nat_lt, if◌then◌else◌, List, [], ◌∷◌, ◌++◌, map, Option, Some, None, slice_get}
use Rattle.std.specs.List.{list_any, filter_map}
use Rattle.std.specs.Str.{bytes_eq}
use Rattle.arch_model.specs.declared.id.PdId.{PdId}
use Rattle.arch_model.specs.declared.id.PortId.{PortId}
use Rattle.arch_model.specs.declared.pd.Pd.{Pd}
use Rattle.arch_model.specs.declared.port.Port.{Port}
use Rattle.arch_model.specs.declared.link.Link.{Link}
use Rattle.arch_model.specs.declared.origin.Origin.{Origin}
use Rattle.arch_model.specs.declared.parts.ArchParts.{ArchParts}
use Rattle.arch_model.specs.BaseTypes.{base_rows}
use Rattle.hw_text.specs.declared.place.Place.{Place}
use Rattle.arch_model.specs.declared.role.Role.TheVariants.{Device as device_role}
use Rattle.arch_model.specs.declared.kind.Kind.TheVariants.{EventItem}
use Rattle.arch_model.specs.LookUp.{pd_named}
use Rattle.hamr_cli.specs.declared.thin.feature.Way.{Way}
use Rattle.hamr_cli.specs.declared.thin.feature.Way.TheVariants.{Out, In, Queued}
use Rattle.hamr_cli.specs.declared.thin.feature.Feature.{Feature}
use Rattle.hamr_cli.specs.declared.thin.device.Device.{Device}
use Rattle.hamr_cli.specs.declared.thin.subcomponent.Subcomponent.{Subcomponent}
use Rattle.hamr_cli.specs.declared.thin.connection.Tip.{Tip}
use Rattle.hamr_cli.specs.declared.thin.connection.Connection.{Connection}
use Rattle.hamr_cli.specs.declared.thin.model.ThinModel.{ThinModel}
use Rattle.hamr_cli.specs.Steps.{◌>>=◌}

-- the domain that a subcomponent is
abbrev pub domain_of : Subcomponent → Pd
domain_of s = record { name = s.name; role = device_role; period = 0; upper = 0 }

abbrev first_place : Place
first_place = record { line = 1; column = 1 }

-- where a device comes from: its package; it has no thread and no contract
abbrev pub device_origin : List ℕ → Origin
device_origin name = record {
  «package» = name;
  thread = [];
  at = first_place;
  has_annex = false;
  annex = [];
  annex_at = first_place;
}

abbrev pub origin_of : List ℕ → Subcomponent → Origin
origin_of name s = device_origin name

-- Queue_Size, which is 1 where none is written
abbrev pub size_of : Way → ℕ
size_of Out = 1
size_of In = 1
size_of (Queued size) = size

abbrev pub is_out : Way → Bool
is_out Out = true
is_out In = false
is_out (Queued size) = false

-- the place of Integer_32 among the types
abbrev pub integer_type : ℕ
integer_type = 3

-- the port that a feature is in a domain
abbrev pub port_of : PdId → Feature → Port
port_of domain f = record { owner = domain; name = f.name; outward = is_out f.way; kind = EventItem; ty = integer_type; size = size_of f.way; all = false }

abbrev pub is_declared : List Device → List ℕ → Bool
is_declared devices name = list_any (λ device. bytes_eq device.name name) devices

-- the features of the first device type of this name
abbrev pub features_named : List Device → List ℕ → List Feature
features_named [] name = []
features_named (device ∷ devices) name = if bytes_eq device.name name then device.features else features_named devices name

-- the ports of these subcomponents, which are the domains from this one on
abbrev pub ports_from : List Device → ℕ → List Subcomponent → List Port
ports_from devices domain [] = []
ports_from devices domain (s ∷ ss) =
    map (port_of (record { 0 = domain })) (features_named devices s.device) ++ ports_from devices (domain + 1) ss

-- the first port of this domain and name, the ports being numbered from `place` on
abbrev pub port_named_from : ℕ → List Port → PdId → List ℕ → Option PortId
port_named_from place [] domain name = None
port_named_from place (port ∷ ports) domain name =
    if (port.owner.0 == domain.0) && bytes_eq port.name name then Some (record { 0 = place })
    else port_named_from (place + 1) ports domain name

-- the port that an end of a connection names
abbrev pub tip_port : List Pd → List Port → Tip → Option PortId
tip_port pds ports tip = pd_named pds tip.component >>= (λ domain. port_named_from 0 ports domain tip.port)

-- an out port and an in port of another domain can be linked
abbrev pub can_join : Port → Port → Bool
can_join from to = from.outward && (not to.outward && not (from.owner.0 == to.owner.0))

abbrev pub joined_ports : List Port → PortId → PortId → Option Link
joined_ports ports from to = do
  out ← slice_get ports from.0
  in' ← slice_get ports to.0
  if can_join out in' then Some (record { from = from; to = to }) else None

-- the link of a connection that goes from an out port of one domain to an in port of another
unfoldable pub link_of : List Pd → List Port → Connection → Option Link
link_of pds ports c = do
  from ← tip_port pds ports c.from
  to ← tip_port pds ports c.to
  joined_ports ports from to

-- a link goes before another by the port that it leaves, and then by the one where it ends
abbrev pub goes_before : Link → Link → Bool
goes_before link other = nat_lt link.from.0 other.from.0 || ((link.from.0 == other.from.0) && nat_lt link.to.0 other.to.0)

-- the links with one more, behind those that go before it
abbrev pub with_link : List Link → Link → List Link
with_link [] link = link ∷ []
with_link (other ∷ links) link = if goes_before other link then other ∷ with_link links link else link ∷ other ∷ links

-- links that are in order, with more of them, in order
abbrev pub with_links : List Link → List Link → List Link
with_links links [] = links
with_links links (link ∷ more) = with_links (with_link links link) more

abbrev pub ends_at : List Link → PortId → Bool
ends_at links port = list_any (λ link. link.to.0 == port.0) links

-- the links with those of more connections; none where a connection has no link, or ends where a link does
abbrev pub joined : List Pd → List Port → List Link → List Connection → Option (List Link)
joined pds ports links [] = Some links
joined pds ports links (c ∷ cs) =
    link_of pds ports c >>= (λ link. if ends_at links link.to then None else joined pds ports (with_link links link) cs)

abbrev pub domains_of : ThinModel → List Pd
domains_of m = map domain_of m.subcomponents

abbrev pub ports_of : ThinModel → List Port
ports_of m = ports_from m.devices 0 m.subcomponents

-- the links of the connections, as these are written
abbrev pub links_named : ThinModel → List Link
links_named m = filter_map (link_of (domains_of m) (ports_of m)) m.connections

abbrev pub origins_of : ThinModel → List Origin
origins_of m = map (origin_of m.package_name) m.subcomponents

-- no types are declared; no frame period is written, so it is 1 ms
abbrev pub instance_of : ThinModel → ArchParts
instance_of m = record {
  pds = domains_of m;
  ports = ports_of m;
  links = with_links [] (links_named m);
  types = base_rows;
  frame = 1000000000;
  origins = origins_of m;
}
