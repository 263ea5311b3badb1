-- The instance of a thin model is well-formed, and is what is joined.
use Rattle.std.proofs.Common.{◌≡◌, ◌<◌, List, [], Option, Some, None, length, sym, ap, ◌∙◌, subst, arith, map}
use Rattle.std.specs.Prelude.{IsSome}
use Rattle.arch_model.specs.declared.pd.Pd.{Pd}
use Rattle.arch_model.specs.declared.port.Port.{Port}
use Rattle.arch_model.specs.declared.link.Link.{Link}
use Rattle.arch_model.specs.declared.parts.ArchParts.{ArchParts}
use Rattle.arch_model.specs.declared.type_row.TypeRow.{TypeRow}
use Rattle.arch_model.specs.declared.origin.Origin.{Origin}
use Rattle.arch_model.specs.Arch.{IsWellFormed}
use Rattle.arch_model.specs.BaseTypes.{base_rows}
use Rattle.arch_model.proofs.BaseTypes.{base-table}
use Rattle.hamr_cli.specs.declared.thin.device.Device.{Device}
use Rattle.hamr_cli.specs.declared.thin.subcomponent.Subcomponent.{Subcomponent}
use Rattle.hamr_cli.specs.declared.thin.connection.Connection.{Connection}
use Rattle.hamr_cli.specs.declared.thin.model.ThinModel.{ThinModel}
use Rattle.std.proofs.lemmas.List.{length-map}
use Rattle.std.proofs.lemmas.Option.{none-some}
use Rattle.hamr_cli.specs.Instance.{domain_of, origin_of, origins_of, link_of, joined, with_links, ports_from, domains_of, ports_of, links_named, instance_of}
use Rattle.hamr_cli.specs.Model.{HasThinShape, IsThinModel, IsThinDevice}
use Rattle.hamr_cli.proofs.Pairs.{each-all, each-from_all, pairs-all, pairs-from_all}
use Rattle.hamr_cli.proofs.Ports.{ports-fit, ports-length, domains-fit, domain-names}
use Rattle.hamr_cli.proofs.LinkOrder.{Apart, fresh-none}
use Rattle.hamr_cli.proofs.Links.{joined-sound, joined-complete, links-fit}

-- what is joined of the connections makes a thin model
pub joined-thin : (m : ThinModel) (links : List Link) → HasThinShape m → joined (domains_of m) (ports_of m) [] m.connections ≡ Some links → IsThinModel m × (links ≡ with_links [] (links_named m))
joined-thin m links shape e =
    let sound = joined-sound (domains_of m) (ports_of m) [] links m.connections e in (
      record {
        shape = shape;
        connected = each-all (λ c. IsSome (link_of (domains_of m) (ports_of m) c)) m.connections sound.0;
        one_sender = pairs-all Apart (links_named m) sound.1.0;
      },
      sound.1.2,
    )

pub thin-joined : (m : ThinModel) → IsThinModel m → joined (domains_of m) (ports_of m) [] m.connections ≡ Some (with_links [] (links_named m))
thin-joined m thin =
    joined-complete (domains_of m) (ports_of m) [] m.connections
    (each-from_all (λ c. IsSome (link_of (domains_of m) (ports_of m) c)) m.connections thin.connected)
    (pairs-from_all Apart (links_named m) thin.one_sender)
    (fresh-none (links_named m))

pub thin-fits : (m : ThinModel) → IsThinModel m → IsWellFormed (instance_of m)
thin-fits m thin =
    let ports = ports-fit m.devices m.subcomponents thin.shape.thin_devices in
    let links = links-fit (ports_of m) base_rows ports.kinds (domains_of m) m.connections (pairs-from_all Apart (links_named m) thin.one_sender) in
    record {
      few_domains = omega (arith, thin.shape.size.few_subcomponents, length-map m.subcomponents domain_of);
      domains = domains-fit m.subcomponents;
      domain_names = domain-names m.subcomponents (map (λ (c : Connection). c.name) m.connections) thin.shape.member_names;
      ports = ports.fit;
      few_ports = ports.few;
      port_order = ports.order;
      port_names = ports.names;
      links = links.0;
      link_order = links.1;
      one_sender = links.2;
      types = base-table;
      frame = omega arith;
      origins = length-map m.subcomponents (origin_of m.package_name) ∙ sym (length-map m.subcomponents domain_of);
    }

pub ports-below : (m : ThinModel) → HasThinShape m → length (ports_of m) < 4294967296
ports-below m shape =
    omega (arith, ports-length m.devices 0 m.subcomponents (each-from_all IsThinDevice m.devices shape.thin_devices), shape.size.few_subcomponents)

pub ports-at : (m : ThinModel) (ds : List Device) (ss : List Subcomponent) → ds ≡ m.devices → ss ≡ m.subcomponents → ports_from ds 0 ss ≡ ports_of m
ports-at m ds ss d s = ap (λ (l : List Device). ports_from l 0 ss) d ∙ ap (λ (l : List Subcomponent). ports_from m.devices 0 l) s

pub joined-at : (m : ThinModel) (pds : List Pd) (ports : List Port) (cs : List Connection) (found : Option (List Link)) → pds ≡ domains_of m → ports ≡ ports_of m → cs ≡ m.connections → found ≡ joined pds ports [] cs → found ≡ joined (domains_of m) (ports_of m) [] m.connections
joined-at m pds ports cs found d p k e =
    e ∙ ap (λ (l : List Pd). joined l ports [] cs) d ∙ ap (λ (l : List Port). joined (domains_of m) l [] cs) p ∙ ap (λ (l : List Connection). joined (domains_of m) (ports_of m) [] l) k

-- parts that are put together so
abbrev parts_of : List Pd → List Port → List Link → List TypeRow → List Origin → ArchParts
parts_of pds ports links types origins = record { pds = pds; ports = ports; links = links; types = types; frame = 1000000000; origins = origins }

pub parts-are : (m : ThinModel) (pds : List Pd) (ports : List Port) (links : List Link) (types : List TypeRow) (origins : List Origin) → HasThinShape m →
    pds ≡ domains_of m → ports ≡ ports_of m → types ≡ base_rows → origins ≡ origins_of m →
    joined (domains_of m) (ports_of m) [] m.connections ≡ Some links → IsThinModel m × (parts_of pds ports links types origins ≡ instance_of m)
parts-are m pds ports links types origins shape d p t o e =
    let thin = joined-thin m links shape e in (
      thin.0,
      ap (λ (l : List Pd). parts_of l ports links types origins) d ∙ ap (λ (l : List Port). parts_of (domains_of m) l links types origins) p
          ∙ ap (λ (l : List Link). parts_of (domains_of m) (ports_of m) l types origins) thin.1
          ∙ ap (λ (l : List TypeRow). parts_of (domains_of m) (ports_of m) (with_links [] (links_named m)) l origins) t
          ∙ ap (λ (l : List Origin). parts_of (domains_of m) (ports_of m) (with_links [] (links_named m)) base_rows l) o,
    )

pub parts-fit : (m : ThinModel) (parts : ArchParts) → IsThinModel m × (parts ≡ instance_of m) → IsWellFormed parts
parts-fit m parts made = subst IsWellFormed (sym made.1) (thin-fits m made.0)

pub none-thin : (m : ThinModel) (found : Option (List Link)) → found ≡ joined (domains_of m) (ports_of m) [] m.connections → found ≡ None → IsThinModel m → ⊥
none-thin m found e none thin = none-some (with_links [] (links_named m)) (sym none ∙ e ∙ thin-joined m thin)
