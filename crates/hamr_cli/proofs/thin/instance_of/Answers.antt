use Rattle.std.proofs.Common.{◌∙◌, List, Some, length, map, sym, ap, arith}
use Rattle.arch_model.specs.declared.port.Port.{Port}
use Rattle.hamr_cli.specs.Instance.{domain_of, origin_of}
use Rattle.hamr_cli.proofs.Instances.{ports-at, joined-at, ports-below, parts-are, parts-fit, none-thin}
use Rattle.hamr_cli.proofs.thin.instance_of.Goals as goal

pub joined-requires-clause-few_ports : goal.joined-requires-clause-few_ports
joined-requires-clause-few_ports c =
    let ports = c.rows-5.ensures ∙ c.in_ok-ports.ensures ∙ ports-at c.args.model.now c.rows-2.result.now c.rows-3.result.now c.rows-2.ensures c.rows-3.ensures in
    omega (arith, ap (λ (l : List Port). length l) ports, ports-below c.args.model.now c.requires)

pub returns-in_default-clause-only : goal.returns-in_default-clause-only
returns-in_default-clause-only c = λ thin.
    let m = c.args.model.now in
    let pds = c.rows-4.ensures ∙ c.in_ok-pds.ensures ∙ ap (map domain_of) c.rows.ensures in
    let ports = c.rows-5.ensures ∙ c.in_ok-ports.ensures ∙ ports-at m c.rows-2.result.now c.rows-3.result.now c.rows-2.ensures c.rows-3.ensures in
    absurd (none-thin m c.in_ok-links.field-0 (joined-at m c.rows-4.result.now c.rows-5.result.now c.rows-6.result.now c.in_ok-links.field-0 pds ports c.rows-6.ensures c.in_ok-links.ensures) c.in_default.is thin)

pub new-requires : goal.new-requires
new-requires c =
    let m = c.args.model.now in
    let pds = c.in_ok-pds.ensures ∙ ap (map domain_of) c.rows.ensures in
    let ports = c.in_ok-ports.ensures ∙ ports-at m c.rows-2.result.now c.rows-3.result.now c.rows-2.ensures c.rows-3.ensures in
    let links = joined-at m c.rows-4.result.now c.rows-5.result.now c.rows-6.result.now c.in_ok-links.field-0 (c.rows-4.ensures ∙ pds) (c.rows-5.ensures ∙ ports) c.rows-6.ensures c.in_ok-links.ensures in
    let origins = c.in_ok-origins.ensures ∙ ap (map (origin_of m.package_name)) c.rows-7.ensures in
    parts-fit m (record {
      pds = c.in_ok-pds.pds;
      ports = c.in_ok-ports.ports;
      links = c.in-Some.links;
      types = c.in_ok-types.types;
      frame = 1000000000;
      origins = c.in_ok-origins.origins;
    })
    (parts-are m c.in_ok-pds.pds c.in_ok-ports.ports c.in-Some.links c.in_ok-types.types c.in_ok-origins.origins c.requires pds ports
    c.in_ok-types.ensures origins (sym links ∙ c.in-Some.is))

pub returns-clause-found : goal.returns-clause-found
returns-clause-found c =
    let m = c.args.model.now in
    let pds = c.in_ok-pds.ensures ∙ ap (map domain_of) c.rows.ensures in
    let ports = c.in_ok-ports.ensures ∙ ports-at m c.rows-2.result.now c.rows-3.result.now c.rows-2.ensures c.rows-3.ensures in
    let links = joined-at m c.rows-4.result.now c.rows-5.result.now c.rows-6.result.now c.in_ok-links.field-0 (c.rows-4.ensures ∙ pds) (c.rows-5.ensures ∙ ports) c.rows-6.ensures c.in_ok-links.ensures in
    let origins = c.in_ok-origins.ensures ∙ ap (map (origin_of m.package_name)) c.rows-7.ensures in
    let made = parts-are m c.in_ok-pds.pds c.in_ok-ports.ports c.in-Some.links c.in_ok-types.types c.in_ok-origins.origins c.requires pds ports
    c.in_ok-types.ensures origins (sym links ∙ c.in-Some.is) in
    (made.0, c.in_ok-new.ensures ∙ made.1)

pub returns-clause-only : goal.returns-clause-only
returns-clause-only c = λ thin. ap (λ parts. Some parts) (returns-clause-found c).1
