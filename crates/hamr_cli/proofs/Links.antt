-- The links of connections fit the ports.
use Rattle.std.proofs.Common.{◌≡◌, ℕ, zero, suc, true, false, cond, not, ◌&&◌, ◌==◌, List, [], ◌∷◌, Option, Some, None, sym, ap, ◌∙◌, refl, subst, All}
use Rattle.std.specs.Prelude.{AllPairs, IsSome, slice_get}
use Rattle.std.specs.List.{filter_map, cons_option}
use Rattle.std.specs.Option.{option_and_then}
use Rattle.std.proofs.lemmas.Bool.{and_parts, false_from_ne_true, eqb-false, ne_eqb, not-true, false≢true, cond-true, cond-false}
use Rattle.std.proofs.lemmas.Option.{option_and_then_some, none-some, slice_get_within, same_Some, cond_some}
use Rattle.arch_model.specs.declared.id.PdId.{PdId}
use Rattle.arch_model.specs.declared.id.PortId.{PortId}
use Rattle.arch_model.specs.declared.pd.Pd.{Pd}
use Rattle.arch_model.specs.declared.port.Port.{Port}
use Rattle.arch_model.specs.declared.link.Link.{Link}
use Rattle.arch_model.specs.declared.type_row.TypeRow.{TypeRow}
use Rattle.arch_model.specs.Arch.{IsLink, IsBefore, Joins, same_of}
use Rattle.hamr_cli.proofs.Ports.{IsIntegerPort}
use Rattle.hamr_cli.specs.declared.thin.connection.Connection.{Connection}
use Rattle.hamr_cli.specs.Instance.{tip_port, can_join, joined_ports, link_of, with_link, with_links, ends_at, joined}
use Rattle.hamr_cli.proofs.Pairs.{Each, Pairs, each-weaker, each-filter_map, each-all, pairs-all, any-none, none-any}
use Rattle.hamr_cli.proofs.LinkOrder.{Apart, Fresh, each-with-all, fresh-more, fresh-less, fresh-none, links-order}

ends-apart : (links : List Link) (link : Link) → ends_at links link.to ≡ false → Each (λ other. Apart other link) links
ends-apart links link e =
    each-weaker (λ other. (other.to.0 == link.to.0) ≡ false) (λ other. Apart other link) (λ other f. eqb-false other.to.0 link.to.0 f) links (any-none (λ other. other.to.0 == link.to.0) links e)

apart-ends : (links : List Link) (link : Link) → Each (λ other. Apart other link) links → ends_at links link.to ≡ false
apart-ends links link far =
    none-any (λ other. other.to.0 == link.to.0) links (each-weaker (λ other. Apart other link) (λ other. (other.to.0 == link.to.0) ≡ false) (λ other a. ne_eqb other.to.0 link.to.0 a) links far)

module _ (pds : List Pd) (ports : List Port) where
  abbrev pub named : List Connection → List Link
  named cs = filter_map (link_of pds ports) cs

  abbrev after : List Link → List Connection → Option Link → Option (List Link)
  after links cs o = option_and_then (λ link. cond (ends_at links link.to) None (joined pds ports (with_link links link) cs)) o

  -- what it says that connections were joined to links
  abbrev pub Joining : List Link → List Link → List Link → Type 0
  Joining links more all = Pairs Apart more × Fresh links more × (all ≡ with_links links more)

  abbrev pub Connected : List Connection → Type 0
  Connected cs = Each (λ c. IsSome (link_of pds ports c)) cs

  sound-step : (links all : List Link) (cs : List Connection) (o : Option Link) → ((before : List Link) → joined pds ports before cs ≡ Some all → Connected cs × Joining before (named cs) all) → after links cs o ≡ Some all → (IsSome o × Connected cs) × Joining links (cons_option o (named cs)) all
  sound-step links all cs None later e = absurd (none-some all e)
  sound-step links all cs (Some link) later e =
      let more = joined pds ports (with_link links link) cs in
      let taken = λ (b : ends_at links link.to ≡ true). none-some all (sym (cond-true (ends_at links link.to) None more b) ∙ e) in
      let free = false_from_ne_true (ends_at links link.to) taken in
      let rest = later (with_link links link) (sym (cond-false (ends_at links link.to) None more free) ∙ e) in
      let less = fresh-less links (named cs) link rest.1.1 in
      ((refl, rest.0), ((less.0, rest.1.0), (ends-apart links link free, less.1), rest.1.2))

  pub joined-sound : (links all : List Link) (cs : List Connection) → joined pds ports links cs ≡ Some all → Connected cs × Joining links (named cs) all
  joined-sound links all [] e = (tt, (tt, tt, sym (same_Some links all e)))
  joined-sound links all (c ∷ cs) e =
      sound-step links all cs (link_of pds ports c) (λ before f. joined-sound before all cs f) e

  complete-step : (links : List Link) (cs : List Connection) (o : Option Link) → IsSome o → Pairs Apart (cons_option o (named cs)) → Fresh links (cons_option o (named cs)) → ((before : List Link) → Pairs Apart (named cs) → Fresh before (named cs) → joined pds ports before cs ≡ Some (with_links before (named cs))) → after links cs o ≡ Some (with_links links (cons_option o (named cs)))
  complete-step links cs None some apart fresh later = absurd (false≢true some)
  complete-step links cs (Some link) some apart fresh later =
      cond-false (ends_at links link.to) None (joined pds ports (with_link links link) cs) (apart-ends links link fresh.0)
      ∙ later (with_link links link) apart.1 (fresh-more links (named cs) link apart.0 fresh.1)

  pub joined-complete : (links : List Link) (cs : List Connection) → Connected cs → Pairs Apart (named cs) → Fresh links (named cs) → joined pds ports links cs ≡ Some (with_links links (named cs))
  joined-complete links [] some apart fresh = refl
  joined-complete links (c ∷ cs) some apart fresh =
      complete-step links cs (link_of pds ports c) some.0 apart fresh (λ before a f. joined-complete before cs some.1 a f)

each-at : {X : Type 0} (P : X → Type 0) (xs : List X) (i : ℕ) (x : X) → Each P xs → slice_get xs i ≡ Some x → P x
each-at P [] i x e f = absurd (none-some x f)
each-at P (y ∷ ys) zero x e f = subst P (same_Some y x f) e.0
each-at P (y ∷ ys) (suc i) x e f = each-at P ys i x e.1 f

can-joins : (types : List TypeRow) (from to : Port) → can_join from to ≡ true → IsIntegerPort from → IsIntegerPort to → Joins types from to
can-joins types from to can out into =
    let parts = and_parts from.outward (not to.outward && not (from.owner.0 == to.owner.0)) can in
    let rest = and_parts (not to.outward) (not (from.owner.0 == to.owner.0)) parts.1 in
    record {
      out = parts.0;
      in_ = not-true to.outward rest.0;
      kind = out.kind ∙ sym into.kind;
      other_domain = λ same. eqb-false from.owner.0 to.owner.0 (not-true (from.owner.0 == to.owner.0) rest.1) (ap (λ (p : PdId). p.0) same);
      one_type = ap (same_of types) (out.type ∙ sym into.type);
    }

same-joins : (types : List TypeRow) (from to other last : Port) → from ≡ other → to ≡ last → Joins types from to → Joins types other last
same-joins types from to other last e f joins = subst (λ (p : Port). Joins types other p) f (subst (λ (p : Port). Joins types p to) e joins)

module _ (ports : List Port) (types : List TypeRow) (kinds : Each IsIntegerPort ports) where
  joined_ports-fit : (from to : PortId) (link : Link) → joined_ports ports from to ≡ Some link → IsLink ports types link
  joined_ports-fit from to link e =
      let made : Link = record { from = from; to = to } in
      option_and_then_some _ (slice_get ports from.0) link e (λ out o p.
      option_and_then_some _ (slice_get ports to.0) link p (λ into i q.
      let parts = cond_some (can_join out into) made link q in
      let leaves = each-at IsIntegerPort ports from.0 out kinds o in
      let arrives = each-at IsIntegerPort ports to.0 into kinds i in
      let fits : IsLink ports types made = record {
        from = slice_get_within ports from.0 out o;
        to = slice_get_within ports to.0 into i;
        joins = λ f t ef et. same-joins types out into f t (same_Some out f (sym o ∙ ef)) (same_Some into t (sym i ∙ et)) (can-joins types out into parts.0 leaves arrives);
      } in
      subst (IsLink ports types) parts.1 fits))

  link-fits : (pds : List Pd) (c : Connection) (link : Link) → link_of pds ports c ≡ Some link → IsLink ports types link
  unfolding link_of
  link-fits pds c link e =
      option_and_then_some _ (tip_port pds ports c.from) link e (λ from f p.
      option_and_then_some _ (tip_port pds ports c.to) link p (λ to t q. joined_ports-fit from to link q))

  -- links in order, each of a connection and no two ending at one port
  pub links-fit : (pds : List Pd) (cs : List Connection) → Pairs Apart (named pds ports cs) → All (IsLink ports types) (with_links [] (named pds ports cs)) × AllPairs IsBefore (with_links [] (named pds ports cs)) × AllPairs Apart (with_links [] (named pds ports cs))
  links-fit pds cs apart =
      let more = named pds ports cs in
      let fit = each-filter_map (IsLink ports types) (link_of pds ports) (link-fits pds) cs in
      let order = links-order [] more tt tt (fresh-none more) apart in (
        each-all (IsLink ports types) (with_links [] more) (each-with-all (IsLink ports types) [] more tt fit),
        pairs-all IsBefore (with_links [] more) order.0,
        pairs-all Apart (with_links [] more) order.1,
      )
