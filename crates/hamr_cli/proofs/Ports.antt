-- The domains and ports of a thin model fit one another.
use Rattle.std.proofs.Common.{◌≡◌, ◌≢◌, ◌≤◌, ◌<◌, ℕ, ◌+◌, ◌*◌, Bool, true, false, cond, ◌==◌, List, [], ◌∷◌, ◌++◌, map, length, length-append, sym, ap, ◌∙◌, refl, arith, All, ⊎_elim}
use Rattle.std.specs.Prelude.{AllPairs, count_by}
use Rattle.std.specs.Str.{bytes_eq}
use Rattle.std.proofs.lemmas.List.{length-map}
use Rattle.std.proofs.lemmas.Bool.{cases_eq, ne_eqb}
use Rattle.std.proofs.lemmas.List.Sums.{sum_by-append, sum_by-cons, count_by-le-length}
use Rattle.arch_model.specs.declared.id.PdId.{PdId}
use Rattle.arch_model.specs.declared.pd.Pd.{Pd}
use Rattle.arch_model.specs.declared.port.Port.{Port}
use Rattle.arch_model.specs.declared.kind.Kind.TheVariants.{EventItem}
use Rattle.arch_model.specs.BaseTypes.{base_rows}
use Rattle.arch_model.proofs.BaseTypes.{ten}
use Rattle.arch_model.specs.Arch.{IsDomain, IsPort, HaveOwnNames}
use Rattle.hamr_cli.specs.declared.thin.feature.Feature.{Feature}
use Rattle.hamr_cli.specs.declared.thin.device.Device.{Device}
use Rattle.hamr_cli.specs.declared.thin.subcomponent.Subcomponent.{Subcomponent}
use Rattle.hamr_cli.specs.Names.{Differ}
use Rattle.hamr_cli.specs.Instance.{domain_of, port_of, integer_type, features_named, ports_from}
use Rattle.hamr_cli.specs.Model.{HasThinQueue, IsThinDevice}
use Rattle.hamr_cli.proofs.Pairs.{Each, Pairs, each-all, each-from_all, each-append, each-always, each-weaker, each-map, pairs-all, pairs-from_all, pairs-append, pairs-left, pairs-always, pairs-weaker, pairs-map, pairs-unmap}

abbrev domain_id : ℕ → PdId
domain_id domain = record { 0 = domain }

abbrev Other : List ℕ → List ℕ → Type 0
Other name other = name ≢ other

-- what the features of a domain keep
record FitsDomain (fs : List Feature) : Type 0 where
  few : length fs ≤ 32
  queues : Each HasThinQueue fs
  names : Pairs Other (map (λ f. f.name) fs)

no_features : FitsDomain []
no_features = record { few = omega arith; queues = tt; names = tt }

features-fit : (devices : List Device) (name : List ℕ) → Each IsThinDevice devices → FitsDomain (features_named devices name)
features-fit [] name thin = no_features
features-fit (d ∷ ds) name thin =
    let here : FitsDomain d.features = record { few = thin.0.few_features; queues = each-from_all HasThinQueue d.features thin.0.queue_sizes; names = pairs-from_all Other (map (λ f. f.name) d.features) thin.0.feature_names } in
    let there = features-fit ds name thin.1 in
    elim (bytes_eq d.name name) as (λ b. FitsDomain (cond b d.features (features_named ds name))) [ true ↦ here | false ↦ there ]

-- a port of a domain from `low` on and before `high`
pub record IsPlaced (low high : ℕ) (port : Port) : Type 0 where
  pub after : low ≤ port.owner.0
  pub before : port.owner.0 < high
  pub some_room : 1 ≤ port.size
  pub room : port.size ≤ 64
  pub kind : port.kind ≡ EventItem
  pub type : port.ty ≡ integer_type

placed-one : (domain high : ℕ) (f : Feature) → domain < high → HasThinQueue f → IsPlaced domain high (port_of (domain_id domain) f)
placed-one domain high f below queue = record { after = omega arith; before = below; some_room = queue.some_items; room = queue.few_items; kind = refl; type = refl }

placed-wider : (low lower high : ℕ) (port : Port) → lower ≤ low → IsPlaced low high port → IsPlaced lower high port
placed-wider low lower high port wider placed = record { after = omega (arith, placed.after); before = placed.before; some_room = placed.some_room; room = placed.room; kind = placed.kind; type = placed.type }

pub ports-placed : (devices : List Device) (domain high : ℕ) (ss : List Subcomponent) → Each IsThinDevice devices → domain + length ss ≡ high → Each (IsPlaced domain high) (ports_from devices domain ss)
ports-placed devices domain high [] thin counted = tt
ports-placed devices domain high (s ∷ ss) thin counted =
    let features = features_named devices s.device in
    let own = domain_id domain in
    each-append (IsPlaced domain high) (map (port_of own) features) (ports_from devices (domain + 1) ss)
    (each-map (IsPlaced domain high) (port_of own) features
    (each-weaker HasThinQueue (λ f. IsPlaced domain high (port_of own f)) (λ f queue. placed-one domain high f (omega arith) queue) features (features-fit devices s.device thin).queues))
    (each-weaker (IsPlaced (domain + 1) high) (IsPlaced domain high) (λ port placed. placed-wider (domain + 1) domain high port (omega arith) placed) (ports_from devices (domain + 1) ss)
    (ports-placed devices (domain + 1) high ss thin (omega arith)))

-- the ports of the first domain, and what comes later
own-later : (devices : List Device) (domain high : ℕ) (fs : List Feature) (ss : List Subcomponent) (R : Port → Port → Type 0) → Each (IsPlaced (domain + 1) high) (ports_from devices (domain + 1) ss) → ((f : Feature) (port : Port) → domain < port.owner.0 → R (port_of (domain_id domain) f) port) → Each (λ port. Each (R port) (ports_from devices (domain + 1) ss)) (map (port_of (domain_id domain)) fs)
own-later devices domain high fs ss R placed later =
    let own = domain_id domain in
    let rest = ports_from devices (domain + 1) ss in
    each-map (λ port. Each (R port) rest) (port_of own) fs
    (each-always (λ f. Each (R (port_of own f)) rest) (λ f. each-weaker (IsPlaced (domain + 1) high) (R (port_of own f)) (λ port p. later f port (omega (arith, p.after))) rest placed) fs)

abbrev InOrder : Port → Port → Type 0
InOrder port later = port.owner.0 ≤ later.owner.0

ports-order : (devices : List Device) (domain high : ℕ) (ss : List Subcomponent) → Each IsThinDevice devices → domain + length ss ≡ high → Pairs InOrder (ports_from devices domain ss)
ports-order devices domain high [] thin counted = tt
ports-order devices domain high (s ∷ ss) thin counted =
    let features = features_named devices s.device in
    let own = domain_id domain in
    let rest = ports_from devices (domain + 1) ss in
    pairs-append InOrder (map (port_of own) features) rest
    (pairs-map InOrder (port_of own) features (pairs-always (λ f g. domain ≤ domain) (λ f g. omega arith) features))
    (ports-order devices (domain + 1) high ss thin (omega arith))
    (own-later devices domain high features ss InOrder (ports-placed devices (domain + 1) high ss thin (omega arith)) (λ f port after. omega arith))

ports-names : (devices : List Device) (domain high : ℕ) (ss : List Subcomponent) → Each IsThinDevice devices → domain + length ss ≡ high → Pairs HaveOwnNames (ports_from devices domain ss)
ports-names devices domain high [] thin counted = tt
ports-names devices domain high (s ∷ ss) thin counted =
    let features = features_named devices s.device in
    let own = domain_id domain in
    let rest = ports_from devices (domain + 1) ss in
    pairs-append HaveOwnNames (map (port_of own) features) rest
    (pairs-map HaveOwnNames (port_of own) features
    (pairs-weaker (λ f g. f.name ≢ g.name) (λ f g. HaveOwnNames (port_of own f) (port_of own g)) (λ f g differ same. differ) features
    (pairs-unmap Other (λ f. f.name) features (features-fit devices s.device thin).names)))
    (ports-names devices (domain + 1) high ss thin (omega arith))
    (own-later devices domain high features ss HaveOwnNames (ports-placed devices (domain + 1) high ss thin (omega arith)) (λ f port after same. absurd (omega arith)))

abbrev weight : Bool → ℕ
weight b = cond b 1 0

count-none : {X : Type 0} (test : X → Bool) (xs : List X) → Each (λ x. test x ≡ false) xs → count_by test xs ≡ 0
count-none test [] none = refl
count-none test (x ∷ xs) none =
    omega (arith, sum_by-cons (λ y. cond (test y) 1 0) x xs, ap weight none.0, count-none test xs none.1)

count-append : {X : Type 0} (test : X → Bool) (xs ys : List X) → count_by test (xs ++ ys) ≡ count_by test xs + count_by test ys
count-append test xs ys = sum_by-append (λ x. cond (test x) 1 0) xs ys

abbrev is_of : ℕ → Port → Bool
is_of domain port = port.owner.0 == domain

count-later : (devices : List Device) (domain other high : ℕ) (ss : List Subcomponent) → other < domain → Each (IsPlaced domain high) (ports_from devices domain ss) → count_by (is_of other) (ports_from devices domain ss) ≡ 0
count-later devices domain other high ss before placed =
    let rest = ports_from devices domain ss in
    count-none (is_of other) rest
    (each-weaker (IsPlaced domain high) (λ port. is_of other port ≡ false) (λ port p. ne_eqb port.owner.0 other (λ same. absurd (omega (arith, p.after)))) rest placed)

count-own : (domain other : ℕ) (fs : List Feature) → (domain ≡ other → ⊥) → count_by (is_of other) (map (port_of (domain_id domain)) fs) ≡ 0
count-own domain other fs differ =
    let own = domain_id domain in
    count-none (is_of other) (map (port_of own) fs)
    (each-map (λ port. is_of other port ≡ false) (port_of own) fs (each-always (λ f. (domain == other) ≡ false) (λ f. ne_eqb domain other differ) fs))

count-few : (domain other : ℕ) (fs : List Feature) → length fs ≤ 32 → count_by (is_of other) (map (port_of (domain_id domain)) fs) ≤ 32
count-few domain other fs few =
    let own = domain_id domain in
    omega (arith, count_by-le-length (is_of other) (map (port_of own) fs), length-map fs (port_of own))

ports-few : (devices : List Device) (domain high other : ℕ) (ss : List Subcomponent) → Each IsThinDevice devices → domain + length ss ≡ high → count_by (is_of other) (ports_from devices domain ss) ≤ 32
ports-few devices domain high other [] thin counted = omega arith
ports-few devices domain high other (s ∷ ss) thin counted =
    let features = features_named devices s.device in
    let own = map (port_of (domain_id domain)) features in
    let rest = ports_from devices (domain + 1) ss in
    let both = count-append (is_of other) own rest in
    let few : length features ≤ 32 = (features-fit devices s.device thin).few in
    ⊎_elim
    (λ same. omega (arith, both, count-few domain other features few, count-later devices (domain + 1) other high ss (omega (arith, same)) (ports-placed devices (domain + 1) high ss thin (omega arith))))
    (λ differ. omega (arith, both, count-own domain other features differ, ports-few devices (domain + 1) high other ss thin (omega arith)))
    (cases_eq domain other)

-- a domain has at most 32 ports
pub ports-length : (devices : List Device) (domain : ℕ) (ss : List Subcomponent) → Each IsThinDevice devices → length (ports_from devices domain ss) ≤ 32 * length ss
ports-length devices domain [] thin = omega arith
ports-length devices domain (s ∷ ss) thin =
    let features = features_named devices s.device in
    let own = map (port_of (domain_id domain)) features in
    let few : length features ≤ 32 = (features-fit devices s.device thin).few in
    omega (arith, length-append own (ports_from devices (domain + 1) ss), length-map features (port_of (domain_id domain)), ports-length devices (domain + 1) ss thin)

placed-port : (ss : List Subcomponent) (port : Port) → IsPlaced 0 (length ss) port → IsPort (map domain_of ss) base_rows port
placed-port ss port placed = record {
  owner = omega (arith, placed.before, length-map ss domain_of);
  some_room = placed.some_room;
  room = placed.room;
  typed = omega (arith, placed.type, ten);
  one_value = λ sampled. let never = sym placed.kind ∙ sampled in cc;
  event = (λ event. let never = sym placed.kind ∙ event in absurd (cc), λ event. absurd (omega (arith, placed.type, event)));
}

-- the ports of thin models are event data ports of Integer_32
pub record IsIntegerPort (port : Port) : Type 0 where
  pub kind : port.kind ≡ EventItem
  pub type : port.ty ≡ integer_type

-- what the ports of a model keep
pub record PortsFit (pds : List Pd) (ports : List Port) : Type 0 where
  pub fit : All (IsPort pds base_rows) ports
  pub few : (domain : ℕ) → count_by (λ port. port.owner.0 == domain) ports ≤ 32
  pub order : AllPairs (λ port later. port.owner.0 ≤ later.owner.0) ports
  pub names : AllPairs HaveOwnNames ports
  pub kinds : Each IsIntegerPort ports

pub ports-fit : (devices : List Device) (ss : List Subcomponent) → All IsThinDevice devices → PortsFit (map domain_of ss) (ports_from devices 0 ss)
ports-fit devices ss all =
    let thin = each-from_all IsThinDevice devices all in
    let ports = ports_from devices 0 ss in
    let placed = ports-placed devices 0 (length ss) ss thin (omega arith) in
    record {
      fit = each-all (IsPort (map domain_of ss) base_rows) ports (each-weaker (IsPlaced 0 (length ss)) (IsPort (map domain_of ss) base_rows) (placed-port ss) ports placed);
      few = λ domain. ports-few devices 0 (length ss) domain ss thin (omega arith);
      order = pairs-all InOrder ports (ports-order devices 0 (length ss) ss thin (omega arith));
      names = pairs-all HaveOwnNames ports (ports-names devices 0 (length ss) ss thin (omega arith));
      kinds = each-weaker (IsPlaced 0 (length ss)) IsIntegerPort (λ port p. record { kind = p.kind; type = p.type }) ports placed;
    }

-- domains have their subcomponents' names, which differ
pub domains-fit : (ss : List Subcomponent) → All IsDomain (map domain_of ss)
domains-fit ss =
    each-all IsDomain (map domain_of ss) (each-map IsDomain domain_of ss (each-always (λ s. IsDomain (domain_of s)) (λ s. record { period = λ periodic. cc; free_name = λ other. absurd (other refl) }) ss))

pub domain-names : (ss : List Subcomponent) (others : List (List ℕ)) → Differ (map (λ s. s.name) ss ++ others) → AllPairs (λ (pd : Pd) other. pd.name ≢ other.name) (map domain_of ss)
domain-names ss others differ =
    let names = pairs-left Other (map (λ (s : Subcomponent). s.name) ss) others (pairs-from_all Other (map (λ (s : Subcomponent). s.name) ss ++ others) differ) in
    pairs-all (λ (pd : Pd) other. pd.name ≢ other.name) (map domain_of ss)
    (pairs-map (λ (pd : Pd) other. pd.name ≢ other.name) domain_of ss (pairs-unmap Other (λ (s : Subcomponent). s.name) ss names))
