-- A port is found by its owner, its direction and its name, and these name one.
use Rattle.std.proofs.Common.{◌≡◌, ℕ, zero, suc, ◌+◌, eqb, Bool, true, false, cond, List, [], ◌∷◌, Option, Some, None, refl, sym, ap, ◌∙◌, inl, inr, arith}
use Rattle.std.specs.Prelude.{AllPairs, IsSomeAnd, slice_get, unwrap_or}
use Rattle.std.specs.Option.{option_map_or}
use Rattle.std.specs.Str.{bytes_eq}
use Rattle.std.proofs.lemmas.Bool.{and_parts, and_from, eqb-true, eq-eqb, cases_Bool}
use Rattle.std.proofs.lemmas.Slice.Eq.{bytes_eq-Decides}
use Rattle.arch_model.specs.declared.parts.ArchParts.{ArchParts}
use Rattle.arch_model.specs.declared.id.PdId.{PdId}
use Rattle.arch_model.specs.declared.id.PortId.{PortId}
use Rattle.arch_model.specs.declared.port.Port.{Port}
use Rattle.arch_model.specs.Arch.{IsWellFormed, HaveOwnNames}
use Rattle.rts_rules.specs.Domain.{IsPortOf}
use Rattle.hamr_cli.specs.TracePort.{is_same, is_port, port_from}
use Rattle.hamr_cli.specs.TraceText.{port_name}
use Rattle.hamr_cli.proofs.TracePairs.{AllPairs-tail, AllPairs-head, same_names}

record IsThePort (owner : PdId) (outward : Bool) (name : List ℕ) (port : Port) : Type 0 where
  own : port.owner.0 ≡ owner.0
  direction : port.outward ≡ outward
  named : port.name ≡ name

same_direction : (a b : Bool) → is_same a b ≡ true → a ≡ b
same_direction true b e = sym e
same_direction false true e = cc
same_direction false false e = refl

is_same-refl : (a b : Bool) → a ≡ b → is_same a b ≡ true
is_same-refl true b e = sym e
is_same-refl false true e = cc
is_same-refl false false e = refl

the_port : (owner : PdId) (outward : Bool) (name : List ℕ) (port : Port) → is_port owner outward name port ≡ true → IsThePort owner outward name port
the_port owner outward name port e =
    let p = and_parts (eqb port.owner.0 owner.0) _ e in
    let q = and_parts (is_same port.outward outward) (bytes_eq port.name name) p.1 in
    record { own = eqb-true _ _ p.0; direction = same_direction _ _ q.0; named = same_names _ _ q.1 }

is_port-from : (owner : PdId) (outward : Bool) (name : List ℕ) (port : Port) → IsThePort owner outward name port → is_port owner outward name port ≡ true
is_port-from owner outward name port h =
    and_from _ _ (eq-eqb _ _ h.own) (and_from _ _ (is_same-refl _ _ h.direction) ((bytes_eq-Decides port.name name).1 h.named))

record FoundPort (place : ℕ) (ports : List Port) (owner : PdId) (outward : Bool) (name : List ℕ) (id : PortId) : Type 0 where
  k : ℕ
  at_place : id.0 ≡ place + k
  own : IsSomeAnd (slice_get ports k) (λ (p : Port). (p.owner.0 ≡ owner.0) × (p.outward ≡ outward))
  named : option_map_or (λ (p : Port). p.name) (slice_get ports k) [] ≡ name

port_step : (t : Bool) (place : ℕ) (port : Port) (ports : List Port) (owner : PdId) (outward : Bool) (name : List ℕ) (id : PortId) →
    is_port owner outward name port ≡ t → cond t (Some (record { 0 = place })) (port_from (place + 1) ports owner outward name) ≡ Some id →
    (port_from (place + 1) ports owner outward name ≡ Some id → FoundPort (place + 1) ports owner outward name id) →
    FoundPort place (port ∷ ports) owner outward name id
port_step true place port ports owner outward name id t e later =
    let here : place ≡ id.0 = ap (λ (o : Option PortId). (unwrap_or o id).0) e in
    let p = the_port owner outward name port t in
    record { k = 0; at_place = omega arith; own = (p.own, p.direction); named = p.named }
port_step false place port ports owner outward name id t e later =
    let f = later e in
    record { k = suc f.k; at_place = omega (arith, f.at_place); own = f.own; named = f.named }

port-from : (place : ℕ) (ports : List Port) (owner : PdId) (outward : Bool) (name : List ℕ) (id : PortId) → port_from place ports owner outward name ≡ Some id →
    FoundPort place ports owner outward name id
port-from place [] owner outward name id e = cc
port-from place (port ∷ ports) owner outward name id e =
    port_step (is_port owner outward name port) place port ports owner outward name id refl e (port-from (place + 1) ports owner outward name id)

pub record NamesPort (arch : ArchParts) (owner : PdId) (outward : Bool) (name : List ℕ) (id : PortId) : Type 0 where
  pub own : IsPortOf arch owner outward id
  pub named : port_name arch id ≡ name

pub port-found : (arch : ArchParts) (rows : List Port) (owner : PdId) (outward : Bool) (name : List ℕ) (id : PortId) → rows ≡ arch.ports →
    Some id ≡ port_from 0 rows owner outward name → NamesPort arch owner outward name id
port-found arch rows owner outward name id same e =
    let f = port-from 0 rows owner outward name id (sym e) in
    let here : id.0 ≡ f.k = omega (arith, f.at_place) in
    record { own = rw (here, ← same) f.own; named = rw (here, ← same) f.named }

other_port : (owner : PdId) (outward : Bool) (name : List ℕ) (x port : Port) → IsThePort owner outward name port → HaveOwnNames x port →
    is_port owner outward name x ≡ false
other_port owner outward name x port h apart =
    elim (cases_Bool (is_port owner outward name x)) [
      | inl equal ↦ let p = the_port owner outward name x equal in absurd (apart (p.own ∙ sym h.own) (p.named ∙ sym h.named))
      | inr other ↦ other
    ]

port-only : (place : ℕ) (ports : List Port) (owner : PdId) (outward : Bool) (name : List ℕ) (k : ℕ) (port : Port) → AllPairs HaveOwnNames ports →
    slice_get ports k ≡ Some port → IsThePort owner outward name port → port_from place ports owner outward name ≡ Some (record { 0 = place + k })
port-only place [] owner outward name k port all e h = cc
port-only place (x ∷ xs) owner outward name zero port all e h =
    let here : port ≡ x = sym (ap (λ (o : Option Port). unwrap_or o x) e) in
    let test : is_port owner outward name x ≡ true = ap (is_port owner outward name) (sym here) ∙ is_port-from owner outward name port h in
    let at_zero : place ≡ place + 0 = omega arith in
    ap (λ t. cond t (Some (record { 0 = place })) (port_from (place + 1) xs owner outward name)) test ∙ ap (λ n. Some (record { 0 = n })) at_zero
port-only place (x ∷ xs) owner outward name (suc k) port all e h =
    let apart = AllPairs-head HaveOwnNames x xs k port all e in
    let test : is_port owner outward name x ≡ false = other_port owner outward name x port h apart in
    let later = port-only (place + 1) xs owner outward name k port (AllPairs-tail HaveOwnNames x xs all) e h in
    let at_suc : place + 1 + k ≡ place + suc k = omega arith in
    ap (λ t. cond t (Some (record { 0 = place })) (port_from (place + 1) xs owner outward name)) test ∙ (later ∙ ap (λ n. Some (record { 0 = n })) at_suc)

port-at : (ports : List Port) (owner : PdId) (outward : Bool) (name : List ℕ) (id : PortId) (here : Option Port) → AllPairs HaveOwnNames ports →
    slice_get ports id.0 ≡ here → IsSomeAnd here (λ (p : Port). (p.owner.0 ≡ owner.0) × (p.outward ≡ outward)) →
    name ≡ option_map_or (λ (p : Port). p.name) here [] → port_from 0 ports owner outward name ≡ Some id
port-at ports owner outward name id None all e some named = absurd some
port-at ports owner outward name id (Some port) all e some named =
    let same : 0 + id.0 ≡ id.0 = omega arith in
    port-only 0 ports owner outward name id.0 port all e (record { own = some.0; direction = some.1; named = sym named }) ∙ ap (λ n. Some (record { 0 = n })) same

pub port_from-port_name : (arch : ArchParts) (rows : List Port) (owner : PdId) (outward : Bool) (name : List ℕ) (id : PortId) → rows ≡ arch.ports → IsWellFormed arch →
    IsPortOf arch owner outward id → name ≡ port_name arch id → port_from 0 rows owner outward name ≡ Some id
port_from-port_name arch rows owner outward name id same well own named =
    rw same (port-at arch.ports owner outward name id (slice_get arch.ports id.0) well.port_names refl own named)
