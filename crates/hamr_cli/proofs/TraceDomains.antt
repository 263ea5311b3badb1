-- A domain is found by its name, and each name names one.
use Rattle.std.proofs.Common.{◌≡◌, ◌≢◌, ℕ, zero, suc, ◌+◌, Bool, true, false, cond, List, [], ◌∷◌, Option, Some, None, refl, sym, ap, ◌∙◌, arith}
use Rattle.std.specs.Prelude.{AllPairs, IsSomeAnd, slice_get, unwrap_or}
use Rattle.std.specs.Option.{option_map_or}
use Rattle.std.specs.Str.{bytes_eq}
use Rattle.std.proofs.lemmas.Slice.Eq.{bytes_eq-Decides}
use Rattle.arch_model.specs.declared.parts.ArchParts.{ArchParts}
use Rattle.arch_model.specs.declared.id.PdId.{PdId}
use Rattle.arch_model.specs.declared.pd.Pd.{Pd}
use Rattle.arch_model.specs.Arch.{IsWellFormed}
use Rattle.arch_model.specs.LookUp.{pd_named, pd_named_from}
use Rattle.rts_rules.specs.Domain.{IsDevice}
use Rattle.hamr_cli.specs.TraceText.{domain_name}
use Rattle.hamr_cli.proofs.TracePairs.{AllPairs-tail, AllPairs-head, same_names, other_names}

-- the domain at k of those from `place` on
record FoundDomain (place : ℕ) (pds : List Pd) (name : List ℕ) (who : PdId) : Type 0 where
  k : ℕ
  at_place : who.0 ≡ place + k
  named : option_map_or (λ (pd : Pd). pd.name) (slice_get pds k) [] ≡ name

domain_step : (t : Bool) (place : ℕ) (pd : Pd) (pds : List Pd) (name : List ℕ) (who : PdId) → bytes_eq pd.name name ≡ t →
    cond t (Some (record { 0 = place })) (pd_named_from (place + 1) pds name) ≡ Some who →
    (pd_named_from (place + 1) pds name ≡ Some who → FoundDomain (place + 1) pds name who) → FoundDomain place (pd ∷ pds) name who
domain_step true place pd pds name who t e later =
    let here : place ≡ who.0 = ap (λ (o : Option PdId). (unwrap_or o who).0) e in
    record { k = 0; at_place = omega arith; named = same_names pd.name name t }
domain_step false place pd pds name who t e later =
    let f = later e in
    record { k = suc f.k; at_place = omega (arith, f.at_place); named = f.named }

domain-from : (place : ℕ) (pds : List Pd) (name : List ℕ) (who : PdId) → pd_named_from place pds name ≡ Some who → FoundDomain place pds name who
domain-from place [] name who e = cc
domain-from place (pd ∷ pds) name who e = domain_step (bytes_eq pd.name name) place pd pds name who refl e (domain-from (place + 1) pds name who)

-- the name of the domain that is found
pub domain_name-found : (arch : ArchParts) (rows : List Pd) (name : List ℕ) (who : PdId) → rows ≡ arch.pds → Some who ≡ pd_named rows name →
    domain_name arch who ≡ name
domain_name-found arch rows name who same e =
    let f = domain-from 0 rows name who (sym e) in
    let here : who.0 ≡ f.k = omega (arith, f.at_place) in
    rw (here, ← same) f.named

-- the name of a domain finds it
domain-only : (place : ℕ) (pds : List Pd) (name : List ℕ) (k : ℕ) (pd : Pd) → AllPairs (λ (one other : Pd). one.name ≢ other.name) pds →
    slice_get pds k ≡ Some pd → pd.name ≡ name → pd_named_from place pds name ≡ Some (record { 0 = place + k })
domain-only place [] name k pd all e named = cc
domain-only place (x ∷ xs) name zero pd all e named =
    let here : x ≡ pd = ap (λ (o : Option Pd). unwrap_or o x) e in
    let test : bytes_eq x.name name ≡ true = (bytes_eq-Decides x.name name).1 (ap (λ (p : Pd). p.name) here ∙ named) in
    let at_zero : place ≡ place + 0 = omega arith in
    ap (λ t. cond t (Some (record { 0 = place })) (pd_named_from (place + 1) xs name)) test ∙ ap (λ n. Some (record { 0 = n })) at_zero
domain-only place (x ∷ xs) name (suc k) pd all e named =
    let apart = AllPairs-head (λ (one other : Pd). one.name ≢ other.name) x xs k pd all e in
    let test : bytes_eq x.name name ≡ false = other_names x.name name (λ same. apart (same ∙ sym named)) in
    let later = domain-only (place + 1) xs name k pd (AllPairs-tail (λ (one other : Pd). one.name ≢ other.name) x xs all) e named in
    let at_suc : place + 1 + k ≡ place + suc k = omega arith in
    ap (λ t. cond t (Some (record { 0 = place })) (pd_named_from (place + 1) xs name)) test ∙ (later ∙ ap (λ n. Some (record { 0 = n })) at_suc)

domain-at : (pds : List Pd) (name : List ℕ) (who : PdId) (here : Option Pd) (P : Pd → Type 0) → AllPairs (λ (one other : Pd). one.name ≢ other.name) pds →
    slice_get pds who.0 ≡ here → IsSomeAnd here P → name ≡ option_map_or (λ (pd : Pd). pd.name) here [] → pd_named pds name ≡ Some who
domain-at pds name who None P all e some named = absurd some
domain-at pds name who (Some pd) P all e some named =
    let same : 0 + who.0 ≡ who.0 = omega arith in
    domain-only 0 pds name who.0 pd all e (sym named) ∙ ap (λ n. Some (record { 0 = n })) same

pub pd_named-domain_name : (arch : ArchParts) (rows : List Pd) (name : List ℕ) (who : PdId) → rows ≡ arch.pds → IsWellFormed arch → IsDevice arch who →
    name ≡ domain_name arch who → pd_named rows name ≡ Some who
pd_named-domain_name arch rows name who same well device named =
    rw same (domain-at arch.pds name who (slice_get arch.pds who.0) _ well.domain_names refl device named)
