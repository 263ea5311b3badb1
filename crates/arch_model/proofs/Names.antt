-- Where a name stands among the names of the domains.
use Rattle.std.proofs.Common.{◌≡◌, ◌≢◌, ℕ, suc, Bool, true, false, ◌+◌, ◌<◌, nat_lt, List, [], ◌∷◌, ◌++◌, length, map, take, get_or, cond, Option, Some, None, refl, ap, sym, ◌∙◌, add-one, arith, eqb, not, if◌then◌else◌, AllPairs, All, zero-add, length-take}
use Rattle.std.proofs.lemmas.Slice.Eq.{slice_eq-Decides}
use Rattle.std.proofs.lemmas.Bool.Decides.{Decides-eqb}
use Rattle.std.proofs.lemmas.List.{get_or-map, get_or_default, get_or-take, length-map, map-append}
use Rattle.std.proofs.lemmas.List.Elements.{All-map}
use Rattle.std.proofs.Math.Seq.{take-suc}
use Rattle.std.proofs.lemmas.List.Folds.{list_any_none}
use Rattle.std.proofs.lemmas.Bool.Decides.{nat_tests}
use Rattle.std.specs.List.{list_any, position_or_len, position}
use Rattle.std.specs.Str.{bytes_eq}
use Rattle.std.specs.Option.{option_map}
use Rattle.std.specs.declared.vec.Vec.{Vec}
use Rattle.std.specs.declared.alloc.Global.{Global}
use lib.Pointwise.{pointwise}
use Rattle.arch_model.specs.declared.pd.Pd.{Pd}
use Rattle.arch_model.specs.declared.id.PdId.{PdId}
use Rattle.arch_model.specs.LookUp.{place_from, pd_named_from, pd_named}

-- the test of a look-up is that of the definition
pub same-test : (name other : List ℕ) → bytes_eq other name ≡ pointwise eqb name other
same-test [] [] = refl
same-test [] (b ∷ bs) = refl
same-test (a ∷ as') [] = refl
same-test (a ∷ as') (b ∷ bs) =
    let tails = same-test as' bs in
    let heads : eqb b a ≡ eqb a b = grind (arith, nat_tests) in
    rw (heads, tails) refl

place-step : (found : Bool) (place n many : ℕ) (rest : Option ℕ) →
    rest ≡ (if nat_lt n many then Some (place + 1 + n) else None) →
    (if found then Some place else rest) ≡
    (if nat_lt (cond (not found) (1 + n) 0) (suc many) then Some (place + cond (not found) (1 + n) 0) else None)
place-step true place n many rest is =
    let inside : nat_lt 0 (suc many) ≡ true = grind (arith, nat_tests) in
    let same : place + 0 ≡ place = omega arith in
    rw (inside, same) refl
place-step false place n many rest is =
    let inside : nat_lt (1 + n) (suc many) ≡ nat_lt n many = grind (arith, nat_tests) in
    let same : place + (1 + n) ≡ place + 1 + n = omega arith in
    rw (inside, same) is

-- the place that a look-up gives
place-position : (place : ℕ) (name : List ℕ) (keys : List (Vec ℕ Global)) →
    place_from place (map (λ (key : Vec ℕ Global). key.items) keys) name ≡
    (if nat_lt (position_or_len (λ (key : Vec ℕ Global). pointwise eqb name key.items) keys) (length keys)
    then Some (place + position_or_len (λ (key : Vec ℕ Global). pointwise eqb name key.items) keys) else None)
place-position place name [] = refl
place-position place name (key ∷ keys) =
    let n = position_or_len (λ (other : Vec ℕ Global). pointwise eqb name other.items) keys in
    rw (same-test name key.items) (place-step (pointwise eqb name key.items) place n (length keys)
    (place_from (place + 1) (map (λ (other : Vec ℕ Global). other.items) keys) name) (place-position (place + 1) name keys))

pd-step : (found : Bool) (place : ℕ) (named : Option PdId) (rest : Option ℕ) → named ≡ option_map (λ k. record { 0 = k }) rest →
    (if found then Some (record { 0 = place }) else named) ≡ option_map (λ k. record { 0 = k }) (if found then Some place else rest)
pd-step true place named rest is = refl
pd-step false place named rest is = is

-- the domain at that place
pub pd-place : (place : ℕ) (pds : List Pd) (name : List ℕ) →
    pd_named_from place pds name ≡ option_map (λ k. record { 0 = k }) (place_from place (map (λ (pd : Pd). pd.name) pds) name)
pd-place place [] name = refl
pd-place place (pd ∷ pds) name = pd-step (bytes_eq pd.name name) place
    (pd_named_from (place + 1) pds name) (place_from (place + 1) (map (λ (other : Pd). other.name) pds) name) (pd-place (place + 1) pds name)

pub place-is : (name : List ℕ) (keys : List (Vec ℕ Global)) →
    place_from 0 (map (λ (key : Vec ℕ Global). key.items) keys) name ≡ position (λ (key : Vec ℕ Global). pointwise eqb name key.items) keys
place-is name keys =
    let n = position_or_len (λ (key : Vec ℕ Global). pointwise eqb name key.items) keys in
    let placed = place-position 0 name keys in
    rw (zero-add n) at placed

false_unless : (r : Bool) → (r ≡ true → ⊥) → r ≡ false
false_unless true never = absurd (never refl)
false_unless false never = refl

differs : (a b : List ℕ) → b ≢ a → pointwise eqb a b ≡ false
differs a b other = false_unless (pointwise eqb a b) (λ holds. other (sym ((slice_eq-Decides Decides-eqb a b (pointwise eqb a b) refl).0 holds)))

-- a name that is new goes to the end
pub names-next : (keys now : List (Vec ℕ Global)) (names : List (List ℕ)) (key : Vec ℕ Global) (name : List ℕ) →
    map (λ (k : Vec ℕ Global). k.items) keys ≡ names → key.items ≡ name → All (λ other. other ≢ name) names →
    now ≡ (if list_any (λ (y : Vec ℕ Global). pointwise eqb key.items y.items) keys then keys else keys ++ key ∷ []) →
    map (λ (k : Vec ℕ Global). k.items) now ≡ names ++ name ∷ []
names-next keys now names key name are is new after =
    let each : All (λ (y : Vec ℕ Global). pointwise eqb key.items y.items ≡ false) keys =
    λ k d inside.
    let many : length names ≡ length keys = ap length (sym are) ∙ length-map keys (λ (y : Vec ℕ Global). y.items) in
    let it : get_or names k d.items ≡ (get_or keys k d).items = rw (← are) (get_or-map (λ (y : Vec ℕ Global). y.items) keys k d d.items inside) in
    differs key.items (get_or keys k d).items (λ same. new k d.items (omega arith) (it ∙ same ∙ is)) in
    let absent = list_any_none (λ (y : Vec ℕ Global). pointwise eqb key.items y.items) keys each in
    rw (after, absent, map-append (λ (k : Vec ℕ Global). k.items) keys (key ∷ []), are, is) refl

-- no domain before this one has its name
pub earlier-differ : (pds : List Pd) (k : ℕ) (pd : Pd) → k < length pds → pd ≡ get_or pds k pd → AllPairs (λ (one other : Pd). one.name ≢ other.name) pds →
    All (λ other. other ≢ pd.name) (map (λ (p : Pd). p.name) (take k pds))
earlier-differ pds k pd inside is differ =
    All-map (λ other. other ≢ pd.name) (λ (p : Pd). p.name) (take k pds) (λ j d below.
    let before : j < k = omega (arith, length-take k pds) in
    let it = get_or-take k pds j d before in
    let here = is ∙ get_or_default pds k pd d inside in
    λ same. differ j k d before inside (ap (λ (p : Pd). p.name) (sym it) ∙ same ∙ ap (λ (p : Pd). p.name) here))

-- the names up to a domain, and with it
pub names-take : (pds : List Pd) (k : ℕ) (pd : Pd) → k < length pds → pd ≡ get_or pds k pd →
    map (λ (p : Pd). p.name) (take (k + 1) pds) ≡ map (λ (p : Pd). p.name) (take k pds) ++ pd.name ∷ []
names-take pds k pd inside is = rw (add-one, take-suc pds k pd inside) (map-append (λ (p : Pd). p.name) (take k pds) (get_or pds k pd ∷ [])
    ∙ ap (λ (p : Pd). map (λ (q : Pd). q.name) (take k pds) ++ p.name ∷ []) (sym is))

-- a place by the names is one of the domains
pub named-by : (place : Option ℕ) (names : List (List ℕ)) (pds now : List Pd) (name spelled : List ℕ) →
    place ≡ place_from 0 names spelled → names ≡ map (λ (p : Pd). p.name) pds → pds ≡ now → spelled ≡ name →
    option_map (λ k. record { 0 = k }) place ≡ pd_named now name
named-by place names pds now name spelled found are same is =
    rw (found, are, same, is) (sym (pd-place 0 now name))
