-- What changing members of a list at some places does, one place at a time.
use Rattle.std.proofs.Common.{◌≡◌, ◌≢◌, ℕ, ℤ, suc, zero, Bool, true, false, ◌+◌, ◌≤◌, ◌<◌, ◌==◌, List, [], ◌∷◌, ◌++◌, length, filter, replicate, get_or, All, AllPairs, refl, ap, subst, length-append, sym, ◌∙◌, arith}
use Rattle.std.proofs.Math.ListN.{set}
use Rattle.std.proofs.lemmas.Bool.Decides.{nat_tests}
use Rattle.std.proofs.lemmas.List.{get_or-map, get_or_append_left, length-map}
use Rattle.std.proofs.Math.Seq.{get_or-append_seam}
use Rattle.std.proofs.lemmas.List.Elements.{All-map, All-filter}
use Rattle.std.proofs.lemmas.List.Kept.{AllPairs-filter}
use Rattle.std.proofs.lemmas.List.Folds.{list_any_none, list_any-append}
use Rattle.arch_model.specs.declared.id.PortId.{PortId}
use Rattle.arch_model.specs.declared.link.Link.{Link}
use Rattle.arch_model.specs.LookUp.{receivers_of}
use Rattle.rts_rules.specs.Queue.{Queue, appended}
use Rattle.rts_rules.specs.Left.{changed_at, changed_from, is_among, released}

-- a member that is set to what a change makes of it
pub set-changed_at : {X : Type 0} (xs : List X) (place : ℕ) (change : X → X) (old new : X) → place < length xs →
    old ≡ get_or xs place old → new ≡ change old → set xs place new ≡ changed_at place change xs
set-changed_at [] place change old new inside here is = absurd (omega arith)
set-changed_at (x ∷ xs) zero change old new inside here is = rw (is, here) refl
set-changed_at (x ∷ xs) (suc place) change old new inside here is =
    ap (λ rest. x ∷ rest) (set-changed_at xs place change old new (omega arith) here is)

pub set-changed : {X : Type 0} (xs was : List X) (place : ℕ) (change : X → X) (old new : X) → xs ≡ was → place < length was →
    old ≡ get_or xs place old → new ≡ change old → set xs place new ≡ changed_at place change was
set-changed {X} xs was place change old new same inside here is =
    ap (λ (ys : List X). set ys place new) same
    ∙ set-changed_at was place change old new inside (here ∙ ap (λ (ys : List X). get_or ys place old) same) is

pub length-changed_at : {X : Type 0} (place : ℕ) (change : X → X) (xs : List X) → length (changed_at place change xs) ≡ length xs
length-changed_at place change [] = refl
length-changed_at zero change (x ∷ xs) = refl
length-changed_at (suc place) change (x ∷ xs) = ap suc (length-changed_at place change xs)

-- tests that agree from this place on change the same queues
pub changed_from-same : (place : ℕ) (p q : ℕ → Bool) (change : Queue → Queue) (queues : List Queue) →
    ((k : ℕ) → place ≤ k → q k ≡ p k) → changed_from place p change queues ≡ changed_from place q change queues
changed_from-same place p q change [] same = refl
changed_from-same place p q change (queue ∷ queues) same =
    let here : q place ≡ p place = same place (omega arith) in
    let later = changed_from-same (place + 1) p q change queues (λ k le. same k (omega arith)) in
    rw (here, later) refl

-- a test that nothing passes changes nothing
pub changed_from-none : (place : ℕ) (change : Queue → Queue) (queues : List Queue) → changed_from place (λ _. false) change queues ≡ queues
changed_from-none place change [] = refl
changed_from-none place change (queue ∷ queues) = ap (λ rest. queue ∷ rest) (changed_from-none (place + 1) change queues)

-- one place more
pub set-changed_from : (place : ℕ) (p q : ℕ → Bool) (change : Queue → Queue) (queues : List Queue) (at there : ℕ) (d : Queue) →
    there ≡ place + at → at < length queues → p there ≡ false → q there ≡ true → ((k : ℕ) → k ≢ there → q k ≡ p k) →
    set (changed_from place p change queues) at (change (get_or (changed_from place p change queues) at d)) ≡ changed_from place q change queues
set-changed_from place p q change [] at there d is inside old new same = absurd (omega arith)
set-changed_from place p q change (queue ∷ queues) zero there d is inside old new same =
    let here : there ≡ place = omega arith in
    let was : p place ≡ false = ap p (sym here) ∙ old in
    let becomes : q place ≡ true = ap q (sym here) ∙ new in
    let later = changed_from-same (place + 1) p q change queues (λ k le. same k (omega arith)) in
    rw (was, becomes, later) refl
set-changed_from place p q change (queue ∷ queues) (suc at) there d is inside old new same =
    let here : q place ≡ p place = same place (omega arith) in
    let later = set-changed_from (place + 1) p q change queues at there d (omega arith) (omega arith) old new same in
    rw (here, later) refl

-- the place that is changed next is still as it was
pub get_or-changed_from : (place : ℕ) (p : ℕ → Bool) (change : Queue → Queue) (queues : List Queue) (at there : ℕ) (d : Queue) →
    there ≡ place + at → at < length queues → p there ≡ false → get_or (changed_from place p change queues) at d ≡ get_or queues at d
get_or-changed_from place p change [] at there d is inside old = absurd (omega arith)
get_or-changed_from place p change (queue ∷ queues) zero there d is inside old =
    let here : there ≡ place = omega arith in
    let was : p place ≡ false = ap p (sym here) ∙ old in
    rw was refl
get_or-changed_from place p change (queue ∷ queues) (suc at) there d is inside old =
    get_or-changed_from (place + 1) p change queues at there d (omega arith) (omega arith) old

length-changed_from : (place : ℕ) (p : ℕ → Bool) (change : Queue → Queue) (queues : List Queue) → length (changed_from place p change queues) ≡ length queues
length-changed_from place p change [] = refl
length-changed_from place p change (queue ∷ queues) = ap suc (length-changed_from (place + 1) p change queues)

pub length-released : (ports : List PortId) (value : List ℤ) (queues : List Queue) → length (released ports value queues) ≡ length queues
unfolding released
length-released ports value queues = length-changed_from 0 (is_among ports) (λ queue. appended queue value) queues

-- one queue more has the value
pub set-released : (queues was : List Queue) (ports : List PortId) (port : PortId) (value : List ℤ) (item new : Queue) →
    queues ≡ released ports value was → port.0 < length was → is_among ports port.0 ≡ false →
    item ≡ get_or queues port.0 item → new ≡ appended item value →
    set queues port.0 new ≡ released (ports ++ port ∷ []) value was
unfolding released
set-released queues was ports port value item new same inside absent here changed =
    let test : ℕ → Bool = is_among (ports ++ port ∷ []) in
    let change : Queue → Queue = λ queue. appended queue value in
    let becomes : test port.0 ≡ true = rw (list_any-append (λ (r : PortId). r.0 == port.0) ports (port ∷ [])) (grind (arith, nat_tests)) in
    let others : (k : ℕ) → k ≢ port.0 → test k ≡ is_among ports k =
    λ k other. rw (list_any-append (λ (r : PortId). r.0 == k) ports (port ∷ [])) (grind (arith, nat_tests)) in
    let one = set-changed_from 0 (is_among ports) test change was port.0 port.0 item
    (omega arith) inside absent becomes others in
    rw (same, changed, here, same) one

-- no port, no change
pub released-none : (value : List ℤ) (queues was : List Queue) → queues ≡ was → queues ≡ released [] value was
unfolding released
released-none value queues was same = same ∙ sym (changed_from-none 0 (λ queue. appended queue value) was)

-- each receiver is a port, if each link ends at one
pub receivers-All : (P : ℕ → Type 0) (links : List Link) (port : PortId) →
    All (λ (link : Link). P link.to.0) links → All (λ (r : PortId). P r.0) (receivers_of links port)
receivers-All P links port each =
    All-map (λ (r : PortId). P r.0) (λ (link : Link). link.to) (filter (λ (link : Link). link.from.0 == port.0) links)
    (All-filter (λ (link : Link). link.from.0 == port.0) (λ (link : Link). P link.to.0) links each)

-- no two receivers are one port, if no two links end at one
pub receivers-differ : (links : List Link) (port : PortId) →
    AllPairs (λ (link other : Link). link.to.0 ≢ other.to.0) links → AllPairs (λ (r s : PortId). r.0 ≢ s.0) (receivers_of links port)
receivers-differ links port differ i j d below inside same =
    let leaves : Link → Bool = λ link. link.from.0 == port.0 in
    let e : Link = record { from = d; to = d } in
    let kept = AllPairs-filter (λ (link other : Link). link.to.0 ≢ other.to.0) leaves links differ in
    let many : length (receivers_of links port) ≡ length (filter leaves links) = length-map (filter leaves links) (λ (link : Link). link.to) in
    let first = get_or-map (λ (link : Link). link.to) (filter leaves links) i e d (omega arith) in
    let second = get_or-map (λ (link : Link). link.to) (filter leaves links) j e d (omega arith) in
    kept i j e below (omega arith) (ap (λ (r : PortId). r.0) (sym first) ∙ same ∙ ap (λ (r : PortId). r.0) second)

-- a receiver is none of those before it
pub is_among-before : (before rest all : List PortId) (port : PortId) → all ≡ before ++ port ∷ rest →
    AllPairs (λ (r s : PortId). r.0 ≢ s.0) all → is_among before port.0 ≡ false
is_among-before before rest all port is differ =
    list_any_none (λ (r : PortId). r.0 == port.0) before (λ k d inside.
    let total : length all ≡ length before + suc (length rest) = ap length is ∙ length-append before (port ∷ rest) in
    let mine : get_or all k d ≡ get_or before k d = rw is (get_or_append_left before (port ∷ rest) d k inside) in
    let its : get_or all (length before) d ≡ port = rw is (get_or-append_seam before port rest d) in
    let apart : (get_or before k d).0 ≢ port.0 =
    λ same. differ k (length before) d inside (omega arith) (ap (λ (r : PortId). r.0) mine ∙ same ∙ ap (λ (r : PortId). r.0) (sym its)) in
    grind (arith, nat_tests))

pub All-middle : (P : ℕ → Type 0) (before rest all : List PortId) (port : PortId) → all ≡ before ++ port ∷ rest →
    All (λ (r : PortId). P r.0) all → P port.0
All-middle P before rest all port is each =
    let total : length all ≡ length before + suc (length rest) = ap length is ∙ length-append before (port ∷ rest) in
    let its : get_or all (length before) port ≡ port = rw is (get_or-append_seam before port rest port) in
    subst (λ (r : PortId). P r.0) its (each (length before) port (omega arith))

-- a list of equal members, seen from its end
pub replicate-last : (n : ℕ) (v y : List ℤ) (ys : List (List ℤ)) → replicate (suc n) v ≡ ys ++ y ∷ [] → (ys ≡ replicate n v) × (y ≡ v)
replicate-last n v y [] is = (cc, cc)
replicate-last zero v y (z ∷ zs) is =
    absurd (omega (arith, ap length is, length-append zs (y ∷ [])))
replicate-last (suc n) v y (z ∷ zs) is =
    let tail : replicate (suc n) v ≡ zs ++ y ∷ [] = cc in
    let head : z ≡ v = cc in
    let more = replicate-last n v y zs tail in
    (rw (head, more.0) refl, more.1)
