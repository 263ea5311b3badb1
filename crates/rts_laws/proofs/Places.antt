-- What a step leaves at each place.
use Rattle.std.proofs.Common.{◌≡◌, ◌≢◌, ℕ, ℤ, zero, suc, ◌+◌, ◌==◌, ◌<◌, true, false, Bool, List, [], ◌∷◌, length, slice_get, Option, Some, None, refl, ap, sym, ◌∙◌, arith, if◌then◌else◌, subst}
use Rattle.std.specs.Option.{option_map}
use Rattle.std.proofs.lemmas.Bool.Decides.{nat_tests}
use Rattle.arch_model.specs.declared.parts.ArchParts.{ArchParts}
use Rattle.arch_model.specs.declared.pd.Pd.{Pd}
use Rattle.arch_model.specs.declared.port.Port.{Port}
use Rattle.arch_model.specs.declared.link.Link.{Link}
use Rattle.arch_model.specs.declared.id.PortId.{PortId}
use Rattle.arch_model.specs.LookUp.{receivers_of}
use Rattle.rts_rules.specs.declared.event.What.{What}
use Rattle.rts_rules.specs.declared.event.What.TheVariants as what
use Rattle.rts_rules.specs.Queue.{Queue, appended, taken}
use Rattle.rts_rules.specs.Services.{threads_from, queues_from, opening_thread, opening_queue}
use Rattle.rts_rules.specs.Left.{changed_at, changed_from, is_among, released, left_of_queues}
use Rattle.rts_laws.specs.Parts.{AtPort, Arrives, Leaves, done_at}

pub changed-here : {X : Type 0} (place : ℕ) (change : X → X) (xs : List X) →
    slice_get (changed_at place change xs) place ≡ option_map change (slice_get xs place)
changed-here place change [] = refl
changed-here zero change (x ∷ xs) = refl
changed-here (suc place) change (x ∷ xs) = changed-here place change xs

pub changed-there : {X : Type 0} (place other : ℕ) (change : X → X) (xs : List X) → place ≢ other →
    slice_get (changed_at place change xs) other ≡ slice_get xs other
changed-there place other change [] apart = refl
changed-there zero zero change (x ∷ xs) apart = absurd (apart refl)
changed-there zero (suc other) change (x ∷ xs) apart = refl
changed-there (suc place) zero change (x ∷ xs) apart = refl
changed-there (suc place) (suc other) change (x ∷ xs) apart = changed-there place other change xs (λ same. apart (ap suc same))

changed-from : (place here there : ℕ) (passes : ℕ → Bool) (change : Queue → Queue) (queues : List Queue) → there ≡ place + here →
    slice_get (changed_from place passes change queues) here ≡ option_map (λ (q : Queue). if passes there then change q else q) (slice_get queues here)
changed-from place here there passes change [] is = refl
changed-from place zero there passes change (queue ∷ queues) is =
    let same : place ≡ there = omega arith in
    ap (λ (n : ℕ). Some (if passes n then change queue else queue)) same
changed-from place (suc here) there passes change (queue ∷ queues) is =
    changed-from (place + 1) here there passes change queues (omega arith)

-- what has happened leaves of a queue
abbrev pub behind : List AtPort → Queue → Queue
behind [] queue = queue
behind (Arrives value ∷ later) queue = behind later (appended queue value)
behind (Leaves items ∷ later) queue = behind later (taken queue)

same-queue : (o : Option Queue) → o ≡ option_map (λ (q : Queue). q) o
same-queue None = refl
same-queue (Some queue) = refl

map-if : (b : Bool) (change : Queue → Queue) (o : Option Queue) (done : List AtPort) → ((q : Queue) → behind done q ≡ change q) →
    option_map (λ (q : Queue). if b then change q else q) o ≡ option_map (behind (if b then done else [])) o
map-if true change None done is = refl
map-if true change (Some queue) done is = ap Some (sym (is queue))
map-if false change None done is = refl
map-if false change (Some queue) done is = refl

received-at : (queues : List Queue) (port : PortId) (place : ℕ) (items : List (List ℤ)) (b : Bool) → b ≡ (port.0 == place) →
    slice_get (changed_at port.0 taken queues) place ≡ option_map (behind (if b then Leaves items ∷ [] else [])) (slice_get queues place)
received-at queues port place items true is =
    let same : port.0 ≡ place = grind (arith, nat_tests) in
    subst (λ (n : ℕ). slice_get (changed_at port.0 taken queues) n ≡ option_map taken (slice_get queues n)) same (changed-here port.0 taken queues)
received-at queues port place items false is =
    let apart : port.0 ≢ place = λ same. absurd (grind (arith, nat_tests)) in
    changed-there port.0 place taken queues apart ∙ same-queue (slice_get queues place)

released-at : (queues : List Queue) (place : ℕ) (value : List ℤ) (ports : List PortId) → slice_get (released ports value queues) place
    ≡ option_map (behind (if is_among ports place then Arrives value ∷ [] else [])) (slice_get queues place)
unfolding released
released-at queues place value ports =
    changed-from 0 place place (is_among ports) (λ (q : Queue). appended q value) queues (omega arith)
    ∙ map-if (is_among ports place) (λ (q : Queue). appended q value) (slice_get queues place) (Arrives value ∷ []) (λ q. refl)

-- what an event leaves at a port
pub left-at : (links : List Link) (queues : List Queue) (place : ℕ) (act : What) →
    slice_get (left_of_queues links queues act) place ≡ option_map (behind (done_at links (record { 0 = place }) act)) (slice_get queues place)
left-at links queues place what.Tick = same-queue (slice_get queues place)
left-at links queues place what.Init = same-queue (slice_get queues place)
left-at links queues place what.Begin = same-queue (slice_get queues place)
left-at links queues place what.Void = same-queue (slice_get queues place)
left-at links queues place what.Compute = same-queue (slice_get queues place)
left-at links queues place what.Send = same-queue (slice_get queues place)
left-at links queues place what.End = same-queue (slice_get queues place)
left-at links queues place (what.Receive port items) = received-at queues port place items (port.0 == place) refl
left-at links queues place (what.Put port value) = same-queue (slice_get queues place)
left-at links queues place (what.Release port value) = released-at queues place value (receivers_of links port)
left-at links queues place (what.Verdict clause holds) = same-queue (slice_get queues place)

-- the threads and queues at the start
thread-opening : (from place : ℕ) (arch : ArchParts) (pds : List Pd) → place < length pds →
    slice_get (threads_from from arch pds) place ≡ Some (opening_thread arch (record { 0 = from + place }))
thread-opening from place arch [] inside = absurd (omega arith)
thread-opening from zero arch (pd ∷ pds) inside = ap (λ (n : ℕ). Some (opening_thread arch (record { 0 = n }))) (let e : from ≡ from + 0 = omega arith in e)
thread-opening from (suc place) arch (pd ∷ pds) inside =
    thread-opening (from + 1) place arch pds (omega arith)
    ∙ ap (λ (n : ℕ). Some (opening_thread arch (record { 0 = n }))) (let e : from + 1 + place ≡ from + suc place = omega arith in e)

queue-opening : (from place : ℕ) (arch : ArchParts) (ports : List Port) →
    slice_get (queues_from from arch ports) place ≡ option_map (opening_queue arch (record { 0 = from + place })) (slice_get ports place)
queue-opening from place arch [] = refl
queue-opening from zero arch (port ∷ ports) = ap (λ (n : ℕ). Some (opening_queue arch (record { 0 = n }) port)) (let e : from ≡ from + 0 = omega arith in e)
queue-opening from (suc place) arch (port ∷ ports) =
    queue-opening (from + 1) place arch ports
    ∙ ap (λ (n : ℕ). option_map (opening_queue arch (record { 0 = n })) (slice_get ports place)) (let e : from + 1 + place ≡ from + suc place = omega arith in e)

pub thread-start : (place : ℕ) (arch : ArchParts) → place < length arch.pds →
    slice_get (threads_from 0 arch arch.pds) place ≡ Some (opening_thread arch (record { 0 = place }))
thread-start place arch inside =
    thread-opening 0 place arch arch.pds inside
    ∙ ap (λ (n : ℕ). Some (opening_thread arch (record { 0 = n }))) (let e : 0 + place ≡ place = omega arith in e)

pub queue-start : (place : ℕ) (arch : ArchParts) →
    slice_get (queues_from 0 arch arch.ports) place ≡ option_map (opening_queue arch (record { 0 = place })) (slice_get arch.ports place)
queue-start place arch =
    queue-opening 0 place arch arch.ports
    ∙ ap (λ (n : ℕ). option_map (opening_queue arch (record { 0 = n })) (slice_get arch.ports place)) (let e : 0 + place ≡ place = omega arith in e)
