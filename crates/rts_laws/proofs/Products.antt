-- A run of the services, taken apart and put together.
use Rattle.std.proofs.Common.{◌≡◌, ◌≢◌, inl, inr, ℕ, ℤ, zero, suc, ◌==◌, ◌<◌, true, false, Bool, List, [], ◌∷◌, ◌++◌, All, length, cond, slice_get, Option, Some, None, IfSome, IsSomeAnd, refl, ap, sym, ◌∙◌, arith, subst}
use Rattle.std.specs.Option.{option_map}
use Rattle.std.proofs.lemmas.Bool.{cases_eq}
use Rattle.std.proofs.lemmas.Bool.Decides.{nat_tests}
use Rattle.arch_model.specs.declared.parts.ArchParts.{ArchParts}
use Rattle.arch_model.specs.declared.port.Port.{Port}
use Rattle.arch_model.specs.declared.link.Link.{Link}
use Rattle.arch_model.specs.declared.id.PdId.{PdId}
use Rattle.arch_model.specs.declared.id.PortId.{PortId}
use Rattle.rts_rules.specs.declared.event.Event.{Event}
use Rattle.rts_rules.specs.declared.event.What.{What}
use Rattle.rts_rules.specs.declared.event.What.TheVariants as what
use Rattle.rts_rules.specs.declared.thread.Thread.{Thread}
use Rattle.rts_rules.specs.Queue.{Queue, appended, taken}
use Rattle.rts_rules.specs.Services.{Services, start_of, threads_from, queues_from, opening_thread, opening_queue, IsStateOf}
use Rattle.arch_model.specs.LookUp.{receivers_of}
use Rattle.rts_rules.specs.Left.{changed_at, left_by, left_of_queues, is_among, after}
use Rattle.rts_rules.specs.Step.{DomainAllows, IsOffered, QueuesAllow, IsAllowed, IsEventOf, NamesPorts}
use Rattle.rts_rules.specs.Run.{AreAllowed, IsServiceRun}
use Rattle.std.proofs.lemmas.Option.{slice_get_within}
use Rattle.rts_rules.proofs.Steps.{step-fits}
use Rattle.rts_rules.proofs.Openings.{length-threads, start-fits}
use Rattle.rts_laws.specs.Parts.{own, IsThreadRun, AtPort, Arrives, Leaves, done_at, at_port, IsQueueRun, AreRunsOfParts}
use Rattle.rts_laws.proofs.Places.{changed-here, changed-there, behind, left-at, thread-start, queue-start}

id-of : ℕ → PdId
id-of n = record { 0 = n }

-- the thread at a place runs so
ThreadRuns : ArchParts → List Thread → ℕ → List Event → Type 0
unfolding id-of
ThreadRuns arch threads who events = IfSome (slice_get threads who) (λ thread. IsThreadRun arch (id-of who) thread (own (id-of who) events))

own-mine : (who : PdId) (event : Event) (events : List Event) → event.who.0 ≡ who.0 → own who (event ∷ events) ≡ event ∷ own who events
own-mine who event events mine =
    let test : (event.who.0 == who.0) ≡ true = grind (arith, nat_tests) in
    ap (λ b. cond b (event ∷ own who events) (own who events)) test

own-other : (who : PdId) (event : Event) (events : List Event) → event.who.0 ≢ who.0 → own who (event ∷ events) ≡ own who events
own-other who event events other =
    let test : (event.who.0 == who.0) ≡ false = grind (arith, nat_tests) in
    ap (λ b. cond b (event ∷ own who events) (own who events)) test

-- one event more of the thread's own
mine-joined : (arch : ArchParts) (who : PdId) (act : What) (o : Option Thread) (events : List Event) (all : List Event) (event : Event) →
    all ≡ event ∷ events → event.what ≡ act → IsSomeAnd o (λ thread. DomainAllows arch who thread act) →
    IfSome (option_map (left_by arch who act) o) (λ thread. IsThreadRun arch who thread events) → IfSome o (λ thread. IsThreadRun arch who thread all)
mine-joined arch who act None events all event are is allowed later = tt
mine-joined arch who act (Some thread) events all event are is allowed later = rw (are, is) (allowed, later)

mine-split : (arch : ArchParts) (who : PdId) (act : What) (o : Option Thread) (events : List Event) (all : List Event) (event : Event) →
    all ≡ event ∷ events → event.what ≡ act → IfSome o (λ thread. IsThreadRun arch who thread all) →
    IfSome o (λ thread. DomainAllows arch who thread act) × IfSome (option_map (left_by arch who act) o) (λ thread. IsThreadRun arch who thread events)
mine-split arch who act None events all event are is runs = (tt, tt)
mine-split arch who act (Some thread) events all event are is runs =
    let run : IsThreadRun arch who thread (event ∷ events) = subst (IsThreadRun arch who thread) are runs in
    (subst (DomainAllows arch who thread) is run.0, subst (λ (a : What). IsThreadRun arch who (left_by arch who a thread) events) is run.1)

thread-joined : (arch : ArchParts) (threads : List Thread) (event : Event) (events : List Event) (who : ℕ) →
    IsSomeAnd (slice_get threads event.who.0) (λ thread. DomainAllows arch event.who thread event.what) →
    ThreadRuns arch (changed_at event.who.0 (left_by arch event.who event.what) threads) who events → ThreadRuns arch threads who (event ∷ events)
unfolding ThreadRuns id-of
thread-joined arch threads event events who allowed later =
    elim (cases_eq event.who.0 who) [
      | inl same ↦ subst (λ (n : ℕ). ThreadRuns arch (changed_at event.who.0 (left_by arch event.who event.what) threads) n events → ThreadRuns arch threads n (event ∷ events)) same
          (λ runs. mine-joined arch event.who event.what (slice_get threads event.who.0) (own event.who events) (own event.who (event ∷ events)) event
          (own-mine event.who event events refl) refl allowed
          (subst (λ (o : Option Thread). IfSome o (λ thread. IsThreadRun arch event.who thread (own event.who events))) (changed-here event.who.0 (left_by arch event.who event.what) threads) runs)) later
      | inr other ↦
          let there = changed-there event.who.0 who (left_by arch event.who event.what) threads other in
          let events' = own-other (id-of who) event events other in
          subst (λ (es : List Event). IfSome (slice_get threads who) (λ thread. IsThreadRun arch (id-of who) thread es)) (sym events')
          (subst (λ (o : Option Thread). IfSome o (λ thread. IsThreadRun arch (id-of who) thread (own (id-of who) events))) there later)
    ]

thread-split : (arch : ArchParts) (threads : List Thread) (event : Event) (events : List Event) (who : ℕ) → ThreadRuns arch threads who (event ∷ events) →
    ThreadRuns arch (changed_at event.who.0 (left_by arch event.who event.what) threads) who events
unfolding ThreadRuns id-of
thread-split arch threads event events who runs =
    elim (cases_eq event.who.0 who) [
      | inl same ↦ subst (λ (n : ℕ). ThreadRuns arch threads n (event ∷ events) → ThreadRuns arch (changed_at event.who.0 (left_by arch event.who event.what) threads) n events) same
          (λ mine. subst (λ (o : Option Thread). IfSome o (λ thread. IsThreadRun arch event.who thread (own event.who events)))
          (sym (changed-here event.who.0 (left_by arch event.who event.what) threads))
          (mine-split arch event.who event.what (slice_get threads event.who.0) (own event.who events) (own event.who (event ∷ events)) event
          (own-mine event.who event events refl) refl mine).1) runs
      | inr other ↦
          let there = changed-there event.who.0 who (left_by arch event.who event.what) threads other in
          let events' = own-other (id-of who) event events other in
          subst (λ (o : Option Thread). IfSome o (λ thread. IsThreadRun arch (id-of who) thread (own (id-of who) events))) (sym there)
          (subst (λ (es : List Event). IfSome (slice_get threads who) (λ thread. IsThreadRun arch (id-of who) thread es)) events' runs)
    ]

some-and : {X : Type 0} (P : X → Type 0) (xs : List X) (n : ℕ) → n < length xs → IfSome (slice_get xs n) P → IsSomeAnd (slice_get xs n) P
some-and P [] n inside holds = absurd (omega arith)
some-and P (x ∷ xs) zero inside holds = holds
some-and P (x ∷ xs) (suc n) inside holds = some-and P xs n (omega arith) holds

-- the domain of the first event may do it
thread-first : (arch : ArchParts) (threads : List Thread) (event : Event) (events : List Event) → event.who.0 < length threads →
    ThreadRuns arch threads event.who.0 (event ∷ events) → IsSomeAnd (slice_get threads event.who.0) (λ thread. DomainAllows arch event.who thread event.what)
unfolding ThreadRuns id-of
thread-first arch threads event events inside runs =
    some-and (λ thread. DomainAllows arch event.who thread event.what) threads event.who.0 inside
    (mine-split arch event.who event.what (slice_get threads event.who.0) (own event.who events) (own event.who (event ∷ events)) event
    (own-mine event.who event events refl) refl runs).0

port-of : ℕ → PortId
port-of n = record { 0 = n }

QueueRuns : List Link → List Queue → ℕ → List Event → Type 0
unfolding port-of
QueueRuns links queues port events = IfSome (slice_get queues port) (λ queue. IsQueueRun queue (at_port links (port-of port) events))

-- what has happened asks of a queue
asks : List AtPort → Queue → Type 0
asks [] queue = Unit {0}
asks (Arrives value ∷ later) queue = asks later (appended queue value)
asks (Leaves items ∷ later) queue = IsOffered queue items × asks later (taken queue)

run-joined : (done later : List AtPort) (queue : Queue) → asks done queue → IsQueueRun (behind done queue) later → IsQueueRun queue (done ++ later)
unfolding asks
run-joined [] later queue asked runs = runs
run-joined (Arrives value ∷ done) later queue asked runs = run-joined done later (appended queue value) asked runs
run-joined (Leaves items ∷ done) later queue asked runs = (asked.0, run-joined done later (taken queue) asked.1 runs)

run-split : (done later : List AtPort) (queue : Queue) → IsQueueRun queue (done ++ later) → asks done queue × IsQueueRun (behind done queue) later
unfolding asks
run-split [] later queue runs = (tt, runs)
run-split (Arrives value ∷ done) later queue runs = run-split done later (appended queue value) runs
run-split (Leaves items ∷ done) later queue runs =
    let rest = run-split done later (taken queue) runs.1 in
    ((runs.0, rest.0), rest.1)

-- at a port where this event does nothing nothing is asked
asks-if-arrives : (b : Bool) (value : List ℤ) (queue : Queue) → asks (cond b (Arrives value ∷ []) []) queue
unfolding asks
asks-if-arrives true value queue = tt
asks-if-arrives false value queue = tt

asks-if-leaves : (b : Bool) (items : List (List ℤ)) (queue : Queue) → (b ≡ true → IsOffered queue items) → asks (cond b (Leaves items ∷ []) []) queue
unfolding asks
asks-if-leaves true items queue offered = (offered refl, tt)
asks-if-leaves false items queue offered = tt

if-some : {X : Type 0} (P : X → Type 0) (xs : List X) (n : ℕ) → ((x : X) → slice_get xs n ≡ Some x → P x) → IfSome (slice_get xs n) P
if-some {X} P xs n holds = at (slice_get xs n) holds where
  at : (o : Option X) → ((x : X) → o ≡ Some x → P x) → IfSome o P
  at None each = tt
  at (Some x) each = each x refl

and-some : {X : Type 0} (P : X → Type 0) (o : Option X) (x : X) → IsSomeAnd o P → o ≡ Some x → P x
and-some P None x holds is = absurd holds
and-some P (Some y) x holds is = let e : y ≡ x = cc in subst P e holds

-- what the step asks of the queues is what it asks of each
allowed-asks : (links : List Link) (queues : List Queue) (act : What) (place : ℕ) → QueuesAllow queues act →
    IfSome (slice_get queues place) (asks (done_at links (port-of place) act))
unfolding asks port-of
allowed-asks links queues what.Tick place allowed = if-some (asks []) queues place (λ q is. tt)
allowed-asks links queues what.Init place allowed = if-some (asks []) queues place (λ q is. tt)
allowed-asks links queues what.Begin place allowed = if-some (asks []) queues place (λ q is. tt)
allowed-asks links queues what.Void place allowed = if-some (asks []) queues place (λ q is. tt)
allowed-asks links queues what.Compute place allowed = if-some (asks []) queues place (λ q is. tt)
allowed-asks links queues what.Send place allowed = if-some (asks []) queues place (λ q is. tt)
allowed-asks links queues what.End place allowed = if-some (asks []) queues place (λ q is. tt)
allowed-asks links queues (what.Receive port items) place allowed =
    if-some (asks (done_at links (port-of place) (what.Receive port items))) queues place
    (λ queue is. asks-if-leaves (port.0 == place) items queue
    (λ here.
    let same : port.0 ≡ place = grind (arith, nat_tests) in
    and-some (λ q. IsOffered q items) (slice_get queues port.0) queue allowed (ap (slice_get queues) same ∙ is)))
allowed-asks links queues (what.Put port value) place allowed = if-some (asks []) queues place (λ q is. tt)
allowed-asks links queues (what.Release port value) place allowed =
    if-some (asks (done_at links (port-of place) (what.Release port value))) queues place
    (λ queue is. asks-if-arrives (is_among (receivers_of links port) place) value queue)
allowed-asks links queues (what.Verdict clause holds) place allowed = if-some (asks []) queues place (λ q is. tt)

asked-leaves : (b : Bool) (items : List (List ℤ)) (queue : Queue) → b ≡ true → asks (cond b (Leaves items ∷ []) []) queue → IsOffered queue items
unfolding asks
asked-leaves true items queue here asked = asked.0
asked-leaves false items queue here asked = absurd (cc)

received-allowed : (links : List Link) (port : PortId) (items : List (List ℤ)) (o : Option Queue) →
    IsSomeAnd o (asks (done_at links (port-of port.0) (what.Receive port items))) → IsSomeAnd o (λ queue. IsOffered queue items)
unfolding port-of
received-allowed links port items None holds = holds
received-allowed links port items (Some queue) holds =
    let here : (port.0 == port.0) ≡ true = grind (arith, nat_tests) in
    asked-leaves (port.0 == port.0) items queue here holds

-- and what each asks is what the step asks
asks-allowed : (links : List Link) (queues : List Queue) (arch : ArchParts) (event : Event) → IsEventOf arch event → length queues ≡ length arch.ports →
    ((place : ℕ) → IfSome (slice_get queues place) (asks (done_at links (port-of place) event.what))) → QueuesAllow queues event.what
asks-allowed links queues arch event of many each = at event.what of.ports each where
  at : (act : What) → NamesPorts arch act → ((place : ℕ) → IfSome (slice_get queues place) (asks (done_at links (port-of place) act))) → QueuesAllow queues act
  at what.Tick names each = tt
  at what.Init names each = tt
  at what.Begin names each = tt
  at what.Void names each = tt
  at what.Compute names each = tt
  at what.Send names each = tt
  at what.End names each = tt
  at (what.Receive port items) names each = received-allowed links port items (slice_get queues port.0) (some-and (asks (done_at links (port-of port.0) (what.Receive port items))) queues port.0 (omega arith) (each port.0))
  at (what.Put port value) names each = tt
  at (what.Release port value) names each = tt
  at (what.Verdict clause holds) names each = tt

queue-joined : (links : List Link) (queues : List Queue) (event : Event) (events : List Event) (place : ℕ) →
    IfSome (slice_get queues place) (asks (done_at links (port-of place) event.what)) →
    QueueRuns links (left_of_queues links queues event.what) place events → QueueRuns links queues place (event ∷ events)
unfolding QueueRuns port-of
queue-joined links queues event events place asked later =
    at (slice_get queues place) asked
    (subst (λ (o : Option Queue). IfSome o (λ queue. IsQueueRun queue (at_port links (port-of place) events))) (left-at links queues place event.what) later) where
      at : (o : Option Queue) → IfSome o (asks (done_at links (port-of place) event.what)) →
          IfSome (option_map (behind (done_at links (port-of place) event.what)) o) (λ queue. IsQueueRun queue (at_port links (port-of place) events)) →
          IfSome o (λ queue. IsQueueRun queue (at_port links (port-of place) (event ∷ events)))
      at None asked later = tt
      at (Some queue) asked later = run-joined (done_at links (port-of place) event.what) (at_port links (port-of place) events) queue asked later

queue-split : (links : List Link) (queues : List Queue) (event : Event) (events : List Event) (place : ℕ) → QueueRuns links queues place (event ∷ events) →
    IfSome (slice_get queues place) (asks (done_at links (port-of place) event.what)) × QueueRuns links (left_of_queues links queues event.what) place events
unfolding QueueRuns port-of
queue-split links queues event events place runs =
    let both = at (slice_get queues place) runs in
    (both.0, subst (λ (o : Option Queue). IfSome o (λ queue. IsQueueRun queue (at_port links (port-of place) events))) (sym (left-at links queues place event.what)) both.1) where
      at : (o : Option Queue) → IfSome o (λ queue. IsQueueRun queue (at_port links (port-of place) (event ∷ events))) →
          IfSome o (asks (done_at links (port-of place) event.what)) ×
          IfSome (option_map (behind (done_at links (port-of place) event.what)) o) (λ queue. IsQueueRun queue (at_port links (port-of place) events))
      at None runs = (tt, tt)
      at (Some queue) runs = run-split (done_at links (port-of place) event.what) (at_port links (port-of place) events) queue runs

-- each part runs from where it stands
record PartsRun (arch : ArchParts) (state : Services) (events : List Event) : Type 0 where
  threads : (who : ℕ) → ThreadRuns arch state.threads who events
  queues : (place : ℕ) → QueueRuns arch.links state.queues place events

no-events : (arch : ArchParts) (state : Services) → PartsRun arch state []
unfolding ThreadRuns QueueRuns
no-events arch state = record {
  threads = λ who. if-some (λ (thread : Thread). Unit {0}) state.threads who (λ x is. tt);
  queues = λ place. if-some (λ (queue : Queue). Unit {0}) state.queues place (λ x is. tt);
}

taken-apart : (arch : ArchParts) (state : Services) (events : List Event) → AreAllowed arch state events → PartsRun arch state events
taken-apart arch state [] run = no-events arch state
taken-apart arch state (event ∷ events) run =
    let later = taken-apart arch (after arch state event) events run.1 in
    record {
      threads = λ who. thread-joined arch state.threads event events who run.0.domain (later.threads who);
      queues = λ place. queue-joined arch.links state.queues event events place (allowed-asks arch.links state.queues event.what place run.0.queues) (later.queues place);
    }

put-together : (arch : ArchParts) (state : Services) (events : List Event) → IsStateOf arch state → All (IsEventOf arch) events →
    PartsRun arch state events → AreAllowed arch state events
put-together arch state [] fits of parts = tt
put-together arch state (event ∷ events) fits of parts =
    let here : IsEventOf arch event = of 0 event (omega arith) in
    let inside : event.who.0 < length state.threads = omega (arith, here.domain, fits.threads) in
    let split = λ (place : ℕ). queue-split arch.links state.queues event events place (parts.queues place) in
    let allowed : IsAllowed arch state event = record {
      domain = thread-first arch state.threads event events inside (parts.threads event.who.0);
      queues = asks-allowed arch.links state.queues arch event here fits.queues (λ place. (split place).0);
    } in (
      allowed,
      put-together arch (after arch state event) events (step-fits arch state event fits) (λ k d below. of (suc k) d (omega arith)) (record {
        threads = λ who. thread-split arch state.threads event events who (parts.threads who);
        queues = λ place. (split place).1;
      }),
    )

some-of : {X : Type 0} (P : X → Type 0) (o : Option X) (x : X) → o ≡ Some x → IfSome o P → P x
some-of P o x is holds = subst (λ o. IfSome o P) is holds

-- from the start
parts-of : (arch : ArchParts) (events : List Event) → PartsRun arch (start_of arch) events → AreRunsOfParts arch events
unfolding ThreadRuns QueueRuns id-of port-of
parts-of arch events parts = record {
  threads = λ who inside. some-of (λ thread. IsThreadRun arch who thread (own who events)) (slice_get (threads_from 0 arch arch.pds) who.0) (opening_thread arch who)
      (thread-start who.0 arch inside) (parts.threads who.0);
  queues = λ id port is. some-of (λ queue. IsQueueRun queue (at_port arch.links id events)) (slice_get (queues_from 0 arch arch.ports) id.0) (opening_queue arch id port)
      (queue-start id.0 arch ∙ ap (option_map (opening_queue arch id)) is) (parts.queues id.0);
}

of-parts : (arch : ArchParts) (events : List Event) → AreRunsOfParts arch events → PartsRun arch (start_of arch) events
unfolding ThreadRuns QueueRuns id-of port-of
of-parts arch events parts = record {
  threads = λ who. if-some (λ thread. IsThreadRun arch (id-of who) thread (own (id-of who) events)) (threads_from 0 arch arch.pds) who
      (λ thread is.
      let inside : who < length arch.pds = omega (arith, slice_get_within (threads_from 0 arch arch.pds) who thread is, length-threads 0 arch arch.pds) in
      subst (λ t. IsThreadRun arch (id-of who) t (own (id-of who) events)) (let e : opening_thread arch (id-of who) ≡ thread = cc (thread-start who arch inside, is) in e)
      (parts.threads (id-of who) inside));
  queues = λ place. if-some (λ queue. IsQueueRun queue (at_port arch.links (port-of place) events)) (queues_from 0 arch arch.ports) place
      (λ queue is. opened place queue (slice_get arch.ports place) refl (sym (queue-start place arch) ∙ is));
} where
  opened : (place : ℕ) (queue : Queue) (o : Option Port) → slice_get arch.ports place ≡ o → option_map (opening_queue arch (port-of place)) o ≡ Some queue →
      IsQueueRun queue (at_port arch.links (port-of place) events)
  opened place queue None here is = absurd (cc)
  opened place queue (Some port) here is =
      let e : opening_queue arch (port-of place) port ≡ queue = cc in
      subst (λ q. IsQueueRun q (at_port arch.links (port-of place) events)) e (parts.queues (port-of place) port here)

pub product : (arch : ArchParts) (events : List Event) → All (IsEventOf arch) events →
    (IsServiceRun arch events → AreRunsOfParts arch events) × (AreRunsOfParts arch events → IsServiceRun arch events)
product arch events of = (
  (λ run. parts-of arch events (taken-apart arch (start_of arch) events run)),
  (λ parts. put-together arch (start_of arch) events (start-fits arch) of (of-parts arch events parts)),
)
