-- A thread that sends has begun to, and not ended.
use Rattle.std.proofs.Common.{◌≡◌, ◌≢◌, ℕ, ℤ, zero, suc, ◌<◌, List, [], ◌∷◌, ◌++◌, All, length, get_or, refl, ap, sym, ◌∙◌, append_assoc, append-nil, subst, arith, IsSomeAnd, slice_get, Option, Some, None}
use Rattle.std.proofs.lemmas.List.Elements.{All-cons}
use Rattle.arch_model.specs.declared.parts.ArchParts.{ArchParts}
use Rattle.arch_model.specs.declared.pd.Pd.{Pd}
use Rattle.arch_model.specs.declared.id.PdId.{PdId}
use Rattle.arch_model.specs.declared.id.PortId.{PortId}
use Rattle.arch_model.specs.declared.role.Role.{Role}
use Rattle.arch_model.specs.declared.role.Role.TheVariants.{Device, Periodic, Sporadic}
use Rattle.rts_rules.specs.declared.event.Event.{Event}
use Rattle.rts_rules.specs.declared.event.What.{What}
use Rattle.rts_rules.specs.declared.event.What.TheVariants as what
use Rattle.rts_rules.specs.declared.phase.Phase.{Phase}
use Rattle.rts_rules.specs.declared.phase.Phase.TheVariants.{Starting, Idle, Receiving, Computing, Sending}
use Rattle.rts_rules.specs.declared.thread.Thread.{Thread}
use Rattle.rts_rules.specs.Thread.{left_of_thread, next_phase}
use Rattle.rts_rules.specs.Services.{opening_thread}
use Rattle.rts_rules.specs.Left.{left_as, left_by}
use Rattle.rts_rules.specs.Step.{DomainAllows, AllowsAs}
use Rattle.rts_rules.proofs.Steps.{role-left}
use Rattle.rts_laws.specs.Parts.{IsThreadRun}
use Rattle.rts_laws.specs.Sending.{IsThread, IsSending}

one-more : (P : Event → Type 0) (events : List Event) (event : Event) → All P events → P event → All P (events ++ event ∷ [])
one-more P [] event each here = λ k d inside. first k d inside where
  first : (k : ℕ) (d : Event) → k < length (event ∷ []) → P (get_or (event ∷ []) k d)
  first zero d inside = here
  first (suc k) d inside = absurd (omega arith)
one-more P (x ∷ xs) event each here =
    All-cons P x (xs ++ event ∷ []) (each 0 x (omega arith)) (one-more P xs event (λ j e below. each (suc j) e (omega arith)) here)

goes-on : (events : List Event) (event : Event) → event.what ≢ what.End → IsSending events → IsSending (events ++ event ∷ [])
goes-on events event no-end sending = record {
  first = sending.first;
  send = sending.send;
  since = sending.since ++ event ∷ [];
  all = ap (λ (es : List Event). es ++ event ∷ []) sending.all ∙ append_assoc sending.first (sending.send ∷ sending.since) (event ∷ []);
  begins = sending.begins;
  no_end = one-more (λ (e : Event). e.what ≢ what.End) sending.since event sending.no_end no-end;
}

begun : (events : List Event) (event : Event) → event.what ≡ what.Send → IsSending (events ++ event ∷ [])
begun events event is = record { first = events; send = event; since = []; all = refl; begins = is; no_end = λ k d inside. absurd (omega arith) }

next-sending : (phase : Phase) → next_phase phase ≡ Sending → phase ≡ Sending
next-sending Starting is = absurd (cc)
next-sending Idle is = absurd (cc)
next-sending (Receiving number) is = absurd (cc)
next-sending Computing is = absurd (cc)
next-sending Sending is = refl

-- one event more
acted : (act : What) (thread : Thread) (events : List Event) (event : Event) → event.what ≡ act → (thread.phase ≡ Sending → IsSending events) →
    (left_of_thread thread act).phase ≡ Sending → IsSending (events ++ event ∷ [])
acted what.Tick thread events event is before now = goes-on events event (λ e. absurd (cc)) (before now)
acted what.Init thread events event is before now = absurd (cc)
acted what.Begin thread events event is before now = absurd (cc)
acted what.Void thread events event is before now = absurd (cc)
acted what.Compute thread events event is before now = absurd (cc)
acted what.Send thread events event is before now = begun events event is
acted what.End thread events event is before now = absurd (cc)
acted (what.Receive port items) thread events event is before now = goes-on events event (λ e. absurd (cc)) (before (next-sending thread.phase now))
acted (what.Put port value) thread events event is before now = goes-on events event (λ e. absurd (cc)) (before now)
acted (what.Release port value) thread events event is before now = goes-on events event (λ e. absurd (cc)) (before now)
acted (what.Verdict clause holds) thread events event is before now = goes-on events event (λ e. absurd (cc)) (before now)

acted-as : (role : Role) (thread : Thread) (events : List Event) (event : Event) → role ≢ Device → (thread.phase ≡ Sending → IsSending events) →
    (left_as role event.what thread).phase ≡ Sending → IsSending (events ++ event ∷ [])
acted-as Device thread events event no-device before now = absurd (no-device refl)
acted-as Periodic thread events event no-device before now = acted event.what thread events event refl before now
acted-as Sporadic thread events event no-device before now = acted event.what thread events event refl before now

released : (role : Role) (arch : ArchParts) (who : PdId) (thread : Thread) (port : PortId) (value : List ℤ) → role ≢ Device →
    AllowsAs arch who role thread (what.Release port value) → thread.phase ≡ Sending
released Device arch who thread port value no-device allowed = absurd (no-device refl)
released Periodic arch who thread port value no-device allowed = allowed.phase
released Sporadic arch who thread port value no-device allowed = allowed.phase

of-role : (o : Option Pd) (role : Role) (P : Role → Type 0) → IsSomeAnd o (λ pd. pd.role ≡ role) → IsSomeAnd o (λ pd. P pd.role) → P role
of-role None role P is holds = absurd holds
of-role (Some pd) role P is holds = subst P is holds

walk : (arch : ArchParts) (who : PdId) (is : IsThread arch who) (thread : Thread) (past before later : List Event) (event : Event) (port : PortId) (value : List ℤ) →
    event.what ≡ what.Release port value → (thread.phase ≡ Sending → IsSending past) → IsThreadRun arch who thread (before ++ event ∷ later) → IsSending (past ++ before)
walk arch who is thread past [] later event port value act open_ run =
    let allowed : DomainAllows arch who thread (what.Release port value) = subst (DomainAllows arch who thread) act run.0 in
    let sending = released is.role arch who thread port value is.no_device
    (of-role (slice_get arch.pds who.0) is.role (λ role. AllowsAs arch who role thread (what.Release port value)) is.is allowed) in
    subst IsSending (sym (append-nil past)) (open_ sending)
walk arch who is thread past (x ∷ before) later event port value act open_ run =
    let next = left_by arch who x.what thread in
    let same : next ≡ left_as is.role x.what thread = ap (λ (f : Thread → Thread). f thread) (role-left arch who x.what is.role is.is) in
    subst IsSending (append_assoc past (x ∷ []) before)
    (walk arch who is next (past ++ x ∷ []) before later event port value act
    (λ now. acted-as is.role thread past x is.no_device open_ (sym (ap (λ (t : Thread). t.phase) same) ∙ now)) run.1)

pub sends : (arch : ArchParts) (who : PdId) (before later : List Event) (event : Event) (port : PortId) (value : List ℤ) → IsThread arch who →
    event.what ≡ what.Release port value → IsThreadRun arch who (opening_thread arch who) (before ++ event ∷ later) → IsSending before
sends arch who before later event port value is act run =
    walk arch who is (opening_thread arch who) [] before later event port value act (λ now. absurd (cc)) run
