-- Runs grow at their end.
use Rattle.std.proofs.Common.{◌≡◌, ℕ, ◌<◌, ◌+◌, suc, zero, subst, List, [], ◌∷◌, ◌++◌, length, take, drop, get_or, refl, ap, sym, ◌∙◌, add-one, arith, Result, Err, IfOk}
use Rattle.arch_model.specs.declared.parts.ArchParts.{ArchParts}
use Rattle.rts_rules.specs.declared.event.Event.{Event}
use Rattle.rts_rules.specs.declared.rule.Rule.{Rule}
use Rattle.rts_rules.specs.Rule.{rule_of}
use Rattle.rts_rules.specs.Services.{Services, start_of}
use Rattle.rts_rules.specs.Left.{after}
use Rattle.rts_rules.specs.Step.{IsAllowed}
use Rattle.rts_rules.specs.Run.{AreAllowed, after_all, IsServiceRun}
use Rattle.hamr_cli.specs.declared.trace.line.Line.{Line}
use Rattle.rts_rules.specs.declared.fault.StepFault.{StepFault}
use Rattle.rts_rules.specs.declared.fault.StepFault.TheVariants as fault
use Rattle.rts_rules.specs.Fault.{IfIllegal}
use Rattle.hw_text.specs.declared.no_memory.NoMemory.{NoMemory}
use Rattle.hamr_cli.specs.declared.judgement.Judgement.{Judgement}
use Rattle.hamr_cli.specs.Judge.{events_of, IsIllegalAt, IsVerdict}
use Rattle.hamr_cli.specs.Inner.{EndsAs}

AreAllowed-push : (arch : ArchParts) (state : Services) (events : List Event) (event : Event) →
    AreAllowed arch state events → IsAllowed arch (after_all arch state events) event → AreAllowed arch state (events ++ event ∷ [])
AreAllowed-push arch state [] event run next = (next, tt)
AreAllowed-push arch state (first ∷ events) event run next = (run.0, AreAllowed-push arch (after arch state first) events event run.1 next)

after_all-push : (arch : ArchParts) (state : Services) (events : List Event) (event : Event) →
    after_all arch state (events ++ event ∷ []) ≡ after arch (after_all arch state events) event
after_all-push arch state [] event = refl
after_all-push arch state (first ∷ events) event = after_all-push arch (after arch state first) events event

-- in a run each event is allowed where it stands
AreAllowed-middle : (arch : ArchParts) (state : Services) (before rest : List Event) (event : Event) →
    AreAllowed arch state (before ++ event ∷ rest) → IsAllowed arch (after_all arch state before) event
AreAllowed-middle arch state [] rest event run = run.0
AreAllowed-middle arch state (first ∷ before) rest event run = AreAllowed-middle arch (after arch state first) before rest event run.1

-- the events up to a line, and with it
events-take : (lines : List Line) (k : ℕ) (line : Line) → k < length lines → line ≡ get_or lines k line →
    events_of (take (suc k) lines) ≡ events_of (take k lines) ++ line.event ∷ []
events-take [] k line inside is = absurd (omega arith)
events-take (first ∷ lines) zero line inside is = ap (λ (l : Line). l.event ∷ []) (sym is)
events-take (first ∷ lines) (suc k) line inside is = ap (λ events. first.event ∷ events) (events-take lines k line (omega arith) is)

-- the events before a line, its own, and those behind it
events-split : (lines : List Line) (k : ℕ) (line : Line) → k < length lines → line ≡ get_or lines k line →
    events_of lines ≡ events_of (take k lines) ++ line.event ∷ events_of (drop (suc k) lines)
events-split [] k line inside is = absurd (omega arith)
events-split (first ∷ lines) zero line inside is = ap (λ (l : Line). l.event ∷ events_of lines) (sym is)
events-split (first ∷ lines) (suc k) line inside is = ap (λ events. first.event ∷ events) (events-split lines k line (omega arith) is)

length-events : (lines : List Line) (k : ℕ) → k < length lines → length (events_of (take k lines)) ≡ k
length-events [] k inside = absurd (omega arith)
length-events (first ∷ lines) zero inside = refl
length-events (first ∷ lines) (suc k) inside = ap suc (length-events lines k (omega arith))

-- what a run over the first k lines is
pub record RunsTo (arch : ArchParts) (lines : List Line) (k : ℕ) (state : Services) : Type 0 where
  pub run : IsServiceRun arch (events_of (take k lines))
  pub state_is : state ≡ after_all arch (start_of arch) (events_of (take k lines))

-- one line more
pub RunsTo-next : (arch : ArchParts) (lines : List Line) (k : ℕ) (state new : Services) (line : Line) →
    RunsTo arch lines k state → k < length lines → line ≡ get_or lines k line →
    IsAllowed arch state line.event → new ≡ after arch state line.event → RunsTo arch lines (k + 1) new
RunsTo-next arch lines k state new line before inside is allowed stepped =
    let events = events_of (take k lines) in
    let start = start_of arch in
    let next = subst (λ (s : Services). IsAllowed arch s line.event) before.state_is allowed in
    let taken : events_of (take (k + 1) lines) ≡ events ++ line.event ∷ [] = rw add-one (events-take lines k line inside is) in
    record {
      run = subst (λ (es : List Event). AreAllowed arch start es) (sym taken) (AreAllowed-push arch start events line.event before.run next);
      state_is = stepped ∙ ap (λ (s : Services). after arch s line.event) before.state_is
          ∙ sym (after_all-push arch start events line.event) ∙ ap (λ (es : List Event). after_all arch start es) (sym taken);
    }

-- a line that no rule allows
pub RunsTo-illegal : (arch : ArchParts) (lines : List Line) (k number : ℕ) (state : Services) (line : Line) (rule : Rule) →
    RunsTo arch lines k state → k < length lines → line ≡ get_or lines k line → number ≡ k + 1 →
    (IsAllowed arch state line.event → ⊥) → rule ≡ rule_of line.event.what → IsIllegalAt arch (events_of lines) number rule
RunsTo-illegal arch lines k number state line rule before inside is counted none named =
    let events = events_of (take k lines) in
    let rest = events_of (drop (suc k) lines) in
    let start = start_of arch in
    let all = events-split lines k line inside is in
    let refused : IsAllowed arch (after_all arch start events) line.event → ⊥ =
    λ allowed. none (subst (λ (s : Services). IsAllowed arch s line.event) (sym before.state_is) allowed) in
    record {
      first = record {
        before = events;
        here = line.event;
        rest = rest;
        all = all;
        counted = ap (λ n. n + 1) (length-events lines k inside) ∙ sym counted;
        run = before.run;
        illegal = refused;
        word = named;
      };
      no_run = λ run. refused (AreAllowed-middle arch start events rest line.event (subst (λ (es : List Event). AreAllowed arch start es) all run));
    }

-- the answer at a line that was not taken
pub RunsTo-ended : (arch : ArchParts) (lines : List Line) (k number : ℕ) (state : Services) (line : Line) (fault : StepFault) (answer : Result Judgement NoMemory) →
    RunsTo arch lines k state → k < length lines → line ≡ get_or lines k line → number ≡ k + 1 →
    IfIllegal {X = Unit {0}} (Err fault) (λ rule. (IsAllowed arch state line.event → ⊥) × (rule ≡ rule_of line.event.what)) →
    EndsAs fault number answer → IfOk answer (IsVerdict arch (events_of lines))
RunsTo-ended arch lines k number state line (fault.Illegal rule) answer before inside is counted illegal ends =
    rw ends (RunsTo-illegal arch lines k number state line rule before inside is counted illegal.0 illegal.1)
RunsTo-ended arch lines k number state line fault.NoMemory answer before inside is counted illegal ends = rw ends tt
