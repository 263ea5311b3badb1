-- Service runs: lists of events that the rules allow one after another from the start.
use Rattle.std.specs.Prelude.{◌≡◌, ℕ, ◌+◌, List, [], ◌∷◌, ◌++◌, length}
use Rattle.arch_model.specs.declared.parts.ArchParts.{ArchParts}
use Rattle.rts_rules.specs.declared.event.Event.{Event}
use Rattle.rts_rules.specs.declared.rule.Rule.{Rule}
use Rattle.rts_rules.specs.Rule.{rule_of}
use Rattle.rts_rules.specs.Services.{Services, start_of}
use Rattle.rts_rules.specs.Left.{after}
use Rattle.rts_rules.specs.Step.{IsAllowed}

-- each event is allowed where those before it lead
abbrev pub AreAllowed : ArchParts → Services → List Event → Type 0
AreAllowed arch state [] = Unit {0}
AreAllowed arch state (event ∷ events) = IsAllowed arch state event × AreAllowed arch (after arch state event) events

abbrev pub after_all : ArchParts → Services → List Event → Services
after_all arch state [] = state
after_all arch state (event ∷ events) = after_all arch (after arch state event) events

-- a run of the services
abbrev pub IsServiceRun : ArchParts → List Event → Type 0
IsServiceRun arch events = AreAllowed arch (start_of arch) events

-- no rule allows the event of this number, from 1, and those before it are a run
pub record IsFirstIllegal (arch : ArchParts) (events : List Event) (number : ℕ) (rule : Rule) : Type 0 where
  pub before : List Event
  pub here : Event
  pub rest : List Event
  pub all : events ≡ before ++ here ∷ rest
  pub counted : length before + 1 ≡ number
  pub run : IsServiceRun arch before
  pub illegal : IsAllowed arch (after_all arch (start_of arch) before) here → ⊥
  pub word : rule ≡ rule_of here.what
