-- What a step leaves, put together from its parts.
use Rattle.std.proofs.Common.{◌≡◌, Result, Ok, Err, OnOk, Option, Some, None, IsSomeAnd, List, length, slice_get, refl, ap, ◌∙◌}
use Rattle.std.specs.Option.{option_map_or}
use Rattle.arch_model.specs.declared.parts.ArchParts.{ArchParts}
use Rattle.arch_model.specs.declared.pd.Pd.{Pd}
use Rattle.arch_model.specs.declared.id.PdId.{PdId}
use Rattle.arch_model.specs.declared.role.Role.{Role}
use Rattle.arch_model.specs.declared.link.Link.{Link}
use Rattle.arch_model.specs.LookUp.{receivers_of}
use Rattle.rts_rules.specs.declared.event.Event.{Event}
use Rattle.rts_rules.specs.declared.event.What.{What}
use Rattle.rts_rules.specs.declared.event.What.TheVariants as what
use Rattle.rts_rules.specs.declared.thread.Thread.{Thread}
use Rattle.rts_rules.specs.Queue.{Queue, taken}
use Rattle.rts_rules.specs.Services.{Services, IsStateOf}
use Rattle.rts_rules.specs.Left.{left_as, left_by, left_of_queues, after}
use Rattle.rts_rules.proofs.Queues.{length-changed_at, length-released}

length-left : (links : List Link) (queues : List Queue) (act : What) → length (left_of_queues links queues act) ≡ length queues
length-left links queues what.Tick = refl
length-left links queues what.Init = refl
length-left links queues what.Begin = refl
length-left links queues what.Void = refl
length-left links queues what.Compute = refl
length-left links queues what.Send = refl
length-left links queues what.End = refl
length-left links queues (what.Receive port items) = length-changed_at port.0 taken queues
length-left links queues (what.Put port value) = refl
length-left links queues (what.Release port value) = length-released (receivers_of links port) value queues
length-left links queues (what.Verdict clause holds) = refl

-- a state stays one of its architecture
pub step-fits : (arch : ArchParts) (state : Services) (event : Event) → IsStateOf arch state → IsStateOf arch (after arch state event)
step-fits arch state event fits = record {
  threads = length-changed_at event.who.0 (left_by arch event.who event.what) state.threads ∙ fits.threads;
  queues = length-left arch.links state.queues event.what ∙ fits.queues;
}

-- the act of a domain of this role
pub role-left : (arch : ArchParts) (who : PdId) (act : What) (role : Role) →
    IsSomeAnd (slice_get arch.pds who.0) (λ pd. pd.role ≡ role) → left_by arch who act ≡ left_as role act
role-left arch who act role is = at (slice_get arch.pds who.0) is where
  at : (o : Option Pd) → IsSomeAnd o (λ pd. pd.role ≡ role) → (λ (thread : Thread). option_map_or (λ (pd : Pd). left_as pd.role act thread) o thread) ≡ left_as role act
  at None is = absurd is
  at (Some pd) is = ap {B = Thread → Thread} (λ (r : Role). left_as r act) is

pub on-ok : {X E P Q : Type 0} (r : Result X E) → (P → Q) → OnOk r P → OnOk r Q
on-ok (Ok x) leads holds = leads holds
on-ok (Err e) leads holds = tt
