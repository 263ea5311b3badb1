-- What a step leaves: one thread that has acted, and the queues that the event speaks of.
use Rattle.std.specs.Prelude.{ℕ, zero, suc, ℤ, Bool, ◌+◌, ◌==◌, List, [], ◌∷◌, slice_get, if◌then◌else◌}
use Rattle.std.specs.List.{list_any}
use Rattle.std.specs.Option.{option_map_or}
use Rattle.arch_model.specs.declared.parts.ArchParts.{ArchParts}
use Rattle.arch_model.specs.declared.link.Link.{Link}
use Rattle.arch_model.specs.declared.id.PdId.{PdId}
use Rattle.arch_model.specs.declared.id.PortId.{PortId}
use Rattle.arch_model.specs.declared.role.Role.{Role}
use Rattle.arch_model.specs.declared.role.Role.TheVariants.{Device, Periodic, Sporadic}
use Rattle.arch_model.specs.LookUp.{receivers_of}
use Rattle.rts_rules.specs.declared.event.Event.{Event}
use Rattle.rts_rules.specs.declared.event.What.{What}
use Rattle.rts_rules.specs.declared.event.What.TheVariants as what
use Rattle.rts_rules.specs.declared.thread.Thread.{Thread}
use Rattle.rts_rules.specs.Queue.{Queue, appended, taken}
use Rattle.rts_rules.specs.Thread.{left_of_thread}
use Rattle.rts_rules.specs.Services.{Services}

-- the list, changed at one place
abbrev pub changed_at : {X : Type 0} → ℕ → (X → X) → List X → List X
changed_at place change [] = []
changed_at zero change (x ∷ xs) = change x ∷ xs
changed_at (suc place) change (x ∷ xs) = x ∷ changed_at place change xs

-- the port is one of these
abbrev pub is_among : List PortId → ℕ → Bool
is_among ports place = list_any (λ port. port.0 == place) ports

-- the queues from this place on, changed where the place passes the test
abbrev pub changed_from : ℕ → (ℕ → Bool) → (Queue → Queue) → List Queue → List Queue
changed_from place passes change [] = []
changed_from place passes change (queue ∷ queues) =
    (if passes place then change queue else queue) ∷ changed_from (place + 1) passes change queues

-- the value is appended at each of these ports
unfoldable pub released : List PortId → List ℤ → List Queue → List Queue
released ports value queues = changed_from 0 (is_among ports) (λ queue. appended queue value) queues

-- what the event leaves of the queues
abbrev pub left_of_queues : List Link → List Queue → What → List Queue
left_of_queues links queues what.Tick = queues
left_of_queues links queues what.Init = queues
left_of_queues links queues what.Begin = queues
left_of_queues links queues what.Void = queues
left_of_queues links queues what.Compute = queues
left_of_queues links queues what.Send = queues
left_of_queues links queues what.End = queues
left_of_queues links queues (what.Receive port items) = changed_at port.0 taken queues
left_of_queues links queues (what.Put port value) = queues
left_of_queues links queues (what.Release port value) = released (receivers_of links port) value queues
left_of_queues links queues (what.Verdict clause holds) = queues

-- what a domain's own event leaves of its thread; a device has none
abbrev pub left_as : Role → What → Thread → Thread
left_as Device what thread = thread
left_as Periodic what thread = left_of_thread thread what
left_as Sporadic what thread = left_of_thread thread what

abbrev pub left_by : ArchParts → PdId → What → Thread → Thread
left_by arch who what thread = option_map_or (λ pd. left_as pd.role what thread) (slice_get arch.pds who.0) thread

abbrev pub after : ArchParts → Services → Event → Services
after arch state event = record {
  threads = changed_at event.who.0 (left_by arch event.who event.what) state.threads;
  queues = left_of_queues arch.links state.queues event.what;
}
