-- The parts of a run: the events of one domain, and what happens at one port.
use Rattle.std.specs.Prelude.{◌≡◌, ℤ, ◌<◌, ◌==◌, List, [], ◌∷◌, ◌++◌, filter, length, Some, slice_get, if◌then◌else◌}
use Rattle.arch_model.specs.declared.parts.ArchParts.{ArchParts}
use Rattle.arch_model.specs.declared.port.Port.{Port}
use Rattle.arch_model.specs.declared.link.Link.{Link}
use Rattle.arch_model.specs.declared.id.PdId.{PdId}
use Rattle.arch_model.specs.declared.id.PortId.{PortId}
use Rattle.arch_model.specs.LookUp.{receivers_of}
use Rattle.rts_rules.specs.declared.event.Event.{Event}
use Rattle.rts_rules.specs.declared.event.What.{What}
use Rattle.rts_rules.specs.declared.event.What.TheVariants as what
use Rattle.rts_rules.specs.declared.thread.Thread.{Thread}
use Rattle.rts_rules.specs.Queue.{Queue, appended, taken}
use Rattle.rts_rules.specs.Services.{opening_thread, opening_queue}
use Rattle.rts_rules.specs.Step.{DomainAllows, IsOffered}
use Rattle.rts_rules.specs.Left.{left_by, is_among}

-- a domain's own events
abbrev pub own : PdId → List Event → List Event
own who events = filter (λ event. event.who.0 == who.0) events

-- the domain may do this, one event after another
abbrev pub IsThreadRun : ArchParts → PdId → Thread → List Event → Type 0
IsThreadRun arch who thread [] = Unit {0}
IsThreadRun arch who thread (event ∷ events) =
    DomainAllows arch who thread event.what × IsThreadRun arch who (left_by arch who event.what thread) events

-- what happens at a port: a value arrives, or items leave
pub data AtPort : Type 0 where
  Arrives : (value : List ℤ) → AtPort
  Leaves : (items : List (List ℤ)) → AtPort

-- what an event does at a port
abbrev pub done_at : List Link → PortId → What → List AtPort
done_at links port what.Tick = []
done_at links port what.Init = []
done_at links port what.Begin = []
done_at links port what.Void = []
done_at links port what.Compute = []
done_at links port what.Send = []
done_at links port what.End = []
done_at links port (what.Receive other items) = if other.0 == port.0 then Leaves items ∷ [] else []
done_at links port (what.Put other value) = []
done_at links port (what.Release other value) = if is_among (receivers_of links other) port.0 then Arrives value ∷ [] else []
done_at links port (what.Verdict clause holds) = []

abbrev pub at_port : List Link → PortId → List Event → List AtPort
at_port links port [] = []
at_port links port (event ∷ events) = done_at links port event.what ++ at_port links port events

-- what leaves a queue is what it offers
abbrev pub IsQueueRun : Queue → List AtPort → Type 0
IsQueueRun queue [] = Unit {0}
IsQueueRun queue (Arrives value ∷ later) = IsQueueRun (appended queue value) later
IsQueueRun queue (Leaves items ∷ later) = IsOffered queue items × IsQueueRun (taken queue) later

-- each part by itself runs from its start
pub record AreRunsOfParts (arch : ArchParts) (events : List Event) : Type 0 where
  pub threads : (who : PdId) → who.0 < length arch.pds → IsThreadRun arch who (opening_thread arch who) (own who events)
  pub queues : (id : PortId) (port : Port) → slice_get arch.ports id.0 ≡ Some port →
      IsQueueRun (opening_queue arch id port) (at_port arch.links id events)
