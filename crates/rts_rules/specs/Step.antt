-- The service step: which event is allowed (this project's own, after the run-time services of AADL). It asks something of the
-- event's own domain, and of the queue at which it receives.
use Rattle.std.specs.Prelude.{◌≡◌, ◌≢◌, ℕ, ℤ, true, false, ◌<◌, List, length, IsSomeAnd, slice_get}
use Rattle.arch_model.specs.declared.parts.ArchParts.{ArchParts}
use Rattle.arch_model.specs.declared.id.PdId.{PdId}
use Rattle.arch_model.specs.declared.id.PortId.{PortId}
use Rattle.arch_model.specs.declared.role.Role.{Role}
use Rattle.arch_model.specs.declared.role.Role.TheVariants.{Device, Periodic, Sporadic}
use Rattle.arch_model.specs.Usage.{has_receiver}
use Rattle.arch_model.specs.Values.{IsPortValue}
use Rattle.rts_rules.specs.declared.event.Event.{Event}
use Rattle.rts_rules.specs.declared.event.What.{What}
use Rattle.rts_rules.specs.declared.event.What.TheVariants as what
use Rattle.rts_rules.specs.declared.thread.Thread.{Thread}
use Rattle.rts_rules.specs.Queue.{Queue, offered}
use Rattle.rts_rules.specs.Services.{Services}
use Rattle.rts_rules.specs.ThreadRules.{ThreadAllows}
use Rattle.rts_rules.specs.Domain.{IsPortOf}

-- a device may release any value of the port's type through any of its out ports
pub record IsReleaseOfDevice (arch : ArchParts) (who : PdId) (port : PortId) (value : List ℤ) : Type 0 where
  pub own : IsPortOf arch who true port
  pub typed : IsPortValue arch port value

-- a device may release at its out ports and receive at its in ports, and does nothing else
abbrev pub DeviceAllows : ArchParts → PdId → What → Type 0
DeviceAllows arch who what.Tick = ⊥
DeviceAllows arch who what.Init = ⊥
DeviceAllows arch who what.Begin = ⊥
DeviceAllows arch who what.Void = ⊥
DeviceAllows arch who what.Compute = ⊥
DeviceAllows arch who what.Send = ⊥
DeviceAllows arch who what.End = ⊥
DeviceAllows arch who (what.Receive port items) = IsPortOf arch who false port
DeviceAllows arch who (what.Put port value) = ⊥
DeviceAllows arch who (what.Release port value) = IsReleaseOfDevice arch who port value
DeviceAllows arch who (what.Verdict clause holds) = ⊥

-- the rules of what the domain is
abbrev pub AllowsAs : ArchParts → PdId → Role → Thread → What → Type 0
AllowsAs arch who Device thread what = DeviceAllows arch who what
AllowsAs arch who Periodic thread what = ThreadAllows arch who Periodic thread what
AllowsAs arch who Sporadic thread what = ThreadAllows arch who Sporadic thread what

-- the domain itself may do this
abbrev pub DomainAllows : ArchParts → PdId → Thread → What → Type 0
DomainAllows arch who thread what = IsSomeAnd (slice_get arch.pds who.0) (λ pd. AllowsAs arch who pd.role thread what)

-- a link ends at the port, and these items are what its queue offers
pub record IsOffered (queue : Queue) (items : List (List ℤ)) : Type 0 where
  pub linked : queue.linked ≡ true
  pub all : items ≡ offered queue

-- the queues allow an event that is no receive, and a receive of what is offered
abbrev pub QueuesAllow : List Queue → What → Type 0
QueuesAllow queues what.Tick = Unit {0}
QueuesAllow queues what.Init = Unit {0}
QueuesAllow queues what.Begin = Unit {0}
QueuesAllow queues what.Void = Unit {0}
QueuesAllow queues what.Compute = Unit {0}
QueuesAllow queues what.Send = Unit {0}
QueuesAllow queues what.End = Unit {0}
QueuesAllow queues (what.Receive port items) = IsSomeAnd (slice_get queues port.0) (λ queue. IsOffered queue items)
QueuesAllow queues (what.Put port value) = Unit {0}
QueuesAllow queues (what.Release port value) = Unit {0}
QueuesAllow queues (what.Verdict clause holds) = Unit {0}

-- the port of a receive has a queue
abbrev pub ReceivesWithin : ℕ → What → Type 0
ReceivesWithin queues what.Tick = Unit {0}
ReceivesWithin queues what.Init = Unit {0}
ReceivesWithin queues what.Begin = Unit {0}
ReceivesWithin queues what.Void = Unit {0}
ReceivesWithin queues what.Compute = Unit {0}
ReceivesWithin queues what.Send = Unit {0}
ReceivesWithin queues what.End = Unit {0}
ReceivesWithin queues (what.Receive port items) = port.0 < queues
ReceivesWithin queues (what.Put port value) = Unit {0}
ReceivesWithin queues (what.Release port value) = Unit {0}
ReceivesWithin queues (what.Verdict clause holds) = Unit {0}

-- a rule allows the event
pub record IsAllowed (arch : ArchParts) (state : Services) (event : Event) : Type 0 where
  pub domain : IsSomeAnd (slice_get state.threads event.who.0) (λ thread. DomainAllows arch event.who thread event.what)
  pub queues : QueuesAllow state.queues event.what

-- an event of such a domain may want memory: a release at a port that has a receiver; and of a thread, a receive and a put
abbrev pub WantsMemoryAs : ArchParts → Role → What → Type 0
WantsMemoryAs arch role what.Tick = ⊥
WantsMemoryAs arch role what.Init = ⊥
WantsMemoryAs arch role what.Begin = ⊥
WantsMemoryAs arch role what.Void = ⊥
WantsMemoryAs arch role what.Compute = ⊥
WantsMemoryAs arch role what.Send = ⊥
WantsMemoryAs arch role what.End = ⊥
WantsMemoryAs arch role (what.Receive port items) = role ≢ Device
WantsMemoryAs arch role (what.Put port value) = role ≢ Device
WantsMemoryAs arch role (what.Release port value) = has_receiver arch.links port ≡ true
WantsMemoryAs arch role (what.Verdict clause holds) = ⊥

abbrev pub WantsMemory : ArchParts → Event → Type 0
WantsMemory arch event = IsSomeAnd (slice_get arch.pds event.who.0) (λ pd. WantsMemoryAs arch pd.role event.what)

-- the domain and the ports that an event names are there
abbrev pub NamesPorts : ArchParts → What → Type 0
NamesPorts arch what.Tick = Unit {0}
NamesPorts arch what.Init = Unit {0}
NamesPorts arch what.Begin = Unit {0}
NamesPorts arch what.Void = Unit {0}
NamesPorts arch what.Compute = Unit {0}
NamesPorts arch what.Send = Unit {0}
NamesPorts arch what.End = Unit {0}
NamesPorts arch (what.Receive port items) = port.0 < length arch.ports
NamesPorts arch (what.Put port value) = port.0 < length arch.ports
NamesPorts arch (what.Release port value) = port.0 < length arch.ports
NamesPorts arch (what.Verdict clause holds) = Unit {0}

pub record IsEventOf (arch : ArchParts) (event : Event) : Type 0 where
  pub domain : event.who.0 < length arch.pds
  pub ports : NamesPorts arch event.what
