-- What a thread may do in which phase (this project's own, after the run-time services of AADL).
use Rattle.std.specs.Prelude.{◌≡◌, ℕ, ℤ, ◌≤◌, true, false, List, length, Some, None, slice_get}
use Rattle.arch_model.specs.declared.parts.ArchParts.{ArchParts}
use Rattle.arch_model.specs.declared.id.PdId.{PdId}
use Rattle.arch_model.specs.declared.id.PortId.{PortId}
use Rattle.arch_model.specs.declared.role.Role.{Role}
use Rattle.arch_model.specs.declared.role.Role.TheVariants.{Device, Periodic, Sporadic}
use Rattle.arch_model.specs.Values.{IsPortValue}
use Rattle.rts_rules.specs.declared.event.What.{What}
use Rattle.rts_rules.specs.declared.event.What.TheVariants as what
use Rattle.rts_rules.specs.declared.phase.Phase.TheVariants.{Starting, Idle, Receiving, Computing, Sending}
use Rattle.rts_rules.specs.declared.thread.Thread.{Thread}
use Rattle.rts_rules.specs.Domain.{IsPortOf}
use Rattle.rts_rules.specs.Thread.{has_arrived, next_sent}

-- a round begins; that of a periodic thread needs a tick
pub record IsBegin (role : Role) (thread : Thread) : Type 0 where
  pub idle : thread.phase ≡ Idle
  pub ticked : role ≡ Periodic → thread.owed ≡ true

-- the receive of this number is the next, and is at this port
pub record IsNext (thread : Thread) (port : PortId) : Type 0 where
  pub number : ℕ
  pub phase : thread.phase ≡ Receiving number
  pub next : slice_get thread.order number ≡ Some port

-- a sporadic thread goes on to its data ports only where something arrived
abbrev pub GoesOn : Role → Thread → ℕ → Type 0
GoesOn role thread number = role ≡ Sporadic → thread.queued ≤ number → has_arrived thread.slots ≡ true

-- a receive is the next, and the thread goes on to it
pub record IsReceive (role : Role) (thread : Thread) (port : PortId) : Type 0 where
  pub next : IsNext thread port
  pub arrived : GoesOn role thread next.number

-- a sporadic thread ends its round where nothing arrived at its event and event data ports
pub record IsVoid (role : Role) (thread : Thread) : Type 0 where
  pub sporadic : role ≡ Sporadic
  pub phase : thread.phase ≡ Receiving thread.queued
  pub nothing : has_arrived thread.slots ≡ false

-- all has been received, and at a sporadic thread something arrived
pub record IsCompute (role : Role) (thread : Thread) : Type 0 where
  pub phase : thread.phase ≡ Receiving (length thread.order)
  pub arrived : role ≡ Sporadic → has_arrived thread.slots ≡ true

-- a value of its type is put to an own out port
pub record IsPut (arch : ArchParts) (who : PdId) (thread : Thread) (port : PortId) (value : List ℤ) : Type 0 where
  pub phase : thread.phase ≡ Computing
  pub own : IsPortOf arch who true port
  pub typed : IsPortValue arch port value

-- the first connected out port that holds a value sends it
pub record IsRelease (thread : Thread) (port : PortId) (value : List ℤ) : Type 0 where
  pub phase : thread.phase ≡ Sending
  pub next : next_sent thread.slots ≡ Some (port, value)

-- no connected out port holds a value
pub record IsEnd (thread : Thread) : Type 0 where
  pub phase : thread.phase ≡ Sending
  pub nothing : next_sent thread.slots ≡ None

-- a thread of this role may do this
abbrev pub ThreadAllows : ArchParts → PdId → Role → Thread → What → Type 0
ThreadAllows arch who role thread what.Tick = role ≡ Periodic
ThreadAllows arch who role thread what.Init = thread.phase ≡ Starting
ThreadAllows arch who role thread what.Begin = IsBegin role thread
ThreadAllows arch who role thread what.Void = IsVoid role thread
ThreadAllows arch who role thread what.Compute = IsCompute role thread
ThreadAllows arch who role thread what.Send = thread.phase ≡ Computing
ThreadAllows arch who role thread what.End = IsEnd thread
ThreadAllows arch who role thread (what.Receive port items) = IsReceive role thread port
ThreadAllows arch who role thread (what.Put port value) = IsPut arch who thread port value
ThreadAllows arch who role thread (what.Release port value) = IsRelease thread port value
ThreadAllows arch who role thread (what.Verdict clause holds) = thread.phase ≡ Computing

-- a receive is the next, where the event is one
abbrev pub MayReceive : Thread → What → Type 0
MayReceive thread what.Tick = Unit {0}
MayReceive thread what.Init = Unit {0}
MayReceive thread what.Begin = Unit {0}
MayReceive thread what.Void = Unit {0}
MayReceive thread what.Compute = Unit {0}
MayReceive thread what.Send = Unit {0}
MayReceive thread what.End = Unit {0}
MayReceive thread (what.Receive port items) = IsNext thread port
MayReceive thread (what.Put port value) = Unit {0}
MayReceive thread (what.Release port value) = Unit {0}
MayReceive thread (what.Verdict clause holds) = Unit {0}

-- a thread copies what it receives, and what it is to hold
abbrev pub CopiesItems : What → Type 0
CopiesItems what.Tick = ⊥
CopiesItems what.Init = ⊥
CopiesItems what.Begin = ⊥
CopiesItems what.Void = ⊥
CopiesItems what.Compute = ⊥
CopiesItems what.Send = ⊥
CopiesItems what.End = ⊥
CopiesItems (what.Receive port items) = Unit {0}
CopiesItems (what.Put port value) = Unit {0}
CopiesItems (what.Release port value) = ⊥
CopiesItems (what.Verdict clause holds) = ⊥

abbrev pub MayReceiveAs : Role → Thread → What → Type 0
MayReceiveAs Device thread what = Unit {0}
MayReceiveAs Periodic thread what = MayReceive thread what
MayReceiveAs Sporadic thread what = MayReceive thread what

abbrev pub CopiesAs : Role → What → Type 0
CopiesAs Device what = ⊥
CopiesAs Periodic what = CopiesItems what
CopiesAs Sporadic what = CopiesItems what
