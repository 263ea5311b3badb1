-- The state of the run-time services, and the opening state (this project's own, after the run-time services of AADL).
use Rattle.std.specs.Prelude.{◌≡◌, ℕ, true, false, Bool, ◌+◌, ◌==◌, ◌&&◌, ◌||◌, not, List, [], ◌∷◌, length, Some, None, slice_get, if◌then◌else◌}
use Rattle.std.specs.Option.{option_map_or}
use Rattle.arch_model.specs.declared.parts.ArchParts.{ArchParts}
use Rattle.arch_model.specs.declared.pd.Pd.{Pd}
use Rattle.arch_model.specs.declared.port.Port.{Port}
use Rattle.arch_model.specs.declared.id.PdId.{PdId}
use Rattle.arch_model.specs.declared.id.PortId.{PortId}
use Rattle.arch_model.specs.declared.role.Role.{Role}
use Rattle.arch_model.specs.declared.role.Role.TheVariants.{Device, Periodic, Sporadic}
use Rattle.arch_model.specs.declared.kind.Kind.{Kind}
use Rattle.arch_model.specs.declared.kind.Kind.TheVariants as kind
use Rattle.arch_model.specs.declared.usage.Usage.{Usage}
use Rattle.arch_model.specs.Usage.{has_sender, usage_of, ports_used, receive_order, is_queued, is_sampled}
use Rattle.arch_model.specs.Values.{zero_of}
use Rattle.rts_rules.specs.declared.phase.Phase.TheVariants.{Starting}
use Rattle.rts_rules.specs.declared.slot.Slot.{Slot}
use Rattle.rts_rules.specs.declared.thread.Thread.{Thread}
use Rattle.rts_rules.specs.Queue.{Queue}

-- one thread for each domain and one queue for each port, by their numbers; that of a device stays as it was at the start
pub record Services : Type 0 where
  pub threads : List Thread
  pub queues : List Queue

abbrev pub is_data_port : Kind → Bool
is_data_port kind.Sampled = true
is_data_port kind.Event = false
is_data_port kind.EventItem = false

abbrev pub is_device : Role → Bool
is_device Device = true
is_device Periodic = false
is_device Sporadic = false

-- the usage of a connected data in port, or of a connected event or event data port
abbrev pub is_wanted : Bool → Usage → Bool
is_wanted true = is_sampled
is_wanted false = is_queued

-- a data in port keeps the zero of its type
abbrev pub opening_slot : ArchParts → PortId → Port → Slot
opening_slot arch id port = record {
  port = id;
  usage = usage_of arch.links id port;
  frozen = [];
  kept = if not port.outward && is_data_port port.kind then Some (zero_of arch port) else None;
  held = None;
}

-- the slots of a domain's ports, the first port of the list having this number
abbrev pub slots_from : ℕ → ArchParts → PdId → List Port → List Slot
slots_from number arch who [] = []
slots_from number arch who (port ∷ ports) =
    if port.owner.0 == who.0 then opening_slot arch (record { 0 = number }) port ∷ slots_from (number + 1) arch who ports
    else slots_from (number + 1) arch who ports

-- a thread that is starting
abbrev pub opening_thread : ArchParts → PdId → Thread
opening_thread arch who = record {
  order = receive_order arch who;
  queued = length (ports_used arch who is_queued);
  phase = Starting;
  owed = false;
  slots = slots_from 0 arch who arch.ports;
}

abbrev pub threads_from : ℕ → ArchParts → List Pd → List Thread
threads_from number arch [] = []
threads_from number arch (pd ∷ pds) = opening_thread arch (record { 0 = number }) ∷ threads_from (number + 1) arch pds

-- a device receives all that waits, and so does a thread at an event or event data port of AllItems
abbrev pub takes_all : ArchParts → Port → Bool
takes_all arch port =
    (port.all && not (is_data_port port.kind)) || option_map_or (λ pd. is_device pd.role) (slice_get arch.pds port.owner.0) false

-- an empty queue
abbrev pub opening_queue : ArchParts → PortId → Port → Queue
opening_queue arch id port =
    record { room = port.size; whole = takes_all arch port; linked = has_sender arch.links id; items = [] }

abbrev pub queues_from : ℕ → ArchParts → List Port → List Queue
queues_from number arch [] = []
queues_from number arch (port ∷ ports) = opening_queue arch (record { 0 = number }) port ∷ queues_from (number + 1) arch ports

abbrev pub start_of : ArchParts → Services
start_of arch = record { threads = threads_from 0 arch arch.pds; queues = queues_from 0 arch arch.ports }

-- a state of this architecture's services
pub record IsStateOf (arch : ArchParts) (state : Services) : Type 0 where
  pub threads : length state.threads ≡ length arch.pds
  pub queues : length state.queues ≡ length arch.ports
