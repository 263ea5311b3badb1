-- One thread: what it does in which phase, and what that leaves (this project's own, after the run-time services of AADL).
-- Nothing here knows of queues or of other domains.
use Rattle.std.specs.Prelude.{ℤ, true, false, Bool, ◌+◌, ◌==◌, ◌&&◌, List, [], ◌∷◌, map, Option, Some, None, if◌then◌else◌}
use Rattle.std.specs.List.{list_any}
use Rattle.std.specs.Option.{option_map}
use Rattle.arch_model.specs.declared.id.PortId.{PortId}
use Rattle.arch_model.specs.declared.usage.Usage.{Usage}
use Rattle.arch_model.specs.declared.usage.Usage.TheVariants as usage
use Rattle.arch_model.specs.Usage.{is_queued}
use Rattle.rts_rules.specs.declared.event.What.{What}
use Rattle.rts_rules.specs.declared.event.What.TheVariants as what
use Rattle.rts_rules.specs.declared.phase.Phase.{Phase}
use Rattle.rts_rules.specs.declared.phase.Phase.TheVariants.{Starting, Idle, Receiving, Computing, Sending}
use Rattle.rts_rules.specs.declared.slot.Slot.{Slot}
use Rattle.rts_rules.specs.declared.thread.Thread.{Thread}

-- a list of items has one
abbrev pub has_item : List (List ℤ) → Bool
has_item [] = false
has_item (item ∷ items) = true

-- something was frozen at a connected event or event data port
abbrev pub has_arrived : List Slot → Bool
has_arrived slots = list_any (λ slot. is_queued slot.usage && has_item slot.frozen) slots

-- the port and the value of the first connected out port, as declared, that holds one
abbrev pub sent_or : Usage → Option (List ℤ) → PortId → Option (PortId × List ℤ) → Option (PortId × List ℤ)
sent_or usage.Sent (Some value) port later = Some (port, value)
sent_or usage.Sent None port later = later
sent_or usage.Queued held port later = later
sent_or usage.Sampled held port later = later
sent_or usage.Unlinked held port later = later

abbrev pub next_sent : List Slot → Option (PortId × List ℤ)
next_sent [] = None
next_sent (slot ∷ slots) = sent_or slot.usage slot.held slot.port (next_sent slots)

-- the phase behind a receive
abbrev pub next_phase : Phase → Phase
next_phase Starting = Starting
next_phase Idle = Idle
next_phase (Receiving number) = Receiving (number + 1)
next_phase Computing = Computing
next_phase Sending = Sending

-- the slot of a port, changed
abbrev pub changed_slot : PortId → (Slot → Slot) → List Slot → List Slot
changed_slot port change [] = []
changed_slot port change (slot ∷ slots) =
    if slot.port.0 == port.0 then change slot ∷ slots else slot ∷ changed_slot port change slots

-- the value that is kept behind a receive of these items
abbrev pub kept_from : List (List ℤ) → List ℤ → List ℤ
kept_from [] old = old
kept_from (item ∷ items) old = item

-- the items are frozen; a data port keeps its item as its value
abbrev pub frozen : List (List ℤ) → Slot → Slot
frozen items slot = record slot { frozen = items; kept = option_map (kept_from items) slot.kept }

abbrev pub holding : Option (List ℤ) → Slot → Slot
holding held slot = record slot { held = held }

-- what the thread's event leaves of it
abbrev pub left_of_thread : Thread → What → Thread
left_of_thread thread what.Tick = record thread { owed = true }
left_of_thread thread what.Init = record thread { phase = Computing }
left_of_thread thread what.Begin = record thread { phase = Receiving 0; owed = false }
left_of_thread thread what.Void = record thread { phase = Idle }
left_of_thread thread what.Compute = record thread { phase = Computing }
left_of_thread thread what.Send = record thread { phase = Sending }
left_of_thread thread what.End = record thread { phase = Idle; slots = map (holding None) thread.slots }
left_of_thread thread (what.Receive port items) =
    record thread { phase = next_phase thread.phase; slots = changed_slot port (frozen items) thread.slots }
left_of_thread thread (what.Put port value) = record thread { slots = changed_slot port (holding (Some value)) thread.slots }
left_of_thread thread (what.Release port value) = record thread { slots = changed_slot port (holding None) thread.slots }
left_of_thread thread (what.Verdict clause holds) = thread
