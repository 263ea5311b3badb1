-- What domains use their ports for, and the order in which they receive (this project's own, after the run-time services of AADL).
use Rattle.std.specs.Prelude.{ℕ, true, false, Bool, ◌+◌, ◌==◌, ◌&&◌, List, [], ◌∷◌, ◌++◌, if◌then◌else◌}
use Rattle.std.specs.List.{list_any}
use Rattle.arch_model.specs.declared.parts.ArchParts.{ArchParts}
use Rattle.arch_model.specs.declared.port.Port.{Port}
use Rattle.arch_model.specs.declared.link.Link.{Link}
use Rattle.arch_model.specs.declared.id.PdId.{PdId}
use Rattle.arch_model.specs.declared.id.PortId.{PortId}
use Rattle.arch_model.specs.declared.kind.Kind.{Kind}
use Rattle.arch_model.specs.declared.kind.Kind.TheVariants as kind
use Rattle.arch_model.specs.declared.usage.Usage.{Usage}
use Rattle.arch_model.specs.declared.usage.Usage.TheVariants as usage

-- a link ends at the port
abbrev pub has_sender : List Link → PortId → Bool
has_sender links port = list_any (λ link. link.to.0 == port.0) links

-- a link begins at the port
abbrev pub has_receiver : List Link → PortId → Bool
has_receiver links port = list_any (λ link. link.from.0 == port.0) links

-- what a connected in port of this kind is used for
abbrev pub usage_in : Kind → Usage
usage_in kind.Sampled = usage.Sampled
usage_in kind.Event = usage.Queued
usage_in kind.EventItem = usage.Queued

-- whether a link begins at an out port, or ends at an in port
abbrev pub is_linked : List Link → PortId → Bool → Bool
is_linked links id outward = if outward then has_receiver links id else has_sender links id

abbrev pub usage_if : Bool → Bool → Kind → Usage
usage_if false outward kind = usage.Unlinked
usage_if true true kind = usage.Sent
usage_if true false kind = usage_in kind

abbrev pub usage_of : List Link → PortId → Port → Usage
usage_of links id port = usage_if (is_linked links id port.outward) port.outward port.kind

abbrev pub is_queued : Usage → Bool
is_queued usage.Queued = true
is_queued usage.Sampled = false
is_queued usage.Sent = false
is_queued usage.Unlinked = false

abbrev pub is_sampled : Usage → Bool
is_sampled usage.Queued = false
is_sampled usage.Sampled = true
is_sampled usage.Sent = false
is_sampled usage.Unlinked = false

-- the ports of a domain whose usage passes the test, as declared, the first port of the list having this number
abbrev pub ports_from : ℕ → List Link → PdId → (Usage → Bool) → List Port → List PortId
ports_from number links who passes [] = []
ports_from number links who passes (port ∷ ports) =
    if (port.owner.0 == who.0) && passes (usage_of links (record { 0 = number }) port)
    then (record { 0 = number }) ∷ ports_from (number + 1) links who passes ports
    else ports_from (number + 1) links who passes ports

abbrev pub ports_used : ArchParts → PdId → (Usage → Bool) → List PortId
ports_used arch who passes = ports_from 0 arch.links who passes arch.ports

-- the order in which a domain receives: at its connected event and event data ports as declared, then at its connected data
-- ports as declared
unfoldable pub receive_order : ArchParts → PdId → List PortId
receive_order arch who = ports_used arch who is_queued ++ ports_used arch who is_sampled
