-- The receivers of ports, as lists that are made once.
use Rattle.std.specs.Prelude.{◌≡◌, ℕ, ◌<◌, List, length, slice_index_or}
use Rattle.arch_model.specs.declared.id.PortId.{PortId}
use Rattle.arch_model.specs.declared.link.Link.{Link}
use Rattle.arch_model.specs.declared.receivers.Receivers.{Receivers}
use Rattle.arch_model.specs.LookUp.{receivers_of}

-- the receivers that are still to come
abbrev pub receivers_left : Receivers → List PortId
receivers_left it = it.ports.now

-- the receivers of each of so many ports
pub record AreReceivers (links : List Link) (ports : ℕ) (lists : List (List PortId)) : Type 0 where
  pub many : length lists ≡ ports
  pub each : (number : ℕ) (d : List PortId) → number < ports → slice_index_or lists number d ≡ receivers_of links (record { 0 = number })
