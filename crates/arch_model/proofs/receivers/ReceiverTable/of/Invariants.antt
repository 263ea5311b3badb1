use Rattle.std.proofs.Common.{◌≡◌, ℕ, ◌<◌, List, [], length, take, get_or}
use Rattle.arch_model.specs.declared.id.PortId.{PortId}
use Rattle.arch_model.specs.Receivers.{AreReceivers}
use Rattle.arch_model.proofs.receivers.ReceiverTable.of.Given as goal

abbrev pub invariant-loop-port : goal.invariant-loop-port
invariant-loop-port l = record {
  many : length l.lists.items ≡ l._port;
  each : (k : ℕ) (d : List PortId) → k < l._port → get_or l.lists.items k d ≡ [];
}

abbrev pub invariant-loop-link : goal.invariant-loop-link
invariant-loop-link l = AreReceivers (take l.link-index l.links) l.ports l.lists.items
