use Rattle.std.proofs.Common.{◌≡◌, drop}
use Rattle.std.specs.List.{flat_map}
use Rattle.aadl_tree.specs.Layout.{written}
use Rattle.aadl_tree.specs.Packages.{connection_tokens}
use Rattle.aadl_tree.proofs.print_sections.print_connections.Given as goal

abbrev pub invariant-loop-connection : goal.invariant-loop-connection
invariant-loop-connection l = written l.page (flat_map connection_tokens (drop l.connection-index l.connections)) ≡ written l.initial.page (flat_map connection_tokens l.connections)
