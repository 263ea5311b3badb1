use Rattle.std.proofs.Common.{◌≡◌, drop}
use Rattle.std.specs.List.{flat_map}
use Rattle.aadl_tree.specs.Canonical.{behind_colons}
use Rattle.aadl_tree.specs.Layout.{written}
use Rattle.aadl_tree.proofs.print_names.print_behind_colons.Given as goal

abbrev pub invariant-loop-name : goal.invariant-loop-name
invariant-loop-name l = written l.page (flat_map behind_colons (drop l.name-index l.names)) ≡ written l.initial.page (flat_map behind_colons l.names)
