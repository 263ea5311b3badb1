use Rattle.std.proofs.Common.{◌≡◌, drop}
use Rattle.std.specs.List.{flat_map}
use Rattle.aadl_tree.specs.Canonical.{behind_dot}
use Rattle.aadl_tree.specs.Layout.{written}
use Rattle.aadl_tree.proofs.names.Path.print.Given as goal

abbrev pub invariant-loop-name : goal.invariant-loop-name
invariant-loop-name l = written l.page (flat_map behind_dot (drop l.name-index l.name-items)) ≡ written l.initial.page (flat_map behind_dot l.name-items)
