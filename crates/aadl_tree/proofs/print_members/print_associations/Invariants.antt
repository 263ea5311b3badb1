use Rattle.std.proofs.Common.{◌≡◌, drop}
use Rattle.std.specs.List.{flat_map}
use Rattle.aadl_tree.specs.Layout.{written}
use Rattle.aadl_tree.specs.Values.{association_tokens}
use Rattle.aadl_tree.proofs.print_members.print_associations.Given as goal

abbrev pub invariant-loop-association : goal.invariant-loop-association
invariant-loop-association l = written l.page (flat_map association_tokens (drop l.association-index l.associations)) ≡ written l.initial.page (flat_map association_tokens l.associations)
