use Rattle.std.proofs.Common.{◌≡◌, drop}
use Rattle.std.specs.List.{flat_map}
use Rattle.aadl_tree.specs.Canonical.{behind_comma}
use Rattle.aadl_tree.specs.Layout.{written}
use Rattle.aadl_tree.specs.Values.{value_tokens}
use Rattle.aadl_tree.proofs.print_values.print_other_values.Given as goal

abbrev pub invariant-loop-value : goal.invariant-loop-value
invariant-loop-value l = written l.page (flat_map (behind_comma value_tokens) (drop l.value-index l.values)) ≡ written l.initial.page (flat_map (behind_comma value_tokens) l.values)
