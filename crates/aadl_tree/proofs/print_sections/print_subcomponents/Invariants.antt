use Rattle.std.proofs.Common.{◌≡◌, drop}
use Rattle.std.specs.List.{flat_map}
use Rattle.aadl_tree.specs.Layout.{written}
use Rattle.aadl_tree.specs.Packages.{subcomponent_tokens}
use Rattle.aadl_tree.proofs.print_sections.print_subcomponents.Given as goal

abbrev pub invariant-loop-subcomponent : goal.invariant-loop-subcomponent
invariant-loop-subcomponent l = written l.page (flat_map subcomponent_tokens (drop l.subcomponent-index l.subcomponents)) ≡ written l.initial.page (flat_map subcomponent_tokens l.subcomponents)
