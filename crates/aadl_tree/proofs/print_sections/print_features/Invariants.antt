use Rattle.std.proofs.Common.{◌≡◌, drop}
use Rattle.std.specs.List.{flat_map}
use Rattle.aadl_tree.specs.Layout.{written}
use Rattle.aadl_tree.specs.Packages.{feature_tokens}
use Rattle.aadl_tree.proofs.print_sections.print_features.Given as goal

abbrev pub invariant-loop-feature : goal.invariant-loop-feature
invariant-loop-feature l = written l.page (flat_map feature_tokens (drop l.feature-index l.features)) ≡ written l.initial.page (flat_map feature_tokens l.features)
