use Rattle.std.proofs.Common.{◌≡◌, drop}
use Rattle.std.specs.List.{flat_map}
use Rattle.aadl_tree.specs.Canonical.{behind_comma, path_tokens}
use Rattle.aadl_tree.specs.Layout.{written}
use Rattle.aadl_tree.proofs.print_values.print_other_paths.Given as goal

abbrev pub invariant-loop-path : goal.invariant-loop-path
invariant-loop-path l = written l.page (flat_map (behind_comma path_tokens) (drop l.path-index l.paths)) ≡ written l.initial.page (flat_map (behind_comma path_tokens) l.paths)
