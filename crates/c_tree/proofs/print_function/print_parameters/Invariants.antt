use Rattle.std.proofs.Common.{◌≡◌, ◌++◌, drop, map}
use Rattle.std.specs.List.{flat_map}
use Rattle.c_tree.specs.Printing.{behind_comma}
use Rattle.c_tree.specs.Items.{parameter_text}
use Rattle.c_tree.proofs.print_function.print_parameters.Given as goal

abbrev pub invariant-loop-parameter : goal.invariant-loop-parameter
invariant-loop-parameter l =
    l.out ++ flat_map behind_comma (map parameter_text (drop l.parameter-index l.others)) ≡ l.initial.out ++ flat_map behind_comma (map parameter_text l.others)
