use Rattle.std.proofs.Common.{◌≡◌, ◌++◌, drop, map}
use Rattle.std.specs.List.{flat_map}
use Rattle.c_tree.specs.Printing.{behind_comma}
use Rattle.c_tree.specs.Expressions.{argument_text}
use Rattle.c_tree.proofs.print_call.print_arguments.Given as goal

abbrev pub invariant-loop-argument : goal.invariant-loop-argument
invariant-loop-argument l =
    l.out ++ flat_map behind_comma (map argument_text (drop l.argument-index l.others)) ≡ l.initial.out ++ flat_map behind_comma (map argument_text l.others)
