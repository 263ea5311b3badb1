use Rattle.std.proofs.Common.{◌≡◌, ◌++◌, drop, map}
use Rattle.std.specs.List.{flat_map}
use Rattle.c_tree.specs.Printing.{behind_comma}
use Rattle.c_tree.specs.Items.{name_text}
use Rattle.c_tree.proofs.print_typedef.print_enumerators.Given as goal

abbrev pub invariant-loop-named : goal.invariant-loop-named
invariant-loop-named l =
    l.out ++ flat_map behind_comma (map name_text (drop l.named-index l.others)) ≡ l.initial.out ++ flat_map behind_comma (map name_text l.others)
