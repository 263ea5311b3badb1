use Rattle.std.proofs.Common.{◌≡◌, ◌++◌, drop}
use Rattle.std.specs.List.{flat_map}
use Rattle.c_tree.specs.Items.{item_text}
use Rattle.c_tree.proofs.unit.print.Given as goal

abbrev pub invariant-loop-item : goal.invariant-loop-item
invariant-loop-item l =
    l.out ++ flat_map item_text (drop l.item-index l.item-items) ≡ l.initial.out ++ flat_map item_text l.item-items
