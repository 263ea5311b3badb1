use Rattle.std.proofs.Common.{◌≡◌, ◌++◌, drop, map}
use Rattle.std.specs.List.{flat_map}
use Rattle.c_tree.specs.Expressions.{selector_text}
use Rattle.c_tree.proofs.expression.+printer.Given as goal

abbrev pub invariant-Lvalue::print-loop-part : goal.invariant-Lvalue::print-loop-part
invariant-Lvalue::print-loop-part l =
    l.out ++ flat_map (λ t. t) (map selector_text (drop l.part-index l.part-items)) ≡ l.initial.out ++ flat_map (λ t. t) (map selector_text l.part-items)
