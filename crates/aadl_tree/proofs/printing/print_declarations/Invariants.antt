use Rattle.std.proofs.Common.{◌≡◌, drop}
use Rattle.std.specs.List.{flat_map}
use Rattle.aadl_tree.specs.Layout.{written}
use Rattle.aadl_tree.specs.Packages.{declaration_tokens}
use Rattle.aadl_tree.proofs.printing.print_declarations.Given as goal

abbrev pub invariant-loop-declaration : goal.invariant-loop-declaration
invariant-loop-declaration l = written l.page (flat_map declaration_tokens (drop l.declaration-index l.declarations)) ≡ written l.initial.page (flat_map declaration_tokens l.declarations)
