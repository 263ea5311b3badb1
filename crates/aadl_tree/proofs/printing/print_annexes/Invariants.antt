use Rattle.std.proofs.Common.{◌≡◌, drop}
use Rattle.std.specs.List.{flat_map}
use Rattle.aadl_tree.specs.Layout.{written}
use Rattle.aadl_tree.specs.Packages.{annex_tokens}
use Rattle.aadl_tree.proofs.printing.print_annexes.Given as goal

abbrev pub invariant-loop-annex : goal.invariant-loop-annex
invariant-loop-annex l = written l.page (flat_map annex_tokens (drop l.annex-index l.annexes)) ≡ written l.initial.page (flat_map annex_tokens l.annexes)
