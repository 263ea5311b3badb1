use Rattle.std.proofs.Common.{◌≡◌, drop}
use Rattle.std.specs.List.{flat_map}
use Rattle.aadl_tree.specs.Layout.{written}
use Rattle.aadl_tree.specs.Packages.{import_tokens}
use Rattle.aadl_tree.proofs.printing.print_imports.Given as goal

abbrev pub invariant-loop-import : goal.invariant-loop-import
invariant-loop-import l = written l.page (flat_map import_tokens (drop l.import-index l.imports)) ≡ written l.initial.page (flat_map import_tokens l.imports)
