use Rattle.std.specs.List.{flat_map}
use Rattle.aadl_tree.specs.Packages.{import_tokens}
use Rattle.aadl_tree.specs.Layout.{written}
use Rattle.aadl_tree.proofs.Writing.{each_step}
use Rattle.aadl_tree.proofs.printing.print_imports.Goals as goal

pub loop-import-preserved : goal.loop-import-preserved
loop-import-preserved c =
    each_step import_tokens c.args.imports.now c.loop-import.import-index c.import-item.result c.loop-import.page c.print.new.page
    (written c.args.page.now (flat_map import_tokens c.args.imports.now)) c.loop-import-test.true c.import-item.is c.in_ok-print.ensures c.loop-import.invariant
