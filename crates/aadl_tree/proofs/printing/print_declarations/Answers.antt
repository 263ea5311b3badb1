use Rattle.std.specs.List.{flat_map}
use Rattle.aadl_tree.specs.Packages.{declaration_tokens}
use Rattle.aadl_tree.specs.Layout.{written}
use Rattle.aadl_tree.proofs.Writing.{each_step}
use Rattle.aadl_tree.proofs.printing.print_declarations.Goals as goal

pub loop-declaration-preserved : goal.loop-declaration-preserved
loop-declaration-preserved c =
    each_step declaration_tokens c.args.declarations.now c.loop-declaration.declaration-index c.declaration-item.result c.loop-declaration.page c.print.new.page
    (written c.args.page.now (flat_map declaration_tokens c.args.declarations.now)) c.loop-declaration-test.true c.declaration-item.is c.in_ok-print.ensures c.loop-declaration.invariant
