use Rattle.std.specs.List.{flat_map}
use Rattle.aadl_tree.specs.Packages.{annex_tokens}
use Rattle.aadl_tree.specs.Layout.{written}
use Rattle.aadl_tree.proofs.Writing.{each_step}
use Rattle.aadl_tree.proofs.printing.print_annexes.Goals as goal

pub loop-annex-preserved : goal.loop-annex-preserved
loop-annex-preserved c =
    each_step annex_tokens c.args.annexes.now c.loop-annex.annex-index c.annex-item.result c.loop-annex.page c.print.new.page
    (written c.args.page.now (flat_map annex_tokens c.args.annexes.now)) c.loop-annex-test.true c.annex-item.is c.in_ok-print.ensures c.loop-annex.invariant
