use Rattle.std.specs.List.{flat_map}
use Rattle.aadl_tree.specs.Values.{association_tokens}
use Rattle.aadl_tree.specs.Layout.{written}
use Rattle.aadl_tree.proofs.Writing.{each_step}
use Rattle.aadl_tree.proofs.print_members.print_associations.Goals as goal

pub loop-association-preserved : goal.loop-association-preserved
loop-association-preserved c =
    each_step association_tokens c.args.associations.now c.loop-association.association-index c.association-item.result c.loop-association.page c.print.new.page
    (written c.args.page.now (flat_map association_tokens c.args.associations.now)) c.loop-association-test.true c.association-item.is c.in_ok-print.ensures c.loop-association.invariant
