use Rattle.std.specs.List.{flat_map}
use Rattle.aadl_tree.specs.Packages.{subcomponent_tokens}
use Rattle.aadl_tree.specs.Layout.{written}
use Rattle.aadl_tree.proofs.Writing.{each_step}
use Rattle.aadl_tree.proofs.print_sections.print_subcomponents.Goals as goal

pub loop-subcomponent-preserved : goal.loop-subcomponent-preserved
loop-subcomponent-preserved c =
    each_step subcomponent_tokens c.args.subcomponents.now c.loop-subcomponent.subcomponent-index c.subcomponent-item.result c.loop-subcomponent.page c.print.new.page
    (written c.word.new.self (flat_map subcomponent_tokens c.args.subcomponents.now)) c.loop-subcomponent-test.true c.subcomponent-item.is c.in_ok-print.ensures c.loop-subcomponent.invariant
