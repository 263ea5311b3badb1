use Rattle.std.specs.List.{flat_map}
use Rattle.aadl_tree.specs.Packages.{feature_tokens}
use Rattle.aadl_tree.specs.Layout.{written}
use Rattle.aadl_tree.proofs.Writing.{each_step}
use Rattle.aadl_tree.proofs.print_sections.print_features.Goals as goal

pub loop-feature-preserved : goal.loop-feature-preserved
loop-feature-preserved c =
    each_step feature_tokens c.args.features.now c.loop-feature.feature-index c.feature-item.result c.loop-feature.page c.print.new.page
    (written c.word.new.self (flat_map feature_tokens c.args.features.now)) c.loop-feature-test.true c.feature-item.is c.in_ok-print.ensures c.loop-feature.invariant
