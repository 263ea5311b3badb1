use Rattle.std.proofs.Common.{ap, ◌∙◌}
use Rattle.std.specs.List.{flat_map}
use Rattle.aadl_tree.specs.declared.page.Page.{Page}
use Rattle.aadl_tree.specs.Canonical.{behind_comma, qualified_tokens}
use Rattle.aadl_tree.specs.Layout.{written}
use Rattle.aadl_tree.proofs.Writing.{each_step}
use Rattle.aadl_tree.proofs.printing.print_other_names.Goals as goal

pub loop-name-preserved : goal.loop-name-preserved
loop-name-preserved c =
    each_step (behind_comma qualified_tokens) c.args.names.now c.loop-name.name-index c.name-item.result c.loop-name.page c.print.new.page
    (written c.args.page.now (flat_map (behind_comma qualified_tokens) c.args.names.now)) c.loop-name-test.true c.name-item.is (c.in_ok-print.ensures ∙ ap (λ (p : Page). written p (qualified_tokens c.name-item.result)) c.in_ok-mark.ensures) c.loop-name.invariant
