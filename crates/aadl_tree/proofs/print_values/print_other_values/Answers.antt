use Rattle.std.proofs.Common.{ap, ◌∙◌}
use Rattle.std.specs.List.{flat_map}
use Rattle.aadl_tree.specs.declared.page.Page.{Page}
use Rattle.aadl_tree.specs.Canonical.{behind_comma}
use Rattle.aadl_tree.specs.Values.{value_tokens}
use Rattle.aadl_tree.specs.Layout.{written}
use Rattle.aadl_tree.proofs.Writing.{each_step}
use Rattle.aadl_tree.proofs.print_values.print_other_values.Goals as goal

pub loop-value-preserved : goal.loop-value-preserved
loop-value-preserved c =
    each_step (behind_comma value_tokens) c.args.values.now c.loop-value.value-index c.value-item.result c.loop-value.page c.print.new.page
    (written c.args.page.now (flat_map (behind_comma value_tokens) c.args.values.now)) c.loop-value-test.true c.value-item.is (c.in_ok-print.ensures ∙ ap (λ (p : Page). written p (value_tokens c.value-item.result)) c.in_ok-mark.ensures) c.loop-value.invariant
