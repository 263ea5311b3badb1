use Rattle.std.proofs.Common.{ap, ◌∙◌}
use Rattle.std.specs.List.{flat_map}
use Rattle.aadl_tree.specs.declared.page.Page.{Page}
use Rattle.aadl_tree.specs.Canonical.{behind_comma, path_tokens}
use Rattle.aadl_tree.specs.Layout.{written}
use Rattle.aadl_tree.proofs.Writing.{each_step}
use Rattle.aadl_tree.proofs.print_values.print_other_paths.Goals as goal

pub loop-path-preserved : goal.loop-path-preserved
loop-path-preserved c =
    let path = c.path-item.result in
    each_step (behind_comma path_tokens) c.args.paths.now c.loop-path.path-index path c.loop-path.page c.print.new.page
    (written c.args.page.now (flat_map (behind_comma path_tokens) c.args.paths.now)) c.loop-path-test.true c.path-item.is
    (c.in_ok-print.ensures ∙ ap (λ (p : Page). written p (path_tokens path)) c.in_ok-mark.ensures) c.loop-path.invariant
