use Rattle.std.proofs.Common.{refl, sym, subst, inl, inr}
use Rattle.hamr_cli.specs.declared.report.Report.{Report}
use Rattle.hamr_cli.specs.Command.{tidy}
use Rattle.hamr_cli.specs.Status.{IsOfContent}
use Rattle.hamr_cli.proofs.Due.{output_due, refused_content, telling_store}
use Rattle.hamr_cli.proofs.outputs.run_tidy.Goals as goal

pub returns-in_ok-tidy-in-Package-clause-due : goal.returns-in_ok-tidy-in-Package-clause-due
returns-in_ok-tidy-in-Package-clause-due g c =
    let store = g.S.Store.means c.args.store.now in
    let model = c.args.model.now in
    let report = c.in_ok-tidy-in-Package.field-0 in
    output_due (tidy model) store (g.S.Store.means c.read_model.new.store) report
    (subst (λ (r : Report). IsOfContent r.status) (sym c.in_ok-tidy-in-Package.ensures.reported) (inl refl))
    c.in_ok-tree.ensures.kept.held
    (λ input.
    let file = rw c.in-Package.is at (c.in_ok-tree.ensures.text (telling_store store (tidy model) model refl input)) in
    record {
      reports = inr (record {
        bytes = file.bytes;
        model_held = file.model_held;
        tree = c.in-Package.tree;
        accepted = file.is_text;
        reports = c.in_ok-tidy-in-Package.ensures;
      });
      no_files = refl;
    })

pub returns-in_ok-refused_text-in-Refused-clause-due : goal.returns-in_ok-refused_text-in-Refused-clause-due
returns-in_ok-refused_text-in-Refused-clause-due g c =
    let store = g.S.Store.means c.args.store.now in
    let model = c.args.model.now in
    let report = c.in_ok-refused_text-in-Refused.field-0 in
    output_due (tidy model) store (g.S.Store.means c.read_model.new.store) report
    (refused_content model c.in-Refused.refusal report c.in_ok-refused_text-in-Refused.ensures)
    c.in_ok-tree.ensures.kept.held
    (λ input.
    let file = rw c.in-Refused.is at (c.in_ok-tree.ensures.text (telling_store store (tidy model) model refl input)) in
    record {
      reports = inl (record {
        bytes = file.bytes;
        model_held = file.model_held;
        refusal = c.in-Refused.refusal;
        rejected = file.is_text;
        reported = c.in_ok-refused_text-in-Refused.ensures;
      });
      no_files = refl;
    })
