use Rattle.std.proofs.Common.{◌≡◌, true, [], ◌∷◌, refl, ◌∙◌, inl, inr}
use Rattle.hamr_cli.specs.Answer.{IsDue}
use Rattle.hamr_cli.specs.Command.{judge}
use Rattle.hamr_cli.specs.Judge.{JudgeReports}
use Rattle.hamr_cli.specs.Package.{IsThin}
use Rattle.hamr_cli.specs.Status.{IsOfContent}
use Rattle.hamr_cli.specs.Inner.{IsUnread}
use Rattle.hamr_cli.proofs.Due.{output_due, refused_content, telling_store, unread_due, unread_earlier}
use Rattle.hamr_cli.proofs.Judged.{report-by, reports-earlier}
use Rattle.hamr_cli.proofs.outputs.run_judge.Goals as goal

pub returns-in_ok-refused_text-in-Refused-clause-due : goal.returns-in_ok-refused_text-in-Refused-clause-due
returns-in_ok-refused_text-in-Refused-clause-due g c =
    let store = g.S.Store.means c.args.store.now in
    let model = c.args.model.now in
    let asked = judge model c.args.trace.now in
    let report = c.in_ok-refused_text-in-Refused.field-0 in
    output_due asked store (g.S.Store.means c.read_model.new.store) report
    (refused_content model c.in-Refused.refusal report c.in_ok-refused_text-in-Refused.ensures)
    c.in_ok-tree.ensures.kept.held
    (λ input.
    let file = rw c.in-Refused.is at (c.in_ok-tree.ensures.text (telling_store store asked model (inl refl) input)) in
    record {
      reports = inl (record {
        bytes = file.bytes;
        model_held = file.model_held;
        refusal = c.in-Refused.refusal;
        rejected = file.is_text;
        reported = c.in_ok-refused_text-in-Refused.ensures;
      });
      no_files = refl;
    })

pub returns-in-Package-clause-due : goal.returns-in-Package-clause-due
returns-in-Package-clause-due g c =
    let before = g.S.Store.means c.args.store.now in
    let between = g.S.Store.means c.read_model.new.store in
    let after = g.S.Store.means c.judge_model.new.store in
    let model = c.args.model.now in
    let trace = c.args.trace.now in
    let asked = judge model trace in
    let tree = c.in-Package.tree in
    let read = c.in_ok-tree.ensures.kept in
    report-by c.judge_model.result (λ report. IsDue asked before after report)
    (λ report. IsOfContent report.status) (λ report. between.tells ≡ true → JudgeReports between.held model trace tree report)
    (λ report. IsUnread between after trace report) (λ report. IsThin tree)
    c.judge_model.ensures.content c.judge_model.ensures.given c.judge_model.ensures.stopped c.judge_model.ensures.thin
    (λ report content given. output_due asked before after report content (λ name. c.judge_model.ensures.kept name ∙ read.held name)
    (λ input.
    let tells = telling_store before asked model (inl refl) input in
    let file = rw c.in-Package.is at (c.in_ok-tree.ensures.text tells) in
    record {
      reports = inr (record {
        bytes = file.bytes;
        model_held = file.model_held;
        tree = tree;
        accepted = file.is_text;
        reports = reports-earlier before.held between.held model trace tree report read.held (given (read.tells ∙ tells));
      });
      no_files = refl;
    }))
    (λ report unread thin. unread_due asked before after trace report
    (record {
      named = inr refl;
      reads = λ tells.
          let file = rw c.in-Package.is at (c.in_ok-tree.ensures.text tells) in (
            model ∷ [],
            inr (record {
              behind = refl;
              is_trace = refl;
              thin = record {
                tree = tree;
                is_model = record { bytes = file.bytes; model_held = file.model_held; is_text = file.is_text.text };
                is_thin = thin;
              };
            }),
          );
    })
    (λ name. c.judge_model.ensures.kept name ∙ read.held name)
    (unread_earlier before between after trace report read unread))
