use Rattle.std.proofs.Common.{◌≡◌, List, ℕ, ap, sym, subst}
use Rattle.hamr_cli.specs.declared.report.Report.{Report}
use Rattle.hamr_cli.specs.declared.status.Status.TheVariants as status
use Rattle.hamr_cli.specs.Tidy.{tidied, IsTidyText}
use Rattle.hamr_cli.proofs.Stays.{tidy-text}
use Rattle.hamr_cli.proofs.tidy.tidy.Goals as goal

pub returns : goal.returns
returns c =
    let p = c.args.tree.now in
    let report : Report = record { text = c.in_ok-print.field-0; status = status.Done } in
    let is : report ≡ tidied p = ap (λ (bs : List ℕ). record { text = bs; status = status.Done }) c.in_ok-print.ensures.text in
    record { reported = is; stays = λ limits. subst IsTidyText (sym is) (tidy-text p c.in_ok-print.ensures.allowed limits) }
