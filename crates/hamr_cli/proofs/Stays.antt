-- What `tidy` printed is left as it is.
use Rattle.std.proofs.Common.{◌≡◌, ℕ, List, Option, Some, refl, sym, ap, ◌∙◌, subst, inl, inr}
use Rattle.std.proofs.lemmas.Option.{same_Some}
use Rattle.hw_text.specs.WholeTexts.{IsTextOf}
use Rattle.aadl_tree.specs.declared.package.Package.{Package}
use Rattle.aadl_tree.specs.Allowed.{AreAllowed}
use Rattle.aadl_tree.specs.Layout.{laid_from}
use Rattle.aadl_tree.specs.Packages.{package_tokens}
use Rattle.aadl_tree.specs.declared.page.Margin.TheVariants.{LineStart}
use Rattle.aadl_tree.proofs.UnplacedTokens.{same-tokens}
use Rattle.aadl_parse.specs.Printed.{IsWithinLimits}
use Rattle.aadl_parse.specs.Rules.{model_rules}
use Rattle.aadl_parse.proofs.PrintedLaw.{printed}
use Rattle.hamr_cli.specs.declared.report.Report.{Report}
use Rattle.hamr_cli.specs.declared.status.Status.TheVariants as status
use Rattle.hamr_cli.specs.Output.{TidiedStays}
use Rattle.hamr_cli.specs.ModelFile.{HoldsPackage, OnModel}
use Rattle.hamr_cli.specs.Tidy.{tidied, IsTidyText, IsTidied}

-- the canonical text of a package is, within the limits, a text of a package that has the same
pub tidy-text : (p : Package) → AreAllowed (package_tokens p) → IsWithinLimits p → IsTidyText (tidied p)
tidy-text p allowed limits =
    let text = printed p allowed limits in
    record {
      tree = text.0;
      is_text = text.1;
      same = ap (λ (bs : List ℕ). record { text = bs; status = status.Done }) (ap (laid_from LineStart) (sym (same-tokens p text.0 text.2)));
    }

-- what is printed of a model that is tidy
of_tidy : (after : List ℕ → Option (List ℕ)) (file : List ℕ) (report again : Report) → IsTidyText report → after file ≡ Some report.text → OnModel after file IsTidied again → again ≡ report
of_tidy after file report again tidy_text held (inl refuses) =
    let bytes = same_Some refuses.bytes report.text (sym refuses.model_held ∙ held) in
    absurd (refuses.rejected.no_text tidy_text.tree (subst (λ (bs : List ℕ). IsTextOf model_rules bs tidy_text.tree) (sym bytes) tidy_text.is_text))
of_tidy after file report again tidy_text held (inr takes) =
    let bytes = same_Some takes.bytes report.text (sym takes.model_held ∙ held) in
    let tree = takes.accepted.only tidy_text.tree (subst (λ (bs : List ℕ). IsTextOf model_rules bs tidy_text.tree) (sym bytes) tidy_text.is_text) in
    takes.reports.reported ∙ ap tidied (sym tree) ∙ tidy_text.same

tidy-of : (held : List ℕ → Option (List ℕ)) (model : List ℕ) (p : Package) (report : Report) → HoldsPackage held model p → IsWithinLimits p → OnModel held model IsTidied report → IsTidyText report
tidy-of held model p report holds limits (inl refuses) =
    let bytes = same_Some refuses.bytes holds.bytes (sym refuses.model_held ∙ holds.model_held) in
    absurd (refuses.rejected.no_text p (subst (λ (bs : List ℕ). IsTextOf model_rules bs p) (sym bytes) holds.is_text))
tidy-of held model p report holds limits (inr takes) =
    let bytes = same_Some takes.bytes holds.bytes (sym takes.model_held ∙ holds.model_held) in
    let tree = takes.accepted.only p (subst (λ (bs : List ℕ). IsTextOf model_rules bs p) (sym bytes) holds.is_text) in
    takes.reports.stays (subst IsWithinLimits tree limits)

pub tidied-stays : TidiedStays
tidied-stays held after model file p output again holds limits gives kept gives' =
    let reports = of_tidy after file output.report again.report (tidy-of held model p output.report holds limits gives.reports) kept gives'.reports in
    let files : again.files ≡ output.files = gives'.no_files ∙ sym gives.no_files in
    rw (reports, files) refl
