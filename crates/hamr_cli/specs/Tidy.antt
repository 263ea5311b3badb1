-- What `tidy MODEL` prints of a model.
use Rattle.std.specs.Prelude.{◌≡◌}
use Rattle.hw_text.specs.WholeTexts.{IsTextOf}
use Rattle.aadl_tree.specs.declared.package.Package.{Package}
use Rattle.aadl_tree.specs.Layout.{canonical_text}
use Rattle.aadl_parse.specs.Printed.{IsWithinLimits}
use Rattle.aadl_parse.specs.Rules.{model_rules}
use Rattle.hamr_cli.specs.declared.status.Status.TheVariants as status
use Rattle.hamr_cli.specs.declared.report.Report.{Report}

-- its canonical text
abbrev pub tidied : Package → Report
tidied p = record { text = canonical_text p; status = status.Done }

-- a text of a model of which the same is printed
pub record IsTidyText (report : Report) : Type 0 where
  pub tree : Package
  pub is_text : IsTextOf model_rules report.text tree
  pub same : tidied tree ≡ report

-- its canonical text, which is left as it is where it is within the limits
pub record IsTidied (p : Package) (report : Report) : Type 0 where
  pub reported : report ≡ tidied p
  pub stays : IsWithinLimits p → IsTidyText report
