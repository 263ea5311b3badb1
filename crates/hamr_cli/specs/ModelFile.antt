-- The file of a model: what its bytes are, and what that means for a command that reads it.
use Rattle.std.specs.Prelude.{◌≡◌, ◌⊎◌, ℕ, List, Option, Some}
use Rattle.hw_text.specs.declared.refusal.Refusal.{Refusal}
use Rattle.hw_text.specs.WholeTexts.{IsTextOf, IsAccepted, IsRejected}
use Rattle.aadl_tree.specs.declared.package.Package.{Package}
use Rattle.aadl_parse.specs.Rules.{model_rules}
use Rattle.hamr_cli.specs.declared.report.Report.{Report}
use Rattle.hamr_cli.specs.declared.model_file.ModelText.{ModelText}
use Rattle.hamr_cli.specs.declared.model_file.ModelText.TheVariants as text
use Rattle.hamr_cli.specs.Cause.{report_of, refused}

-- what the bytes are: the text of this package alone, or a text that is refused so alone
abbrev pub IsModelText : List ℕ → ModelText → Type 0
IsModelText bytes (text.Package p) = IsAccepted model_rules bytes p
IsModelText bytes (text.Refused r) = IsRejected model_rules bytes r

-- the file holds a text of the package
pub record HoldsPackage (held : List ℕ → Option (List ℕ)) (model : List ℕ) (p : Package) : Type 0 where
  pub bytes : List ℕ
  pub model_held : held model ≡ Some bytes
  pub is_text : IsTextOf model_rules bytes p

-- the file holds no model, and that is reported
pub record RefusesModel (held : List ℕ → Option (List ℕ)) (model : List ℕ) (report : Report) : Type 0 where
  pub bytes : List ℕ
  pub model_held : held model ≡ Some bytes
  pub refusal : Refusal
  pub rejected : IsRejected model_rules bytes refusal
  pub reported : report ≡ report_of (refused model refusal)

-- the file holds a model, on which this is the report
pub record TakesModel (held : List ℕ → Option (List ℕ)) (model : List ℕ) (Reports : Package → Report → Type 0) (report : Report) : Type 0 where
  pub bytes : List ℕ
  pub model_held : held model ≡ Some bytes
  pub tree : Package
  pub accepted : IsAccepted model_rules bytes tree
  pub reports : Reports tree report

-- the output of a command that reads the file, by its report on a model
abbrev pub OnModel : (List ℕ → Option (List ℕ)) → List ℕ → (Package → Report → Type 0) → Report → Type 0
OnModel held model Reports report = RefusesModel held model report ⊎ TakesModel held model Reports report
