-- The output of each command, by what the store holds: what it prints, with which status, and the files that it writes.
use Rattle.std.specs.Prelude.{◌≡◌, ℕ, List, [], Option, Some}
use Rattle.aadl_tree.specs.declared.package.Package.{Package}
use Rattle.aadl_parse.specs.Printed.{IsWithinLimits}
use Rattle.hamr_cli.specs.declared.report.Report.{Report}
use Rattle.hamr_cli.specs.Command.{Command, judge, tidy}
use Rattle.hamr_cli.specs.Files.{File}
use Rattle.hamr_cli.specs.Judge.{JudgeReports, AreAccepted}
use Rattle.hamr_cli.specs.ModelFile.{OnModel, HoldsPackage}
use Rattle.hamr_cli.specs.Tidy.{IsTidied}

pub record Output : Type 0 where
  pub report : Report
  -- in the order in which they are written
  pub files : List File

-- this is printed, and nothing is written
pub record PrintsAlone (Reports : Report → Type 0) (output : Output) : Type 0 where
  pub reports : Reports output.report
  pub no_files : output.files ≡ []

abbrev pub Gives : (List ℕ → Option (List ℕ)) → Command → Output → Type 0
Gives held (judge model trace) output = PrintsAlone (OnModel held model (JudgeReports held model trace)) output
Gives held (tidy model) output = PrintsAlone (OnModel held model IsTidied) output

-- the files that the command reads are accepted
abbrev pub Accepts : (List ℕ → Option (List ℕ)) → Command → Type 0
Accepts held (judge model trace) = AreAccepted held model trace
Accepts held (tidy model) = (tree : Package) × HoldsPackage held model tree

-- what the files hold decides the output
abbrev pub OutputIsOne : Type 0
OutputIsOne = (held : List ℕ → Option (List ℕ)) (command : Command) (one other : Output) → Gives held command one → Gives held command other → one ≡ other

-- a file holds what `tidy` printed of a model, and that is within the limits: `tidy` of this file prints the same
abbrev pub TidiedStays : Type 0
TidiedStays =
    (held after : List ℕ → Option (List ℕ)) (model file : List ℕ) (tree : Package) (output again : Output) →
    HoldsPackage held model tree → IsWithinLimits tree → Gives held (tidy model) output →
    after file ≡ Some output.report.text → Gives after (tidy file) again → again ≡ output
