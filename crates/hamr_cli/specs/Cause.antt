-- The one table from causes to the line that is printed and the status (this project's own; README).
use Rattle.std.specs.Prelude.{ℕ, pos, List, [], ◌∷◌, ◌++◌, codes}
use Rattle.hw_text.specs.declared.code.Code.TheVariants as code
use Rattle.hw_text.specs.declared.document.Document.{Document}
use Rattle.hw_text.specs.declared.document.Document.TheVariants as document
use Rattle.hw_text.specs.declared.refusal.Refusal.{Refusal}
use Rattle.hw_text.specs.Code.{document_of}
use Rattle.hw_text.specs.Refusal.{refusal_line}
use Rattle.hamr_cli.specs.declared.status.Status.{Status}
use Rattle.hamr_cli.specs.declared.status.Status.TheVariants as status
use Rattle.hamr_cli.specs.declared.report.Report.{Report}

-- why a command gives nothing of its own
pub data Cause : Type 0 where
  words : Cause
  refused : List ℕ → Refusal → Cause
  absent : List ℕ → Cause
  read_fault : List ℕ → Cause
  write_fault : List ℕ → Cause

-- the status of a refused text
abbrev pub status_of_document : Document → Status
status_of_document document.Model = status.Model
status_of_document document.Contract = status.Model
status_of_document document.UserCode = status.User
status_of_document document.Trace = status.RunFile
status_of_document document.RunFile = status.RunFile

abbrev pub status_of : Cause → Status
status_of words = status.Words
status_of (refused file refusal) = status_of_document (document_of refusal.code)
status_of (absent file) = status.Absent
status_of (read_fault file) = status.ReadFault
status_of (write_fault file) = status.WriteFault

abbrev pub line_of : Cause → List ℕ
line_of words = codes "refused words" ++ 10 ∷ []
line_of (refused file refusal) = refusal_line file refusal
line_of (absent file) = codes "refused " ++ file ++ codes " absent" ++ 10 ∷ []
line_of (read_fault file) = codes "refused " ++ file ++ codes " read" ++ 10 ∷ []
line_of (write_fault file) = codes "refused " ++ file ++ codes " write" ++ 10 ∷ []

-- the report on a cause
abbrev pub report_of : Cause → Report
report_of cause = record { text = line_of cause; status = status_of cause }

-- the model is none of those that this version reads
abbrev pub not_built : Refusal
not_built = record { code = code.ModelNotBuilt; place = record { line = 1; column = 1 }; word = []; low = pos 0; high = pos 0; length = pos 0 }

-- a line of the trace has not the form
abbrev pub bad_line : ℕ → Refusal
bad_line number = record { code = code.TraceBadLine; place = record { line = 0; column = 0 }; word = []; low = pos number; high = pos 0; length = pos 0 }
