-- What the functions below the top call answer. No clause of the top call cites this.
use Rattle.std.specs.Prelude.{◌≡◌, ◌⊎◌, ℕ, true, List, Option, Some, None, Result, Ok, Err}
use Rattle.hw_io.specs.Meaning.{StoreMeaning, SinkMeaning, ReadFailed, FoundNothing}
use Rattle.hamr_cli.specs.declared.report.Report.{Report}
use Rattle.hamr_cli.specs.declared.files.Stop.{Stop}
use Rattle.hamr_cli.specs.declared.files.Stop.TheVariants.{Instead, NoMemory}
use Rattle.hamr_cli.specs.declared.status.Status.{Status}
use Rattle.hamr_cli.specs.declared.status.Status.TheVariants as status
use Rattle.hamr_cli.specs.Answer.{IsPrinted}
use Rattle.hw_io.specs.Count.{NeverFalls}
use Rattle.hw_text.specs.declared.fault.Fault.{Fault}
use Rattle.hw_text.specs.declared.fault.Fault.TheVariants as fault
use Rattle.hw_text.specs.declared.no_memory.NoMemory.{NoMemory as Wanting}
use Rattle.rts_rules.specs.declared.fault.StepFault.{StepFault}
use Rattle.rts_rules.specs.declared.fault.StepFault.TheVariants as step
use Rattle.hamr_cli.specs.declared.judgement.Judgement.{Judgement}
use Rattle.hamr_cli.specs.declared.judgement.Judgement.TheVariants as judgement
use Rattle.hamr_cli.specs.declared.model_file.ModelText.{ModelText}
use Rattle.hamr_cli.specs.declared.model_file.ModelText.TheVariants as text
use Rattle.hamr_cli.specs.declared.trace.fault.TraceFault.{TraceFault}
use Rattle.hamr_cli.specs.declared.trace.fault.TraceFault.TheVariants as trace
use Rattle.hamr_cli.specs.Files.{HoldsTheSame}
use Rattle.hamr_cli.specs.ModelFile.{IsModelText}
use Rattle.hamr_cli.specs.Cause.{report_of, absent, read_fault}

-- P holds of the report in the place of a result
abbrev pub OnStopped : {X : Type 0} → Result X Stop → (Report → Type 0) → Type 0
OnStopped (Ok x) P = Unit {0}
OnStopped (Err (Instead report)) P = P report
OnStopped (Err NoMemory) P = Unit {0}

-- P holds of the report of the command, or of that in its place
abbrev pub OnReport : Result Report Stop → (Report → Type 0) → Type 0
OnReport (Ok report) P = P report
OnReport (Err (Instead report)) P = P report
OnReport (Err NoMemory) P = Unit {0}

-- the report was printed, or memory is wanting and nothing was
abbrev pub IsPrintedAs : Result Report Stop → SinkMeaning → SinkMeaning → Status → Type 0
IsPrintedAs (Ok report) before after answer = IsPrinted report before after answer
IsPrintedAs (Err (Instead report)) before after answer = IsPrinted report before after answer
IsPrintedAs (Err NoMemory) before after answer = (answer ≡ status.NoMemory) × (after.written ≡ before.written)

pub record ReportsAbsence (before after : StoreMeaning) (file : List ℕ) (report : Report) : Type 0 where
  pub rose : FoundNothing before after file
  pub missing : before.tells ≡ true → before.held file ≡ None
  pub reported : report ≡ report_of (absent file)

pub record ReportsFault (before after : StoreMeaning) (file : List ℕ) (report : Report) : Type 0 where
  pub rose : ReadFailed before after file
  pub reported : report ≡ report_of (read_fault file)

-- the file was absent or could not be read, and that is reported
abbrev pub IsUnread : StoreMeaning → StoreMeaning → List ℕ → Report → Type 0
IsUnread before after file report = ReportsAbsence before after file report ⊎ ReportsFault before after file report

-- no more was done to the store than reads
pub record IsOnlyRead (before after : StoreMeaning) : Type 0 where
  pub tells : after.tells ≡ before.tells
  pub held : HoldsTheSame before after
  pub read_faults : NeverFalls before.read_faults after.read_faults
  pub absences : NeverFalls before.absences after.absences

-- what the text in the file is
pub record FileIs (held : List ℕ → Option (List ℕ)) (model : List ℕ) (t : ModelText) : Type 0 where
  pub bytes : List ℕ
  pub model_held : held model ≡ Some bytes
  pub is_text : IsModelText bytes t

-- what is answered where the text was not read
abbrev pub ParsedAs : Fault → Result ModelText Wanting → Type 0
ParsedAs (fault.Refused r) answer = answer ≡ Ok (text.Refused r)
ParsedAs fault.NoMemory answer = answer ≡ Err (record {})

-- the answer where the trace was not read
abbrev pub UnreadAs : TraceFault → Result Judgement Wanting → Type 0
UnreadAs (trace.BadLine number) answer = answer ≡ Ok (judgement.BadLine number)
UnreadAs trace.NoMemory answer = answer ≡ Err (record {})

-- the answer where a step was not taken
abbrev pub EndsAs : StepFault → ℕ → Result Judgement Wanting → Type 0
EndsAs (step.Illegal rule) number answer = answer ≡ Ok (judgement.Illegal number rule)
EndsAs step.NoMemory number answer = answer ≡ Err (record {})
