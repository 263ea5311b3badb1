-- From what was read to what is judged.
use Rattle.std.proofs.Common.{◌≡◌, ◌∙◌, ℕ, List, Option, Result, Ok, Err, IfOk, sym}
use Rattle.hamr_cli.specs.declared.report.Report.{Report}
use Rattle.aadl_tree.specs.declared.package.Package.{Package}
use Rattle.arch_model.specs.declared.parts.ArchParts.{ArchParts}
use Rattle.hw_text.specs.declared.no_memory.NoMemory.{NoMemory}
use Rattle.hamr_cli.specs.declared.files.Stop.{Stop}
use Rattle.hamr_cli.specs.declared.files.Stop.TheVariants as stop
use Rattle.hamr_cli.specs.Inner.{OnStopped, OnReport, UnreadAs}
use Rattle.hamr_cli.specs.declared.judgement.Judgement.{Judgement}
use Rattle.hamr_cli.specs.declared.judgement.Judgement.TheVariants as judgement
use Rattle.hamr_cli.specs.declared.trace.fault.TraceFault.{TraceFault}
use Rattle.hamr_cli.specs.declared.trace.fault.TraceFault.TheVariants as fault
use Rattle.hamr_cli.specs.declared.trace.line.Line.{Line}
use Rattle.hamr_cli.specs.Judge.{IsJudgedTrace, IsJudgedBy, IsJudged, JudgeReports}
use Rattle.hamr_cli.specs.Trace.{IsTraceOf, IsFirstBadLine}
use Rattle.hamr_cli.specs.TraceFault.{OnBadLine, GivesTrace, GivesBadLine}

-- a trace that was not read
pub unread_trace : (arch : ArchParts) (bytes : List ℕ) (f : TraceFault) (answer : Result Judgement NoMemory) → UnreadAs f answer →
    OnBadLine {X = List Line} (Err f) (λ number. IsFirstBadLine arch bytes number) →
    ((lines : List Line) → IsTraceOf arch bytes lines → GivesTrace (Err f) lines) →
    ((number : ℕ) → IsFirstBadLine arch bytes number → GivesBadLine {X = List Line} (Err f) number) →
    IfOk answer (λ found. IsJudgedTrace arch bytes found)
unread_trace arch bytes (fault.BadLine number) answer ends first none only =
    rw ends (record { first = first; only = λ other is. sym (only other is); none = none })
unread_trace arch bytes fault.NoMemory answer ends first none only = rw ends tt

pub IfOk-map : (answer : Result Judgement Stop) (P Q : Judgement → Type 0) → ((found : Judgement) → P found → Q found) → IfOk answer P → IfOk answer Q
IfOk-map (Ok found) P Q each held = each found held
IfOk-map (Err stop) P Q each held = tt

pub judged-by : (held : List ℕ → Option (List ℕ)) (tree : Package) (trace : List ℕ) (found : Judgement) → IsJudgedBy held tree trace found → IsJudged held tree trace found
judged-by held tree trace judgement.NotBuilt by = absurd by.judged.judged
judged-by held tree trace (judgement.BadLine number) by = by
judged-by held tree trace judgement.Legal by = by
judged-by held tree trace (judgement.Illegal number rule) by = by

-- what holds of a command's own report, and what of a report in its place, is a fact of what is printed
pub report-by : (given : Result Report Stop) (Due Content Given Unread Thin : Report → Type 0) →
    IfOk given Content → IfOk given Given → OnStopped given Unread → OnStopped given Thin →
    ((report : Report) → Content report → Given report → Due report) → ((report : Report) → Unread report → Thin report → Due report) → OnReport given Due
report-by (Ok report) Due Content Given Unread Thin content given unread thin own other = own report content given
report-by (Err (stop.Instead report)) Due Content Given Unread Thin content given unread thin own other = other report unread thin
report-by (Err stop.NoMemory) Due Content Given Unread Thin content given unread thin own other = tt

-- a fact of every report is one of the report in the place of a result
pub OnStopped-all : {X : Type 0} (answer : Result X Stop) (Q : Report → Type 0) → ((report : Report) → Q report) → OnStopped answer Q
OnStopped-all (Ok x) Q each = tt
OnStopped-all (Err (stop.Instead report)) Q each = each report
OnStopped-all (Err stop.NoMemory) Q each = tt

-- the report on files that were held before
judged-earlier : (held after : List ℕ → Option (List ℕ)) (tree : Package) (trace : List ℕ) (found : Judgement) → ((name : List ℕ) → after name ≡ held name) → IsJudgedBy after tree trace found → IsJudgedBy held tree trace found
judged-earlier held after tree trace found kept by = record {
  arch = by.arch;
  is_thin = by.is_thin;
  only = by.only;
  judged = record {
    bytes = by.judged.bytes;
    trace_held = sym (kept trace) ∙ by.judged.trace_held;
    judged = by.judged.judged;
  };
}

earlier : (held after : List ℕ → Option (List ℕ)) (tree : Package) (trace : List ℕ) (found : Judgement) → ((name : List ℕ) → after name ≡ held name) → IsJudged after tree trace found → IsJudged held tree trace found
earlier held after tree trace judgement.NotBuilt kept by = by
earlier held after tree trace (judgement.BadLine number) kept by = judged-earlier held after tree trace (judgement.BadLine number) kept by
earlier held after tree trace judgement.Legal kept by = judged-earlier held after tree trace judgement.Legal kept by
earlier held after tree trace (judgement.Illegal number rule) kept by = judged-earlier held after tree trace (judgement.Illegal number rule) kept by

pub reports-earlier : (held after : List ℕ → Option (List ℕ)) (model trace : List ℕ) (tree : Package) (report : Report) → ((name : List ℕ) → after name ≡ held name) → JudgeReports after model trace tree report → JudgeReports held model trace tree report
reports-earlier held after model trace tree report kept reports = record {
  found = reports.found;
  judged = earlier held after tree trace reports.found kept reports.judged;
  reported = reports.reported;
}
