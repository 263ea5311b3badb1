-- What `judge MODEL TRACE` prints of a model, by the bytes of the trace.
use Rattle.std.specs.Prelude.{◌≡◌, ℕ, List, [], ◌∷◌, ◌++◌, codes, map, Option, Some}
use Rattle.std.specs.Fmt.{decimal}
use Rattle.arch_model.specs.declared.parts.ArchParts.{ArchParts}
use Rattle.rts_rules.specs.declared.event.Event.{Event}
use Rattle.rts_rules.specs.declared.rule.Rule.{Rule}
use Rattle.rts_rules.specs.Rule.{word_of}
use Rattle.rts_rules.specs.Run.{IsServiceRun, IsFirstIllegal}
use Rattle.hamr_cli.specs.declared.status.Status.TheVariants as status
use Rattle.hamr_cli.specs.declared.report.Report.{Report}
use Rattle.hamr_cli.specs.declared.judgement.Judgement.{Judgement}
use Rattle.hamr_cli.specs.declared.judgement.Judgement.TheVariants as judgement
use Rattle.hamr_cli.specs.declared.trace.line.Line.{Line}
use Rattle.hamr_cli.specs.Cause.{report_of, refused, not_built, bad_line}
use Rattle.aadl_tree.specs.declared.package.Package.{Package}
use Rattle.hamr_cli.specs.ModelFile.{HoldsPackage}
use Rattle.hamr_cli.specs.Package.{IsThinPackage}
use Rattle.hamr_cli.specs.Trace.{IsTraceOf, IsFirstBadLine}

abbrev pub events_of : List Line → List Event
events_of lines = map (λ line. line.event) lines

-- no rule allows the event of this line, and so the trace is no run
pub record IsIllegalAt (arch : ArchParts) (events : List Event) (number : ℕ) (rule : Rule) : Type 0 where
  pub first : IsFirstIllegal arch events number rule
  pub no_run : IsServiceRun arch events → ⊥

-- what the rules say of a list of events
abbrev pub IsVerdict : ArchParts → List Event → Judgement → Type 0
IsVerdict arch events judgement.NotBuilt = ⊥
IsVerdict arch events (judgement.BadLine number) = ⊥
IsVerdict arch events judgement.Legal = IsServiceRun arch events
IsVerdict arch events (judgement.Illegal number rule) = IsIllegalAt arch events number rule

-- the lines of the trace, these and no others, and what the rules say of them
pub record HasLines (arch : ArchParts) (bytes : List ℕ) (Says : List Event → Type 0) : Type 0 where
  pub lines : List Line
  pub text : IsTraceOf arch bytes lines
  pub only : (others : List Line) → IsTraceOf arch bytes others → others ≡ lines
  pub says : Says (events_of lines)

-- the bytes are no trace, and this is the line to be named
pub record IsBadTrace (arch : ArchParts) (bytes : List ℕ) (number : ℕ) : Type 0 where
  pub first : IsFirstBadLine arch bytes number
  pub only : (other : ℕ) → IsFirstBadLine arch bytes other → other ≡ number
  pub none : (lines : List Line) → IsTraceOf arch bytes lines → ⊥

-- what the bytes of the trace are to this architecture
abbrev pub IsJudgedTrace : ArchParts → List ℕ → Judgement → Type 0
IsJudgedTrace arch bytes judgement.NotBuilt = ⊥
IsJudgedTrace arch bytes (judgement.BadLine number) = IsBadTrace arch bytes number
IsJudgedTrace arch bytes judgement.Legal = HasLines arch bytes (IsServiceRun arch)
IsJudgedTrace arch bytes (judgement.Illegal number rule) = HasLines arch bytes (λ events. IsIllegalAt arch events number rule)

-- the trace in the file is judged
pub record IsJudgedFile (held : List ℕ → Option (List ℕ)) (arch : ArchParts) (trace : List ℕ) (found : Judgement) : Type 0 where
  pub bytes : List ℕ
  pub trace_held : held trace ≡ Some bytes
  pub judged : IsJudgedTrace arch bytes found

-- the package is that of one architecture, and the trace is judged by it
pub record IsJudgedBy (held : List ℕ → Option (List ℕ)) (tree : Package) (trace : List ℕ) (found : Judgement) : Type 0 where
  pub arch : ArchParts
  pub is_thin : IsThinPackage tree arch
  pub only : (other : ArchParts) → IsThinPackage tree other → other ≡ arch
  pub judged : IsJudgedFile held arch trace found

-- what the package and the trace are
abbrev pub IsJudged : (List ℕ → Option (List ℕ)) → Package → List ℕ → Judgement → Type 0
IsJudged held tree trace judgement.NotBuilt = (arch : ArchParts) → IsThinPackage tree arch → ⊥
IsJudged held tree trace (judgement.BadLine number) = IsJudgedBy held tree trace (judgement.BadLine number)
IsJudged held tree trace judgement.Legal = IsJudgedBy held tree trace judgement.Legal
IsJudged held tree trace (judgement.Illegal number rule) = IsJudgedBy held tree trace (judgement.Illegal number rule)

abbrev pub legal_report : Report
legal_report = record { text = codes "legal" ++ 10 ∷ []; status = status.Done }

abbrev pub illegal_report : ℕ → Rule → Report
illegal_report number rule = record { text = codes "illegal " ++ decimal number ++ codes " " ++ word_of rule ++ 10 ∷ []; status = status.SomeFalse }

-- the report on that
abbrev pub report_of_judgement : List ℕ → List ℕ → Judgement → Report
report_of_judgement model trace judgement.NotBuilt = report_of (refused model not_built)
report_of_judgement model trace (judgement.BadLine number) = report_of (refused trace (bad_line number))
report_of_judgement model trace judgement.Legal = legal_report
report_of_judgement model trace (judgement.Illegal number rule) = illegal_report number rule

-- the report on a model and the trace in the file
pub record JudgeReports (held : List ℕ → Option (List ℕ)) (model trace : List ℕ) (tree : Package) (report : Report) : Type 0 where
  pub found : Judgement
  pub judged : IsJudged held tree trace found
  pub reported : report ≡ report_of_judgement model trace found

-- both files are accepted: the one is a thin model, and the other a trace of it
pub record AreAccepted (held : List ℕ → Option (List ℕ)) (model trace : List ℕ) : Type 0 where
  pub tree : Package
  pub is_model : HoldsPackage held model tree
  pub arch : ArchParts
  pub is_thin : IsThinPackage tree arch
  pub trace_bytes : List ℕ
  pub trace_held : held trace ≡ Some trace_bytes
  pub lines : List Line
  pub is_trace : IsTraceOf arch trace_bytes lines
