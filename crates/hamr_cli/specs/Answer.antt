-- The answer of a call: what it prints and writes and its status, from the words, and the outside before and after.
use Rattle.std.specs.Prelude.{◌≡◌, ◌⊎◌, ℕ, true, List, length, take, Some, None, slice_get}
use Rattle.hw_io.specs.Meaning.{StoreMeaning, SinkMeaning, ReadFailed, WriteFailed, FoundNothing, SinkFailed}
use Rattle.hw_io.specs.Written.{Appends, SentPart}
use Rattle.hamr_cli.specs.declared.status.Status.{Status}
use Rattle.hamr_cli.specs.declared.status.Status.TheVariants as status
use Rattle.hamr_cli.specs.declared.report.Report.{Report}
use Rattle.hamr_cli.specs.Cause.{report_of, words, absent, read_fault, write_fault}
use Rattle.hamr_cli.specs.Command.{Command, IsRow, IsNoRow}
use Rattle.hamr_cli.specs.Files.{File, HasWritten, HoldsTheSame}
use Rattle.hamr_cli.specs.Outside.{Outside}
use Rattle.hamr_cli.specs.Output.{Output, Gives}
use Rattle.hamr_cli.specs.Reads.{IsTurnOf, TellsInput}
use Rattle.hamr_cli.specs.Status.{IsOfContent}

-- the command's own output is to be printed, and its files are written
pub record IsForOutput (command : Command) (before after : StoreMeaning) (report : Report) : Type 0 where
  pub output : Output
  pub reported : report ≡ output.report
  pub content : IsOfContent report.status
  pub gives : TellsInput before command → Gives before.held command output
  pub left : HasWritten before after output.files (length output.files)

-- a file of the command, whose turn it was, was not there
pub record IsForAbsence (command : Command) (before after : StoreMeaning) (report : Report) : Type 0 where
  pub file : List ℕ
  pub turn : IsTurnOf before command file
  pub rose : FoundNothing before after file
  pub missing : before.tells ≡ true → before.held file ≡ None
  pub reported : report ≡ report_of (absent file)
  pub left : HoldsTheSame before after

-- a file of the command, whose turn it was, could not be read
pub record IsForReadFault (command : Command) (before after : StoreMeaning) (report : Report) : Type 0 where
  pub file : List ℕ
  pub turn : IsTurnOf before command file
  pub rose : ReadFailed before after file
  pub reported : report ≡ report_of (read_fault file)
  pub left : HoldsTheSame before after

-- a file of the command's output, whose turn it was, could not be written
pub record IsForWriteFault (command : Command) (before after : StoreMeaning) (report : Report) : Type 0 where
  pub output : Output
  pub gives : TellsInput before command → Gives before.held command output
  pub place : ℕ
  pub file : File
  pub is_file : slice_get output.files place ≡ Some file
  pub rose : WriteFailed before after file.name
  pub reported : report ≡ report_of (write_fault file.name)
  pub left : HasWritten before after output.files place

-- what is to be printed for a command, by its cause
abbrev pub IsDue : Command → StoreMeaning → StoreMeaning → Report → Type 0
IsDue command before after report =
    IsForOutput command before after report ⊎ IsForAbsence command before after report ⊎
    IsForReadFault command before after report ⊎ IsForWriteFault command before after report

-- the whole text went out, and the status is the text's
pub record IsPrintedWhole (report : Report) (before after : SinkMeaning) (answer : Status) : Type 0 where
  pub answered : answer ≡ report.status
  pub went_out : Appends before.written after.written report.text

-- the sink failed, and a part of the text went out
pub record IsCutShort (report : Report) (before after : SinkMeaning) (answer : Status) : Type 0 where
  pub answered : answer ≡ status.WriteFault
  pub failed : SinkFailed before after
  pub went_out : SentPart before.written after.written report.text

abbrev pub IsPrinted : Report → SinkMeaning → SinkMeaning → Status → Type 0
IsPrinted report before after answer = IsPrintedWhole report before after answer ⊎ IsCutShort report before after answer

-- what is to be printed was printed
pub record PrintsDue (command : Command) (before after : Outside) (answer : Status) : Type 0 where
  pub report : Report
  pub due : IsDue command before.store after.store report
  pub printed : IsPrinted report before.sink after.sink answer

-- memory was wanting, and nothing was printed or written
pub record IsSilent (before after : Outside) (answer : Status) : Type 0 where
  pub answered : answer ≡ status.NoMemory
  pub nothing : after.sink.written ≡ before.sink.written
  pub left : HoldsTheSame before.store after.store

-- memory was wanting behind a first part of the command's output
pub record IsBrokenOff (command : Command) (before after : Outside) (answer : Status) : Type 0 where
  pub answered : answer ≡ status.NoMemory
  pub output : Output
  pub gives : TellsInput before.store command → Gives before.store.held command output
  pub sent : ℕ
  pub went_out : Appends before.sink.written after.sink.written (take sent output.report.text)
  pub done : ℕ
  pub left : HasWritten before.store after.store output.files done

abbrev pub IsAnswerOf : Command → Outside → Outside → Status → Type 0
IsAnswerOf command before after answer = PrintsDue command before after answer ⊎ IsSilent before after answer ⊎ IsBrokenOff command before after answer

-- the words are the row of a command, which is answered
pub record AnswersCommand (asked : List (List ℕ)) (before after : Outside) (answer : Status) : Type 0 where
  pub command : Command
  pub row : IsRow asked command
  pub answers : IsAnswerOf command before after answer

-- the words are refused
pub record AnswersNoRow (asked : List (List ℕ)) (before after : Outside) (answer : Status) : Type 0 where
  pub no_row : IsNoRow asked
  pub prints : IsPrinted (report_of words) before.sink after.sink answer ⊎ IsSilent before after answer
  pub left : HoldsTheSame before.store after.store

abbrev pub IsAnswer : List (List ℕ) → Outside → Outside → Status → Type 0
IsAnswer asked before after answer = AnswersCommand asked before after answer ⊎ AnswersNoRow asked before after answer
