-- Completeness: where nothing outside fails, the output of the command goes out whole, or memory is wanting.
use Rattle.std.specs.Prelude.{◌≡◌, ◌≢◌, ℕ, List, length, Some, IsSome, slice_get}
use Rattle.hw_io.specs.Meaning.{ReadFailed, WriteFailed, SinkFailed}
use Rattle.hw_io.specs.Written.{Appends}
use Rattle.hamr_cli.specs.declared.status.Status.{Status}
use Rattle.hamr_cli.specs.declared.status.Status.TheVariants as status
use Rattle.hamr_cli.specs.Command.{Command}
use Rattle.hamr_cli.specs.Files.{File, HasWritten}
use Rattle.hamr_cli.specs.Outside.{Outside}
use Rattle.hamr_cli.specs.Output.{Output, Gives, Accepts}
use Rattle.hamr_cli.specs.Reads.{Reads, TellsInput}
use Rattle.hamr_cli.specs.Status.{IsSuccess}

-- each file that the command comes to read is held, and no fault is counted of what it reads, writes and prints
pub record Serves (before after : Outside) (command : Command) : Type 0 where
  pub input : TellsInput before.store command
  pub held : (file : List ℕ) → Reads before.store.held command file → IsSome (before.store.held file)
  pub readable : (file : List ℕ) → Reads before.store.held command file → ReadFailed before.store after.store file → ⊥
  pub writable : (output : Output) (place : ℕ) (file : File) → Gives before.store.held command output →
      slice_get output.files place ≡ Some file → WriteFailed before.store after.store file.name → ⊥
  pub printable : SinkFailed before.sink after.sink → ⊥

-- the output of the command is printed, and its files are written
pub record IsDone (before after : Outside) (command : Command) (answer : Status) : Type 0 where
  pub output : Output
  pub gives : Gives before.store.held command output
  pub answered : answer ≡ output.report.status
  pub went_out : Appends before.sink.written after.sink.written output.report.text
  pub left : HasWritten before.store after.store output.files (length output.files)
  pub accepted : Accepts before.store.held command → IsSuccess answer

abbrev pub IsDoneOrNoMemory : Outside → Outside → Command → Status → Type 0
IsDoneOrNoMemory before after command answer = answer ≢ status.NoMemory → IsDone before after command answer
