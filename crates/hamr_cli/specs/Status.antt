-- The numbers of the exit statuses, and what they are told apart by (this project's own; README).
use Rattle.std.specs.Prelude.{◌≡◌, ◌⊎◌, ℕ}
use Rattle.hamr_cli.specs.declared.status.Status.{Status}
use Rattle.hamr_cli.specs.declared.status.Status.TheVariants as status

-- in the order of the table
abbrev pub number_of : Status → ℕ
number_of status.Done = 0
number_of status.SomeFalse = 1
number_of status.Words = 2
number_of status.Model = 3
number_of status.User = 4
number_of status.RunFile = 5
number_of status.Absent = 6
number_of status.ReadFault = 7
number_of status.WriteFault = 8
number_of status.NoMemory = 9

-- one of the statuses that the contents of files alone decide
abbrev pub IsOfContent : Status → Type 0
IsOfContent answer = (answer ≡ status.Done) ⊎ (answer ≡ status.SomeFalse) ⊎ (answer ≡ status.Model) ⊎ (answer ≡ status.User) ⊎ (answer ≡ status.RunFile)

-- the command did what it is for
abbrev pub IsSuccess : Status → Type 0
IsSuccess answer = (answer ≡ status.Done) ⊎ (answer ≡ status.SomeFalse)

-- something is refused, and nothing fails besides
abbrev pub IsRefusal : Status → Type 0
IsRefusal answer = (answer ≡ status.Words) ⊎ (answer ≡ status.Model) ⊎ (answer ≡ status.User) ⊎ (answer ≡ status.RunFile) ⊎ (answer ≡ status.Absent) ⊎ (answer ≡ status.ReadFault)

-- words are refused, or the sink fails, or memory is wanting
abbrev pub IsWordsOrNothing : Status → Type 0
IsWordsOrNothing answer = (answer ≡ status.Words) ⊎ (answer ≡ status.WriteFault) ⊎ (answer ≡ status.NoMemory)
