-- What an error of the system is to a store, and what a store answers for it (this project's own).
use Rattle.std.specs.Prelude.{ℕ, List, Result, Ok, Err}
use Rattle.std.specs.declared.io.ErrorKind.{ErrorKind}
use Rattle.std.specs.declared.io.ErrorKind.TheVariants as kind
use Rattle.hw_io.specs.declared.answers.ReadAnswer.{ReadAnswer}
use Rattle.hw_io.specs.declared.answers.ReadAnswer.TheVariants as answer
use Rattle.hw_io.specs.declared.file_fault.FileFault.{FileFault}
use Rattle.hw_io.specs.declared.file_fault.FileFault.TheVariants as fault

-- an open file is there, whatever a read of it meets
abbrev pub reading_fault : ErrorKind → FileFault
reading_fault kind.OutOfMemory = fault.NoMemory
reading_fault _ = fault.Failed

-- a file that is not there is absent
abbrev pub opening_fault : ErrorKind → FileFault
opening_fault kind.NotFound = fault.Absent
opening_fault k = reading_fault k

-- absent is what is not there alone
abbrev pub answer_of : Result (List ℕ) FileFault → ReadAnswer
answer_of (Ok bytes) = answer.Bytes bytes
answer_of (Err fault.Absent) = answer.Absent
answer_of (Err fault.Failed) = answer.Failed
answer_of (Err fault.TooLong) = answer.Failed
answer_of (Err fault.NoMemory) = answer.NoMemory
