-- A store in memory: what it holds, when its calls fail, and what each leaves (this project's own).
use Rattle.std.specs.Prelude.{◌≡◌, ℕ, if◌then◌else◌, List, [], ◌∷◌, Option, Some, None, IsSome}
use Rattle.std.specs.Str.{bytes_eq}
use Rattle.hw_io.specs.Count.{one_more}
use Rattle.hw_io.specs.declared.answers.ReadAnswer.{ReadAnswer}
use Rattle.hw_io.specs.declared.answers.ReadAnswer.TheVariants as read
use Rattle.hw_io.specs.declared.answers.WriteAnswer.{WriteAnswer}
use Rattle.hw_io.specs.declared.answers.WriteAnswer.TheVariants as write
use Rattle.hw_io.specs.declared.mem_file.MemFile.{MemFile}

pub record StoreState : Type 0 where
  -- the newest first, so that a later file hides an earlier one of its name
  pub files : List MemFile
  -- how many calls of each kind there were
  pub reads : ℕ
  pub writes : ℕ
  -- the number of the call that fails
  pub failing_read : Option ℕ
  pub failing_write : Option ℕ
  pub read_faults : ℕ
  pub write_faults : ℕ
  pub absences : ℕ

-- nothing is held, and no call fails
abbrev pub empty_store : StoreState
empty_store = record {
  files = [];
  reads = 0;
  writes = 0;
  failing_read = None;
  failing_write = None;
  read_faults = 0;
  write_faults = 0;
  absences = 0;
}

-- the bytes of a name
abbrev pub held_in : List MemFile → List ℕ → Option (List ℕ)
held_in [] name = None
held_in (file ∷ files) name = if bytes_eq file.name name then Some file.bytes else held_in files name

-- a name has these bytes now
abbrev pub with_file : StoreState → List ℕ → List ℕ → StoreState
with_file s name bytes = record s { files = record { name = name; bytes = bytes } ∷ s.files }

-- this call is the one that fails
abbrev pub FailsNow : Option ℕ → ℕ → Type 0
FailsNow failing call = failing ≡ Some call

-- what a read of a name answers: a fault at the numbered call alone, and else what is held
abbrev pub ReadGives : StoreState → List ℕ → ReadAnswer → Type 0
ReadGives s name (read.Bytes bytes) = ¬ FailsNow s.failing_read s.reads × (held_in s.files name ≡ Some bytes)
ReadGives s name read.Absent = ¬ FailsNow s.failing_read s.reads × (held_in s.files name ≡ None)
ReadGives s name read.Failed = FailsNow s.failing_read s.reads
ReadGives s name read.NoMemory = ¬ FailsNow s.failing_read s.reads × IsSome (held_in s.files name)

-- what a read leaves
abbrev pub after_read : StoreState → ReadAnswer → StoreState
after_read s (read.Bytes bytes) = record s { reads = one_more s.reads }
after_read s read.Absent = record s { reads = one_more s.reads; absences = one_more s.absences }
after_read s read.Failed = record s { reads = one_more s.reads; read_faults = one_more s.read_faults }
after_read s read.NoMemory = record s { reads = one_more s.reads }

-- what a write answers: a fault at the numbered call alone
abbrev pub WriteGives : StoreState → WriteAnswer → Type 0
WriteGives s write.Done = ¬ FailsNow s.failing_write s.writes
WriteGives s write.Failed = FailsNow s.failing_write s.writes
WriteGives s write.NoMemory = ¬ FailsNow s.failing_write s.writes

-- what a write leaves: contents change only where it was done
abbrev pub after_write : StoreState → List ℕ → List ℕ → WriteAnswer → StoreState
after_write s name bytes write.Done = record (with_file s name bytes) { writes = one_more s.writes }
after_write s name bytes write.Failed = record s { writes = one_more s.writes; write_faults = one_more s.write_faults }
after_write s name bytes write.NoMemory = record s { writes = one_more s.writes }
