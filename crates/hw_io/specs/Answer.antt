-- What holds at one answer of a store, and at no other.
use Rattle.std.specs.Prelude.{List, ℕ, ⊤}
use Rattle.hw_io.specs.declared.answers.ReadAnswer.{ReadAnswer}
use Rattle.hw_io.specs.declared.answers.ReadAnswer.TheVariants as read
use Rattle.hw_io.specs.declared.answers.WriteAnswer.{WriteAnswer}
use Rattle.hw_io.specs.declared.answers.WriteAnswer.TheVariants as write

-- where bytes are answered, P of them
abbrev pub OnBytes : ReadAnswer → (List ℕ → Type 0) → Type 0
OnBytes (read.Bytes bytes) P = P bytes
OnBytes read.Absent P = ⊤
OnBytes read.Failed P = ⊤
OnBytes read.NoMemory P = ⊤

-- where the name is told absent, P
abbrev pub OnAbsent : ReadAnswer → Type 0 → Type 0
OnAbsent (read.Bytes bytes) P = ⊤
OnAbsent read.Absent P = P
OnAbsent read.Failed P = ⊤
OnAbsent read.NoMemory P = ⊤

-- where a read failed, P
abbrev pub OnReadFailed : ReadAnswer → Type 0 → Type 0
OnReadFailed (read.Bytes bytes) P = ⊤
OnReadFailed read.Absent P = ⊤
OnReadFailed read.Failed P = P
OnReadFailed read.NoMemory P = ⊤

-- where a write was done, P
abbrev pub OnDone : WriteAnswer → Type 0 → Type 0
OnDone write.Done P = P
OnDone write.Failed P = ⊤
OnDone write.NoMemory P = ⊤

-- where a write failed, P
abbrev pub OnWriteFailed : WriteAnswer → Type 0 → Type 0
OnWriteFailed write.Done P = ⊤
OnWriteFailed write.Failed P = P
OnWriteFailed write.NoMemory P = ⊤
