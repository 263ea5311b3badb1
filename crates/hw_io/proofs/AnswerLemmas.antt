-- Counts that are exactly those of an answer rise where a fault or an absence is answered, and never fall.
use Rattle.std.proofs.Common.{◌≡◌, ap, refl, arith, ℕ, List}
use Rattle.hw_io.specs.declared.answers.ReadAnswer.{ReadAnswer}
use Rattle.hw_io.specs.declared.answers.ReadAnswer.TheVariants as read
use Rattle.hw_io.specs.declared.answers.WriteAnswer.{WriteAnswer}
use Rattle.hw_io.specs.declared.answers.WriteAnswer.TheVariants as write
use Rattle.hw_io.specs.declared.counts.Counts.{Counts}
use Rattle.hw_io.specs.Answer.{OnBytes, OnAbsent, OnReadFailed, OnDone, OnWriteFailed}
use Rattle.hw_io.specs.Count.{HasRisen, one_more}
use Rattle.hw_io.specs.Counts.{counts_after_read, counts_after_write}

-- what holds in any case holds at each answer
pub at_bytes : (r : ReadAnswer) (P : List ℕ → Type 0) → ((bytes : List ℕ) → P bytes) → OnBytes r P
at_bytes (read.Bytes bytes) P holds = holds bytes
at_bytes read.Absent P holds = tt
at_bytes read.Failed P holds = tt
at_bytes read.NoMemory P holds = tt

pub at_absent : (r : ReadAnswer) (P : Type 0) → P → OnAbsent r P
at_absent (read.Bytes bytes) P holds = tt
at_absent read.Absent P holds = holds
at_absent read.Failed P holds = tt
at_absent read.NoMemory P holds = tt

pub at_done : (r : WriteAnswer) (P : Type 0) → P → OnDone r P
at_done write.Done P holds = holds
at_done write.Failed P holds = tt
at_done write.NoMemory P holds = tt

risen : (old new : ℕ) → new ≡ one_more old → HasRisen old new
risen old new is = λ below. omega (arith, is, below)

pub absence_risen : (r : ReadAnswer) (old new : Counts) → new ≡ counts_after_read old r → OnAbsent r (HasRisen old.absences new.absences)
absence_risen (read.Bytes bytes) old new is = tt
absence_risen read.Absent old new is = risen old.absences new.absences (ap (λ (c : Counts). c.absences) is)
absence_risen read.Failed old new is = tt
absence_risen read.NoMemory old new is = tt

pub read_fault_risen : (r : ReadAnswer) (old new : Counts) → new ≡ counts_after_read old r → OnReadFailed r (HasRisen old.read_faults new.read_faults)
read_fault_risen (read.Bytes bytes) old new is = tt
read_fault_risen read.Absent old new is = tt
read_fault_risen read.Failed old new is = risen old.read_faults new.read_faults (ap (λ (c : Counts). c.read_faults) is)
read_fault_risen read.NoMemory old new is = tt

pub write_fault_risen : (r : WriteAnswer) (old new : Counts) → new ≡ counts_after_write old r → OnWriteFailed r (HasRisen old.write_faults new.write_faults)
write_fault_risen write.Done old new is = tt
write_fault_risen write.Failed old new is = risen old.write_faults new.write_faults (ap (λ (c : Counts). c.write_faults) is)
write_fault_risen write.NoMemory old new is = tt

-- a read counts no fault of a write
pub read_keeps : (r : ReadAnswer) (old : Counts) → (counts_after_read old r).write_faults ≡ old.write_faults
read_keeps (read.Bytes bytes) old = refl
read_keeps read.Absent old = refl
read_keeps read.Failed old = refl
read_keeps read.NoMemory old = refl

-- a write counts no fault of a read, and no absence
pub write_keeps_read_faults : (r : WriteAnswer) (old : Counts) → (counts_after_write old r).read_faults ≡ old.read_faults
write_keeps_read_faults write.Done old = refl
write_keeps_read_faults write.Failed old = refl
write_keeps_read_faults write.NoMemory old = refl

pub write_keeps_absences : (r : WriteAnswer) (old : Counts) → (counts_after_write old r).absences ≡ old.absences
write_keeps_absences write.Done old = refl
write_keeps_absences write.Failed old = refl
write_keeps_absences write.NoMemory old = refl
