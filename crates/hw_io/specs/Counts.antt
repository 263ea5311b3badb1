-- What an answer leaves of the counts of a store: one of them is higher exactly where a fault or an absence is answered.
use Rattle.hw_io.specs.Count.{one_more}
use Rattle.hw_io.specs.declared.answers.ReadAnswer.{ReadAnswer}
use Rattle.hw_io.specs.declared.answers.ReadAnswer.TheVariants as read
use Rattle.hw_io.specs.declared.answers.WriteAnswer.{WriteAnswer}
use Rattle.hw_io.specs.declared.answers.WriteAnswer.TheVariants as write
use Rattle.hw_io.specs.declared.counts.Counts.{Counts}

abbrev pub no_counts : Counts
no_counts = record { read_faults = 0; write_faults = 0; absences = 0 }

abbrev pub counts_after_read : Counts → ReadAnswer → Counts
counts_after_read c (read.Bytes bytes) = c
counts_after_read c read.Absent = record c { absences = one_more c.absences }
counts_after_read c read.Failed = record c { read_faults = one_more c.read_faults }
counts_after_read c read.NoMemory = c

abbrev pub counts_after_write : Counts → WriteAnswer → Counts
counts_after_write c write.Done = c
counts_after_write c write.Failed = record c { write_faults = one_more c.write_faults }
counts_after_write c write.NoMemory = c
