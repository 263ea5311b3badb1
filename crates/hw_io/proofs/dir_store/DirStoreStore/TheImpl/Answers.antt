-- what the trait says of each answer follows from the counts alone, since no contents are told
use Rattle.std.proofs.Common.{◌∙◌, ap, refl, arith}
use Rattle.std.proofs.lemmas.Bool.{false≢true}
use Rattle.hw_io.specs.declared.counts.Counts.{Counts}
use Rattle.hw_io.proofs.AnswerLemmas.{at_bytes, at_absent, at_done, absence_risen, read_fault_risen, write_fault_risen, read_keeps, write_keeps_read_faults, write_keeps_absences}
use Rattle.hw_io.proofs.dir_store.DirStoreStore.TheImpl.Goals as goal

pub read-tells : goal.read-tells
read-tells g c = record {
  tells = refl;
  kept = λ n. refl;
  bytes = at_bytes c.result _ (λ bytes told. absurd (false≢true told));
  absent = at_absent c.result _ (λ told. refl);
  absence = absence_risen c.result _ _ c.ensures.counts;
  failed = read_fault_risen c.result _ _ c.ensures.counts;
  read_faults = λ n. c.ensures.read_faults;
  write_faults = λ n. omega (arith, ap (λ (k : Counts). k.write_faults) c.ensures.counts ∙ read_keeps c.result c.args.self.now);
  absences = λ n. c.ensures.absences;
}

pub write-tells : goal.write-tells
write-tells g c = record {
  tells = refl;
  done = at_done c.result _ (λ told. absurd (false≢true told));
  others = λ n other. refl;
  failed = write_fault_risen c.result _ _ c.ensures.counts;
  read_faults = λ n. omega (arith, ap (λ (k : Counts). k.read_faults) c.ensures.counts ∙ write_keeps_read_faults c.result c.args.self.now);
  write_faults = λ n. c.ensures.write_faults;
  absences = λ n. omega (arith, ap (λ (k : Counts). k.absences) c.ensures.counts ∙ write_keeps_absences c.result c.args.self.now);
}
