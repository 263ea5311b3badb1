use Rattle.aadl_names.specs.declared.class_row.ClassRow.TheVariants as row
use Rattle.aadl_types.proofs.Passed.{IsPassed}
use Rattle.aadl_types.proofs.extents.Extents.pass_implementations.Given as goal

abbrev pub invariant-loop-number : goal.invariant-loop-number
invariant-loop-number l = IsPassed row.Implementation l.shapes l.fn.self l.self l.found l.number
