use Rattle.aadl_types.specs.Settling.{IsRight}
use Rattle.aadl_types.proofs.extents.Extents.settle_each.Given as goal

abbrev pub invariant-loop-class : goal.invariant-loop-class
invariant-loop-class l = IsRight l.shapes l.self
