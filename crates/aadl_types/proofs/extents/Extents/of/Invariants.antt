use Rattle.std.proofs.Common.{◌≡◌, ◌+◌, false, cond}
use Rattle.aadl_types.specs.Settling.{IsRight, AreDone, unknown_count}
use Rattle.aadl_types.proofs.extents.Extents.of.Given as goal

abbrev pub invariant-loop-open : goal.invariant-loop-open
invariant-loop-open l = record {
  right : IsRight l.shapes l.extents;
  done : l.open ≡ false → AreDone l.shapes l.extents;
}

abbrev pub decreases-loop-open : goal.decreases-loop-open
decreases-loop-open l = unknown_count l.extents + cond l.open 1 0
