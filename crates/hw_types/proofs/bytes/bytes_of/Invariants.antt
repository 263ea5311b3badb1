use Rattle.std.proofs.Common.{drop}
use Rattle.hw_types.specs.Value.{bytes_for}
use Rattle.hw_types.proofs.BytesSteps.{AreAppended}
use Rattle.hw_types.proofs.bytes.bytes_of.Given as goal

abbrev pub invariant-loop-place : goal.invariant-loop-place
invariant-loop-place l =
    AreAppended l.layout.size (bytes_for l.layout l.value) l.bytes (drop l.place l.cell-items) (drop l.place l.numbers)
