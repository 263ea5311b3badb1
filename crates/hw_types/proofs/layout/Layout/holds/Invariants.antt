use Rattle.std.proofs.Common.{drop}
use Rattle.hw_types.specs.Value.{AreScalarValues}
use Rattle.hw_types.proofs.layout.Layout.holds.Given as goal

abbrev pub invariant-loop-place : goal.invariant-loop-place
invariant-loop-place l = AreScalarValues (drop l.place l.cells) (drop l.place l.numbers) → AreScalarValues l.cells l.numbers
