use Rattle.std.proofs.Common.{◌≡◌, pos, true, false, get_or, rules}
use Rattle.std.proofs.lemmas.Int.{to_z-of_z}
use Rattle.std.specs.Int.{w128}
use Rattle.std.specs.Int.RustNames.{FitsSigned}
use Rattle.hw_types.specs.declared.scalar.Scalar.TheVariants.{U8}
use Rattle.hw_types.specs.Value.{AreScalarValues}
use Rattle.hw_types.proofs.BytesSteps.{AreScalarValues-length, AreScalarValues-get}
use Rattle.hw_types.proofs.layout.Layout.holds.Goals as goal

not_true : false ≡ true → ⊥
not_true h = cc

pub returns-then-cells-numbers : goal.returns-then-cells-numbers
returns-then-cells-numbers c = (
  λ h. absurd (not_true h),
  λ are. let are' : AreScalarValues c.scalars-cells.result.now c.args.numbers.now = rw c.scalars-cells.ensures.cells are in
      absurd (c.if-cells-numbers.true (AreScalarValues-length c.scalars-cells.result.now c.args.numbers.now are')),
)

pub returns-then-not-holds : goal.returns-then-not-holds
returns-then-not-holds c = (
  λ h. absurd (not_true h),
  λ are. let are' : AreScalarValues c.scalars-cells.result.now c.args.numbers.now = rw c.scalars-cells.ensures.cells are in
      let fits : FitsSigned w128 (get_or c.args.numbers.now c.loop-place.place (pos 0)) = search rules in
      c.if-not-holds.ensures.1 (rw to_z-of_z (AreScalarValues-get c.scalars-cells.result.now c.args.numbers.now c.loop-place.place
      (record { offset = 0; scalar = U8 }) (pos 0) are' c.loop-place-test.true)),
)
