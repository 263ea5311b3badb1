use Rattle.std.proofs.Common.{◌≡◌, ◌<◌, ℕ, ℤ, pos, List, length, get_or, arith, rules}
use Rattle.std.proofs.lemmas.Int.{to_z-of_z}
use Rattle.std.proofs.lemmas.List.{drop_all}
use Rattle.std.specs.Int.{w128}
use Rattle.std.specs.Int.RustNames.{FitsSigned}
use Rattle.hw_types.specs.declared.field_cell.FieldCell.{FieldCell}
use Rattle.hw_types.specs.declared.scalar.Scalar.TheVariants.{U8}
use Rattle.hw_types.specs.Value.{AreScalarValues}
use Rattle.hw_types.proofs.BytesSteps.{AreScalarValues-length, AreScalarValues-get, begin_step, scalar_step, end_step}
use Rattle.hw_types.proofs.bytes.bytes_of.Goals as goal

-- the numbers are those of the scalars
numbers-length : (cells cells' : List FieldCell) (vs vs' : List ℤ) (i : ℕ) → AreScalarValues cells vs → cells' ≡ cells → vs' ≡ vs → i < length cells' → i < length vs'
numbers-length cells cells' vs vs' i are e f h =
    let same : length cells' ≡ length vs' = rw (e, f) (AreScalarValues-length cells vs are) in
    omega arith

pub loop-place-init : goal.loop-place-init
loop-place-init c =
    begin_step c.args.layout.now c.new-bytes.result c.scalars-cell-items.result.now c.rows-numbers.result.now c.args.value.now
    c.new-bytes.ensures c.scalars-cell-items.ensures.cells c.rows-numbers.ensures c.scalars-cell-items.ensures.laid_out

pub bounds-numbers-place : goal.bounds-numbers-place
bounds-numbers-place c =
    numbers-length c.args.layout.now.scalars c.scalars-cell-items.result.now c.args.value.now c.rows-numbers.result.now c.loop-place.place
    c.requires c.scalars-cell-items.ensures.cells c.rows-numbers.ensures c.loop-place-test.true

pub push_scalar-requires : goal.push_scalar-requires
push_scalar-requires c =
    let fits : FitsSigned w128 (get_or c.rows-numbers.result.now c.loop-place.place (pos 0)) = search rules in
    let are : AreScalarValues c.scalars-cell-items.result.now c.rows-numbers.result.now =
    rw (c.scalars-cell-items.ensures.cells, c.rows-numbers.ensures) c.requires in
    rw to_z-of_z (AreScalarValues-get c.scalars-cell-items.result.now c.rows-numbers.result.now c.loop-place.place
    (record { offset = 0; scalar = U8 }) (pos 0) are c.loop-place-test.true)

pub loop-place-preserved : goal.loop-place-preserved
loop-place-preserved c =
    let fits : FitsSigned w128 (get_or c.rows-numbers.result.now c.loop-place.place (pos 0)) = search rules in
    scalar_step c.args.layout.now.size c.loop-place.place _ c.loop-place.bytes c.push_scalar.new.bytes
    c.scalars-cell-items.result.now c.rows-numbers.result.now (record { offset = 0; scalar = U8 }) _ (pos 0) c.loop-place-test.true
    (numbers-length c.args.layout.now.scalars c.scalars-cell-items.result.now c.args.value.now c.rows-numbers.result.now c.loop-place.place
    c.requires c.scalars-cell-items.ensures.cells c.rows-numbers.ensures c.loop-place-test.true)
    (to_z-of_z w128 (get_or c.rows-numbers.result.now c.loop-place.place (pos 0)) fits) c.in_ok-push_scalar.ensures c.loop-place.invariant

pub returns : goal.returns
returns c =
    end_step c.args.layout.now.size c.size.result _ c.loop-place.bytes c.pad.new.bytes _ _
    (drop_all c.loop-place.place c.scalars-cell-items.result.now c.loop-place-test.false) c.size.ensures.size c.loop-place.invariant c.in_ok-pad.ensures
