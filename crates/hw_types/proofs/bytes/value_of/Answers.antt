use Rattle.std.proofs.Common.{drop, arith}
use Rattle.std.proofs.lemmas.List.{drop_all}
use Rattle.hw_types.specs.declared.scalar.Scalar.TheVariants.{U8}
use Rattle.hw_types.proofs.ReadSteps.{read_end, cell-within}
use Rattle.hw_types.proofs.bytes.value_of.Goals as goal

pub scalar_in-requires : goal.scalar_in-requires
scalar_in-requires c =
    cell-within c.args.layout.now c.scalars-cell-items.result.now c.loop-cell.cell-index _ (record { offset = 0; scalar = U8 })
    c.scalars-cell-items.ensures.laid_out c.scalars-cell-items.ensures.cells (omega (arith, c.if-bytes-size.false, c.size.ensures.size)) c.loop-cell-test.true

pub returns-clause-fits : goal.returns-clause-fits
returns-clause-fits c =
    read_end c.args.layout.now c.args.bytes.now c.scalars-cell-items.result.now (drop c.loop-cell.cell-index c.scalars-cell-items.result.now)
    c.loop-cell.value (λ i h. omega (arith, c.type_inv.bytes i)) c.scalars-cell-items.ensures.cells
    (drop_all c.loop-cell.cell-index c.scalars-cell-items.result.now c.loop-cell-test.false) c.loop-cell.invariant
