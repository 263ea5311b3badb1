use Rattle.aadl_types.proofs.KnownParts.{enum_extent, array_extent}
use Rattle.aadl_types.proofs.extents.Extents.of_shape.Goals as goal

pub returns-in_ok-of_scalar-in-Enum-clause-some : goal.returns-in_ok-of_scalar-in-Enum-clause-some
returns-in_ok-of_scalar-in-Enum-clause-some c =
    enum_extent c.args.shapes.now c.args.shape.now c.in-Enum.names c.rows-count.result.now c.in_ok-of_scalar-in-Enum.field-0 c.in-Enum.is c.rows-count.ensures
    c.if-count.true c.in_ok-of_scalar-in-Enum.ensures

pub returns-in_ok-times-in-Some-clause-some : goal.returns-in_ok-times-in-Some-clause-some
returns-in_ok-times-in-Some-clause-some c =
    array_extent c.args.shapes.now c.args.shape.now c.in-Array.element c.in-Array.times c.in-Some.element c.in_ok-times-in-Some.field-0 c.in-Array.is
    (rw c.in-Some.is at c.in_ok-element-in-Array.ensures.some) c.in_ok-times-in-Some.ensures
