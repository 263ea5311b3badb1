use Rattle.std.proofs.Common.{sym}
use Rattle.aadl_types.proofs.KnownParts.{base_extent, row_extent}
use Rattle.aadl_types.proofs.extents.Extents.part.Goals as goal

pub returns-in_ok-of_scalar-in-Base-clause-some : goal.returns-in_ok-of_scalar-in-Base-clause-some
returns-in_ok-of_scalar-in-Base-clause-some c =
    base_extent c.args.shapes.now c.args.part c.in-Base.base c.scalar_of.result c.in_ok-of_scalar-in-Base.field-0 c.in-Base.is c.scalar_of.ensures
    c.in_ok-of_scalar-in-Base.ensures

pub returns-in_ok-copied-in-Some-clause-some : goal.returns-in_ok-copied-in-Some-clause-some
returns-in_ok-copied-in-Some-clause-some c =
    row_extent c.args.shapes.now c.args.self.now c.args.part c.in-Row.class c.in-Some.found.now c.in_ok-copied-in-Some.field-0 c.requires c.in-Row.is
    (sym c.in-Some.ensures) c.in_ok-copied-in-Some.ensures
