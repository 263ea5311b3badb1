use Rattle.std.proofs.Common.{◌∙◌, sym, arith}
use Rattle.hw_types.proofs.Types.{scalar_count-One, shape_of-One}
use Rattle.hw_types.proofs.extent.Extent.of_scalar.Goals as goal

pub returns : goal.returns
returns c = record {
  few = rw (scalar_count-One c.args.scalar) (omega arith);
  laid = c.in_ok-of_scalar.ensures ∙ sym (shape_of-One c.args.scalar);
}
