use Rattle.std.proofs.Common.{◌∙◌, sym, arith}
use Rattle.hw_types.proofs.Types.{scalar_count-Nothing, shape_of-Nothing}
use Rattle.hw_types.proofs.extent.Extent.nothing.Goals as goal

pub returns : goal.returns
returns c = record { few = rw scalar_count-Nothing (omega arith); laid = c.nothing.ensures ∙ sym shape_of-Nothing }
