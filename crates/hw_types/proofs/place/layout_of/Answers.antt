use Rattle.std.proofs.Common.{subst}
use Rattle.hw_types.specs.Extent.{IsExtentOf}
use Rattle.hw_types.proofs.Extents.{few-scalars}
use Rattle.hw_types.proofs.place.layout_of.Goals as goal

pub returns-in-Laid-clause-few : goal.returns-in-Laid-clause-few
returns-in-Laid-clause-few c =
    few-scalars c.args.ty.now c.in-Laid.layout (subst (λ e. IsExtentOf c.args.ty.now e) c.in-Laid.is c.in_ok-layout.ensures)
