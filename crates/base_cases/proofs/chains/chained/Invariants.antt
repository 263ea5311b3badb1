-- what is known is known of some type
use Rattle.hw_types.specs.declared.ty.Ty.{Ty}
use Rattle.hw_types.specs.Extent.{IsExtentOf}
use Rattle.base_cases.proofs.chains.chained.Given as goal

abbrev pub invariant-loop : goal.invariant-loop
invariant-loop l = (ty : Ty) × IsExtentOf ty l.extent
