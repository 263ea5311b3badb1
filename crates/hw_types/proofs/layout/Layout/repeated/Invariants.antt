use Rattle.std.proofs.Common.{◌≡◌}
use Rattle.hw_types.specs.Layout.{element_cells}
use Rattle.hw_types.proofs.layout.Layout.repeated.Given as goal

abbrev pub invariant-loop-index : goal.invariant-loop-index
invariant-loop-index l = l.scalars ≡ element_cells l.fn.self l.index
