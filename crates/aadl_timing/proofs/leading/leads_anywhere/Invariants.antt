use Rattle.std.proofs.Common.{◌≡◌, drop}
use Rattle.std.specs.List.{list_any}
use Rattle.aadl_timing.specs.Bounds.{leads_inside}
use Rattle.aadl_timing.proofs.leading.leads_anywhere.Given as goal

abbrev pub invariant-loop-implementation : goal.invariant-loop-implementation
invariant-loop-implementation l = list_any leads_inside (drop l.implementation-index l.tables.implementations) ≡ list_any leads_inside l.tables.implementations
