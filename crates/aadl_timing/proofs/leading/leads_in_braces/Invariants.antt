use Rattle.std.proofs.Common.{◌≡◌, drop}
use Rattle.std.specs.List.{list_any}
use Rattle.aadl_timing.specs.Bounds.{leads_in_braces}
use Rattle.aadl_timing.proofs.leading.leads_in_braces.Given as goal

abbrev pub invariant-loop-subcomponent : goal.invariant-loop-subcomponent
invariant-loop-subcomponent l = list_any leads_in_braces (drop l.subcomponent-index l.subcomponents) ≡ list_any leads_in_braces l.subcomponents
