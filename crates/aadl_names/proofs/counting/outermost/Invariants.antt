use Rattle.std.proofs.Common.{◌≡◌, drop}
use Rattle.aadl_names.specs.Counting.{outermost}
use Rattle.aadl_names.proofs.counting.outermost.Given as goal

abbrev pub invariant-loop-step : goal.invariant-loop-step
invariant-loop-step l = outermost l.property (drop l.step-index l.steps) l.rest ≡ outermost l.property l.steps l.names
