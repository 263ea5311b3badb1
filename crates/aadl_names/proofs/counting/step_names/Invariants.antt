use Rattle.std.proofs.Common.{◌≡◌, ◌++◌, drop}
use Rattle.aadl_names.specs.Counting.{step_names}
use Rattle.aadl_names.proofs.counting.step_names.Given as goal

abbrev pub invariant-loop-step : goal.invariant-loop-step
invariant-loop-step l = l.names ++ step_names (drop l.step-index l.steps) ≡ step_names l.steps
