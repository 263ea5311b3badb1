use Rattle.std.proofs.Common.{◌≡◌, drop, []}
use Rattle.aadl_timing.specs.Located.{steps_from}
use Rattle.aadl_timing.proofs.instance.Instance.steps.Given as goal

abbrev pub invariant-loop-row : goal.invariant-loop-row
invariant-loop-row l =
    steps_from l.self.tables.now l.steps (drop l.row-index l.path) ≡ steps_from l.self.tables.now [] l.path
