use Rattle.std.proofs.Common.{◌≡◌, drop}
use Rattle.std.specs.Prelude.{filter_map}
use Rattle.aadl_timing.specs.Frames.{period_at, least_from, least_period}
use Rattle.aadl_timing.proofs.instance.Instance.least_period.Given as goal

abbrev pub invariant-loop-path : goal.invariant-loop-path
invariant-loop-path l =
    least_from l.least (filter_map (period_at l.self.tables.now l.self.resolved.now) (drop l.path-index l.paths))
    ≡ least_period l.self.tables.now l.self.resolved.now l.paths
