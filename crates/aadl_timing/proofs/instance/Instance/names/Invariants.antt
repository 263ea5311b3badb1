use Rattle.std.proofs.Common.{◌≡◌, ◌++◌, drop}
use Rattle.std.specs.Prelude.{filter_map}
use Rattle.aadl_timing.specs.Naming.{name_at}
use Rattle.aadl_timing.proofs.instance.Instance.names.Given as goal

abbrev pub invariant-loop-row : goal.invariant-loop-row
invariant-loop-row l =
    l.names ++ filter_map (name_at l.self.tables.now) (drop l.row-index l.path) ≡ filter_map (name_at l.self.tables.now) l.path
