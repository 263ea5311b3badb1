use Rattle.std.proofs.Common.{◌≡◌, drop, [], None}
use Rattle.aadl_names.specs.Offences.{earliest_from}
use Rattle.aadl_timing.specs.Naming.{clashes_from}
use Rattle.aadl_timing.proofs.instance.Instance.clash_among.Given as goal

abbrev pub invariant-loop-path : goal.invariant-loop-path
invariant-loop-path l =
    earliest_from l.first (clashes_from l.self.tables.now l.seen (drop l.path-index l.paths))
    ≡ earliest_from None (clashes_from l.self.tables.now [] l.paths)
