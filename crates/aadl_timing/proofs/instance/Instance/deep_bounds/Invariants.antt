use Rattle.std.proofs.Common.{◌≡◌, ◌+◌, length}
use Rattle.aadl_timing.specs.Bounds.{AreDeepBounds}
use Rattle.aadl_timing.proofs.instance.Instance.deep_bounds.Given as goal

abbrev pub invariant-loop-depth : goal.invariant-loop-depth
invariant-loop-depth l = record {
  long : length l.rounds ≡ l.depth + 1;
  bounds : AreDeepBounds l.self.tables.now l.self.resolved.now l.rounds;
}
