use Rattle.aadl_timing.specs.Depths.{systems_of_depth, AreFirsts}
use Rattle.aadl_timing.proofs.instance.Instance.deep_firsts.Given as goal

abbrev pub invariant-loop-levels : goal.invariant-loop-levels
invariant-loop-levels l = AreFirsts l.firsts (systems_of_depth l.self.tables.now l.self.resolved.now l.levels)
