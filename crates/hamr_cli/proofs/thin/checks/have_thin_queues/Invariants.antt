use Rattle.std.proofs.Common.{take, All}
use Rattle.hamr_cli.specs.Model.{HasThinQueue}
use Rattle.hamr_cli.proofs.thin.checks.have_thin_queues.Given as goal

abbrev pub invariant-loop-feature : goal.invariant-loop-feature
invariant-loop-feature l = All HasThinQueue (take l.feature-index l.features)
