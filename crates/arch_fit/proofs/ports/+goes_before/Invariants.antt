use Rattle.std.proofs.Common.{length}
use Rattle.arch_fit.proofs.ports.+goes_before.Given as goal

abbrev pub decreases-goes_before : goal.decreases-goes_before
decreases-goes_before l = length l.others.now
