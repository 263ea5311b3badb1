use Rattle.std.proofs.Common.{length}
use Rattle.arch_fit.proofs.links.+ends_alone.Given as goal

abbrev pub decreases-ends_alone : goal.decreases-ends_alone
decreases-ends_alone l = length l.others.now
