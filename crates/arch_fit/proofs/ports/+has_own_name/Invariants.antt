use Rattle.std.proofs.Common.{length}
use Rattle.arch_fit.proofs.ports.+has_own_name.Given as goal

abbrev pub decreases-has_own_name : goal.decreases-has_own_name
decreases-has_own_name l = length l.others.now
