use Rattle.std.proofs.Common.{length}
use Rattle.arch_fit.proofs.ports.+go_by_domains.Given as goal

abbrev pub decreases-go_by_domains : goal.decreases-go_by_domains
decreases-go_by_domains l = length l.ports.now
