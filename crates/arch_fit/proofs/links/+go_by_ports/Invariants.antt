use Rattle.std.proofs.Common.{length}
use Rattle.arch_fit.proofs.links.+go_by_ports.Given as goal

abbrev pub decreases-go_by_ports : goal.decreases-go_by_ports
decreases-go_by_ports l = length l.links.now
