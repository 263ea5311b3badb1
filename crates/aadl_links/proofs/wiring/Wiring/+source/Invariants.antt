use Rattle.std.proofs.Common.{length}
use Rattle.aadl_links.proofs.wiring.Wiring.+source.Given as goal

abbrev pub decreases-source : goal.decreases-source
decreases-source l = length l.path
