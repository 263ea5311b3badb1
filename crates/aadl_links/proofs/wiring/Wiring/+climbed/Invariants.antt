use Rattle.std.proofs.Common.{◌-◌, length}
use Rattle.aadl_links.proofs.wiring.Wiring.+climbed.Given as goal

abbrev pub decreases-climbed : goal.decreases-climbed
decreases-climbed l = 35 - length l.path
