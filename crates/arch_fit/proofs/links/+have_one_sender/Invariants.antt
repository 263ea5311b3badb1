use Rattle.std.proofs.Common.{length}
use Rattle.arch_fit.proofs.links.+have_one_sender.Given as goal

abbrev pub decreases-have_one_sender : goal.decreases-have_one_sender
decreases-have_one_sender l = length l.links.now
