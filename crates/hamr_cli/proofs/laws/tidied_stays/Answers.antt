use Rattle.hamr_cli.proofs.Stays.{tidied-stays}
use Rattle.hamr_cli.proofs.laws.tidied_stays.Goals as goal

pub returns : goal.returns
returns c = tidied-stays
