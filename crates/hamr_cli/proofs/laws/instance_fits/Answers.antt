use Rattle.hamr_cli.specs.Instance.{links_named}
use Rattle.hamr_cli.proofs.Instances.{thin-fits}
use Rattle.hamr_cli.proofs.LinkMembers.{same-links}
use Rattle.hamr_cli.proofs.laws.instance_fits.Goals as goal

pub returns-clause-tables : goal.returns-clause-tables
returns-clause-tables c = thin-fits

pub returns-clause-links : goal.returns-clause-links
returns-clause-links c = λ m. same-links (links_named m)
