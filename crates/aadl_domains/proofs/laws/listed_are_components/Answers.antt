use Rattle.aadl_domains.proofs.Members.{only_components}
use Rattle.aadl_domains.proofs.laws.listed_are_components.Goals as goal

pub returns : goal.returns
returns c = only_components
