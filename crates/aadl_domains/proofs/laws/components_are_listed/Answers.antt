use Rattle.aadl_domains.proofs.Members.{all_components}
use Rattle.aadl_domains.proofs.laws.components_are_listed.Goals as goal

pub returns : goal.returns
returns c = all_components
