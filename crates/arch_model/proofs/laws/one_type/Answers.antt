use Rattle.arch_model.proofs.OneType.{one-type}
use Rattle.arch_model.proofs.laws.one_type.Goals as goal

pub returns : goal.returns
returns c = one-type
