use Rattle.hw_types.proofs.Alignments.{aligned_up-mod, aligned_up-ge, aligned_up-lt}
use Rattle.hw_types.proofs.laws.aligned_least.Goals as goal

pub returns : goal.returns
returns c = record { multiple = aligned_up-mod; above = aligned_up-ge; least = aligned_up-lt }
