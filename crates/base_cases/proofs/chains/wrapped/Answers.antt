use Rattle.std.proofs.Common.{[], ◌∷◌}
use Rattle.base_cases.proofs.chains.wrapped.Goals as goal

pub into_extent-requires : goal.into_extent-requires
into_extent-requires c = (c.requires.0 ∷ [], c.in_ok-members.ensures [] c.requires.0 c.new.ensures c.requires.1)

pub returns : goal.returns
returns c = (_, c.into_extent.ensures (c.requires.0 ∷ []) (c.in_ok-members.ensures [] c.requires.0 c.new.ensures c.requires.1))
