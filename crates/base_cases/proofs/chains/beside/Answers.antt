use Rattle.std.proofs.Common.{[], ◌∷◌}
use Rattle.base_cases.proofs.chains.beside.Goals as goal

pub with-requires-2 : goal.with-requires-2
with-requires-2 c = (c.requires.first.0 ∷ [], c.requires.second.0, c.in_ok-one.ensures [] c.requires.first.0 c.new.ensures c.requires.first.1, c.requires.second.1)

pub into_extent-requires : goal.into_extent-requires
into_extent-requires c = (
  c.requires.first.0 ∷ c.requires.second.0 ∷ [],
  c.in_ok-two.ensures (c.requires.first.0 ∷ []) c.requires.second.0 (c.in_ok-one.ensures [] c.requires.first.0 c.new.ensures c.requires.first.1) c.requires.second.1,
)

pub returns : goal.returns
returns c = (
  _,
  c.into_extent.ensures (c.requires.first.0 ∷ c.requires.second.0 ∷ [])
      (c.in_ok-two.ensures (c.requires.first.0 ∷ []) c.requires.second.0 (c.in_ok-one.ensures [] c.requires.first.0 c.new.ensures c.requires.first.1) c.requires.second.1),
)
