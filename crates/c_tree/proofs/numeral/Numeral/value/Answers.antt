use Rattle.c_tree.proofs.Spellings.{numeral_typed}
use Rattle.c_tree.proofs.numeral.Numeral.value.Goals as goal

pub unreachable-requires : goal.unreachable-requires
unreachable-requires c = numeral_typed c.args.self.now.bytes c.args.self.now.spelled (rw (c.in-None.is, c.rows.ensures) at c.meaning.ensures.none)
