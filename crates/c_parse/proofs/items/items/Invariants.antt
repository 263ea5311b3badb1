use Rattle.std.proofs.Common.{◌++◌, length}
use Rattle.hw_text.specs.Language.{Each}
use Rattle.hw_text.specs.Reading.{TheEnd, Leaves}
use Rattle.c_parse.specs.UnitGrammar.{SpellsItem}
use Rattle.c_parse.proofs.items.items.Given as goal

abbrev pub invariant-all : goal.invariant-all
invariant-all l = Leaves (Each (SpellsItem l.fn.dialect)) TheEnd l.fn.tokens l.tokens (λ later. l.all ++ later) (Each (SpellsItem l.fn.dialect))

abbrev pub decreases-all : goal.decreases-all
decreases-all l = length l.tokens
