use Rattle.std.proofs.Common.{sym, ap, ◌∙◌}
use Rattle.c_tree.specs.Spellings.{numeral_of}
use Rattle.c_tree.proofs.Spellings.{numeral_of_bytes}
use Rattle.c_tree.proofs.numeral.Numeral.read.Goals as goal

pub returns : goal.returns
returns c = sym (numeral_of_bytes c.in_ok-literal.literal) ∙ ap numeral_of c.in_ok-literal.ensures
