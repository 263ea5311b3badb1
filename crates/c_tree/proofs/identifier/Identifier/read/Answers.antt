use Rattle.std.proofs.Common.{sym, ap, ◌∙◌}
use Rattle.c_tree.specs.Spellings.{identifier_of}
use Rattle.c_tree.proofs.Spellings.{identifier_of_bytes}
use Rattle.c_tree.proofs.identifier.Identifier.read.Goals as goal

pub returns : goal.returns
returns c = sym (identifier_of_bytes c.in_ok-name.name) ∙ ap identifier_of c.in_ok-name.ensures
