use Rattle.aadl_parse.specs.Grammar.{SpellsPackage}
use Rattle.aadl_parse.proofs.PrintedLaw.{read_back}
use Rattle.aadl_parse.proofs.reader.parse.Goals as goal

pub returns-clause-accepted : goal.returns-clause-accepted
unfolding SpellsPackage
returns-clause-accepted c = c.read_text.ensures.accepted

pub returns-clause-rejected : goal.returns-clause-rejected
unfolding SpellsPackage
returns-clause-rejected c = c.read_text.ensures.rejected

pub returns-clause-printed : goal.returns-clause-printed
unfolding SpellsPackage
returns-clause-printed c =
    λ p is allowed limits. read_back c.read_text.result c.args.bytes.now c.read_text.ensures.accepted c.read_text.ensures.rejected p is allowed limits
