use Rattle.std.proofs.Common.{◌++◌, ◌+◌, ◌*◌, ◌≤◌, length}
use Rattle.hw_text.specs.Language.{Each}
use Rattle.hw_text.specs.Reading.{BeginsWith, Leaves}
use Rattle.c_parse.specs.StatementGrammar.{SpellsStatement, SpellsStatements, LinksFit, SpellsElse, NoElse, ends_body}
use Rattle.c_parse.proofs.StatementChoices.{so_far}
use Rattle.c_parse.proofs.blocks.+statements.Given as goal

abbrev pub decreases-statements : goal.decreases-statements
decreases-statements l = 8 * length l.tokens.now + 6

abbrev pub decreases-statement : goal.decreases-statement
decreases-statement l = 8 * length l.tokens.now + 5

abbrev pub decreases-choice : goal.decreases-choice
decreases-choice l = 8 * length l.tokens.now + 4

abbrev pub decreases-repetition : goal.decreases-repetition
decreases-repetition l = 8 * length l.tokens.now + 4

abbrev pub decreases-branch : goal.decreases-branch
decreases-branch l = 8 * length l.tokens.now + 3

abbrev pub decreases-block : goal.decreases-block
decreases-block l = 8 * length l.tokens.now + 2

abbrev pub decreases-otherwise : goal.decreases-otherwise
decreases-otherwise l = 8 * length l.tokens.now + 1

abbrev pub invariant-statements-all : goal.invariant-statements-all
invariant-statements-all l =
    Leaves (SpellsStatements l.fn.dialect) (BeginsWith ends_body) l.fn.tokens l.tokens (λ later. l.all ++ later) (Each (SpellsStatement l.fn.dialect)) ×
    (length l.tokens ≤ length l.fn.tokens)

abbrev pub decreases-statements-all : goal.decreases-statements-all
decreases-statements-all l = length l.tokens

abbrev pub invariant-otherwise-others : goal.invariant-otherwise-others
invariant-otherwise-others l =
    Leaves (SpellsElse l.fn.dialect 0) NoElse l.fn.tokens l.tokens (so_far l.others) (SpellsElse l.fn.dialect (length l.others)) ×
    (length l.tokens ≤ length l.fn.tokens) × LinksFit l.fn.dialect (length l.others)

abbrev pub decreases-otherwise-others : goal.decreases-otherwise-others
decreases-otherwise-others l = length l.tokens
