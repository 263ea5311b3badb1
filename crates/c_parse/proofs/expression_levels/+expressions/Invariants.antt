use Rattle.std.proofs.Common.{◌+◌, ◌-◌, ◌*◌, ◌≤◌, ◌++◌, length}
use Rattle.hw_text.specs.Reading.{BeginsWithout, Leaves}
use Rattle.c_parse.specs.Operators.{Ends, is_selector}
use Rattle.c_parse.specs.ExpressionGrammar.{chained, SpellsExpression, SpellsOperations, SpellsParts}
use Rattle.c_parse.specs.PartGrammar.{from_name, SpellsPart}
use Rattle.hw_text.specs.Language.{Each}
use Rattle.c_parse.proofs.expression_levels.+expressions.Given as goal

abbrev pub decreases-of_level : goal.decreases-of_level
decreases-of_level l = 32 * length l.tokens.now + (20 - l.level)

abbrev pub decreases-operand_from : goal.decreases-operand_from
decreases-operand_from l = 32 * length l.tokens.now + 8

abbrev pub decreases-operand : goal.decreases-operand
decreases-operand l = 32 * length l.tokens.now + 7

abbrev pub decreases-value : goal.decreases-value
decreases-value l = 32 * length l.tokens.now + 6

abbrev pub decreases-prefixed : goal.decreases-prefixed
decreases-prefixed l = 32 * length l.tokens.now + 6

abbrev pub decreases-opened : goal.decreases-opened
decreases-opened l = 32 * length l.tokens.now + 6

abbrev pub decreases-lvalue : goal.decreases-lvalue
decreases-lvalue l = 32 * length l.tokens.now + 5

abbrev pub decreases-selectors : goal.decreases-selectors
decreases-selectors l = 32 * length l.tokens.now + 4

abbrev pub decreases-selector : goal.decreases-selector
decreases-selector l = 32 * length l.tokens.now + 3

abbrev pub invariant-of_level-operations : goal.invariant-of_level-operations
invariant-of_level-operations l =
    Leaves (SpellsExpression l.fn.dialect l.fn.level) (Ends l.fn.level) (from_name l.fn.passed l.fn.tokens) l.tokens (λ os. chained l.left os) (SpellsOperations l.fn.dialect l.fn.level) ×
    (length l.tokens ≤ length l.fn.tokens)

abbrev pub decreases-of_level-operations : goal.decreases-of_level-operations
decreases-of_level-operations l = length l.tokens

abbrev pub invariant-selectors-parts : goal.invariant-selectors-parts
invariant-selectors-parts l =
    Leaves (SpellsParts l.fn.dialect) (BeginsWithout is_selector) l.fn.tokens l.tokens (λ later. l.parts ++ later) (Each (SpellsPart l.fn.dialect)) ×
    (length l.tokens ≤ length l.fn.tokens)

abbrev pub decreases-selectors-parts : goal.decreases-selectors-parts
decreases-selectors-parts l = length l.tokens
