use Rattle.std.proofs.Common.{◌++◌, ◌+◌, ◌*◌, ◌≤◌, length}
use Rattle.hw_text.specs.Language.{Each}
use Rattle.hw_text.specs.Reading.{Leaves}
use Rattle.gumbo_parse.specs.Grammar.{Spells, chained, SpellsOperation, SpellsParts, SpellsPart}
use Rattle.gumbo_parse.specs.Levels.{Ends, height, part_shapes}
use Rattle.gumbo_parse.specs.Values.{Without}
use Rattle.gumbo_parse.proofs.+reader.Given as goal

-- each call reads fewer tokens than the one around it, or as many of a tighter level
abbrev pub decreases-levels::read_level : goal.decreases-levels::read_level
decreases-levels::read_level l = 40 * length l.tokens.now + 4 * height l.level + 3

abbrev pub decreases-levels::read_chain : goal.decreases-levels::read_chain
decreases-levels::read_chain l = 40 * length l.tokens.now + 4 * height l.level + 2

abbrev pub decreases-levels::read_pair : goal.decreases-levels::read_pair
decreases-levels::read_pair l = 40 * length l.tokens.now + 4 * height l.level + 2

abbrev pub decreases-levels::read_prefixed : goal.decreases-levels::read_prefixed
decreases-levels::read_prefixed l = 40 * length l.tokens.now + 4 * height l.level + 2

abbrev pub decreases-levels::read_operation : goal.decreases-levels::read_operation
decreases-levels::read_operation l = 40 * length l.tokens.now

abbrev pub decreases-levels::read_started : goal.decreases-levels::read_started
decreases-levels::read_started l = 40 * length l.tokens.now + 36

abbrev pub decreases-operands::read_operand : goal.decreases-operands::read_operand
decreases-operands::read_operand l = 40 * length l.tokens.now + 2

abbrev pub decreases-operands::read_value : goal.decreases-operands::read_value
decreases-operands::read_value l = 40 * length l.tokens.now + 1

abbrev pub decreases-operands::read_before : goal.decreases-operands::read_before
decreases-operands::read_before l = 40 * length l.tokens.now + 1

abbrev pub decreases-operands::read_must_send : goal.decreases-operands::read_must_send
decreases-operands::read_must_send l = 40 * length l.tokens.now + 1

abbrev pub decreases-operands::read_sent : goal.decreases-operands::read_sent
decreases-operands::read_sent l = 40 * length l.tokens.now + 38

abbrev pub decreases-groups::read_parenthesised : goal.decreases-groups::read_parenthesised
decreases-groups::read_parenthesised l = 40 * length l.tokens.now + 1

abbrev pub decreases-groups::read_group : goal.decreases-groups::read_group
decreases-groups::read_group l = 40 * length l.tokens.now + 38

abbrev pub decreases-groups::read_quantified : goal.decreases-groups::read_quantified
decreases-groups::read_quantified l = 40 * length l.tokens.now + 37

abbrev pub decreases-selectors::read_parts : goal.decreases-selectors::read_parts
decreases-selectors::read_parts l = 40 * length l.tokens.now + 30

abbrev pub decreases-selectors::read_part : goal.decreases-selectors::read_part
decreases-selectors::read_part l = 40 * length l.tokens.now + 2

abbrev pub decreases-selectors::read_index : goal.decreases-selectors::read_index
decreases-selectors::read_index l = 40 * length l.tokens.now + 1

abbrev pub invariant-levels::read_chain-operations : goal.invariant-levels::read_chain-operations
invariant-levels::read_chain-operations l =
    Leaves (Spells l.fn.level) (Ends l.fn.level) l.fn.tokens l.tokens (λ os. chained l.left os) (Each (SpellsOperation l.fn.level)) ×
    (length l.tokens ≤ length l.fn.tokens)

abbrev pub decreases-levels::read_chain-operations : goal.decreases-levels::read_chain-operations
decreases-levels::read_chain-operations l = length l.tokens

abbrev pub invariant-selectors::read_parts-parts : goal.invariant-selectors::read_parts-parts
invariant-selectors::read_parts-parts l =
    Leaves SpellsParts (Without part_shapes) l.fn.tokens l.tokens (λ later. l.parts ++ later) (Each SpellsPart) ×
    (length l.tokens ≤ length l.fn.tokens)

abbrev pub decreases-selectors::read_parts-parts : goal.decreases-selectors::read_parts-parts
decreases-selectors::read_parts-parts l = length l.tokens
