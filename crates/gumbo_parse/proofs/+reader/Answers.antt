use Rattle.std.proofs.Common.{◌∙◌, sym, ap, arith, List, [], ◌∷◌, ◌++◌, append_assoc, append-nil}
use Rattle.hw_text.specs.Language.{Each}
use Rattle.hw_text.specs.Reading.{Anything}
use Rattle.hw_text.proofs.Reading.{rebuilt}
use Rattle.hw_reading.specs.Shapes.{shapes_of}
use Rattle.gumbo_parse.specs.declared.shape.Shape.TheVariants as shape
use Rattle.gumbo_parse.specs.declared.expression.Selector.{Selector}
use Rattle.gumbo_parse.specs.declared.level.Level.TheVariants as level
use Rattle.gumbo_parse.specs.declared.mark.Mark.TheVariants as mark
use Rattle.gumbo_parse.specs.Grammar.{Spells, SpellsOperation, SpellsOperand, SpellsNumber, SpellsTruth, SpellsTest, SpellsValue, SpellsBefore, SpellsMustSend, SpellsParenthesised, SpellsQuantified, SpellsField, SpellsParts, SpellsPart, SpellsIndex, chained}
use Rattle.gumbo_parse.specs.Levels.{next, right, infixes, prefixes, goes_on, part_shapes, Ends}
use Rattle.gumbo_parse.specs.Values.{one_of, Without}
use Rattle.hw_reading.proofs.Choices.{handed, same, first_of, second_of, no_option, an_option, no_member, a_member, no_members, nothing, members-follow, maybe-follows, opened_as, read-shorter, no-longer}
use Rattle.gumbo_parse.proofs.Shapes.{apart}
use Rattle.gumbo_parse.proofs.LevelFacts.{starts, ends-next, ends-infix, ends-right, ends-operand, apart-next, apart-right, apart-prefix}
use Rattle.gumbo_parse.proofs.LevelForms.{UnaryForm, operand-opened, operand-shut, operation-begins, chain_opening, pair_opening, prefix_opening, operation_opening, spells-begins, unary-begins}
use Rattle.gumbo_parse.proofs.OperandSteps.{number_there, truth_there, test_there, value_there, before_there, send_there, group_there, value_opening, before_opening, send_opening, parenthesised_opening, quantified_opening, index_opening, close-ends, close-sent, bracket-ends, sent_opening, comma-begins, quantified_there, whole_there, part-begins, field_there, index_there, no_parts_there, nothing_there, parts_opening, no-comma, comma-ends}
use Rattle.hw_reading.proofs.Choices.{both}
use Rattle.gumbo_parse.proofs.PortForms.{a_sign}
use Rattle.gumbo_parse.proofs.Samples.{a_spelled, a_started, a_group}
use Rattle.gumbo_parse.proofs.StartedReads.{started-read, started-halt, moved}
use Rattle.hw_reading.proofs.Steps.{then, halt, next_before, halt_before, final, final_halt, final_before, final_halt_before}
use Rattle.gumbo_parse.proofs.+reader.Goals as goal

pub levels::read_level-returns-in-Operand : goal.levels::read_level-returns-in-Operand
levels::read_level-returns-in-Operand t c =
    let l = c.args.level in
    let is = sym c.form.ensures ∙ c.in-Operand.is in
    same (Spells l) SpellsOperand (Without part_shapes) _ _ _ (operand-opened l is) (operand-shut l is) (ends-operand l is) c.read_operand.ensures

pub levels::read_chain-returns-in_err-left : goal.levels::read_chain-returns-in_err-left
levels::read_chain-returns-in_err-left t c =
    let l = c.args.level in
    halt_before _ _ _ _ _ (chain_opening l _ c.requires)
    (members-follow (SpellsOperation l) (one_of (shapes_of (infixes l))) (one_of (goes_on (next l))) (operation-begins l) (apart (shapes_of (infixes l)) (goes_on (next l)) (apart-next l)) (ends-next l)) no_members
    c.from_residual.ensures.1 (moved _ _ _ _ _ c.next.ensures c.in_err-left.ensures)

pub levels::read_chain-operations-init : goal.levels::read_chain-operations-init
levels::read_chain-operations-init t c =
    let l = c.args.level in
    let first = rw c.next.ensures at c.in_ok-left.ensures in (
      next_before (chain_opening l _ c.requires) (members-follow (SpellsOperation l) (one_of (shapes_of (infixes l))) (one_of (goes_on (next l))) (operation-begins l) (apart (shapes_of (infixes l)) (goes_on (next l)) (apart-next l)) (ends-next l)) first,
      no-longer first,
    )

pub levels::read_chain-returns-in_err-operation : goal.levels::read_chain-returns-in_err-operation
levels::read_chain-returns-in_err-operation t c =
    let l = c.args.level in
    halt_before _ _ _ _ _ (a_member (one_of (shapes_of (infixes l))) (sym c.stands_infix.ensures ∙ c.operations-test.true) (ends-infix l) c.operations.invariant.0)
    (members-follow (SpellsOperation l) (one_of (shapes_of (infixes l))) (one_of (goes_on (right l))) (operation-begins l) (apart (shapes_of (infixes l)) (goes_on (right l)) (apart-right l c.requires)) (ends-right l)) no_members
    c.from_residual-in_err-operation.ensures.1 c.in_err-operation.ensures

pub levels::read_chain-operations-smaller : goal.levels::read_chain-operations-smaller
levels::read_chain-operations-smaller t c = read-shorter (one_of (shapes_of (infixes c.args.level))) (operation-begins c.args.level) c.in_ok-operation.ensures

pub levels::read_chain-operations-preserved : goal.levels::read_chain-operations-preserved
levels::read_chain-operations-preserved t c =
    let l = c.args.level in
    let so = next_before (a_member (one_of (shapes_of (infixes l))) (sym c.stands_infix.ensures ∙ c.operations-test.true) (ends-infix l) c.operations.invariant.0)
    (members-follow (SpellsOperation l) (one_of (shapes_of (infixes l))) (one_of (goes_on (right l))) (operation-begins l) (apart (shapes_of (infixes l)) (goes_on (right l)) (apart-right l c.requires)) (ends-right l)) c.in_ok-operation.ensures in (
      rebuilt (Spells l) (Ends l) _ _ _ _ (Each (SpellsOperation l)) (λ os. ap (λ x. chained x os) (sym c.in_ok-left-2.ensures)) so,
      omega (arith, c.operations.invariant.1, no-longer c.in_ok-operation.ensures),
    )

pub levels::read_chain-returns : goal.levels::read_chain-returns
levels::read_chain-returns t c =
    no_member (one_of (shapes_of (infixes c.args.level))) (operation-begins c.args.level) (sym c.stands_infix.ensures ∙ c.operations-test.false) c.operations.invariant.0

pub levels::read_pair-returns-in_err-left : goal.levels::read_pair-returns-in_err-left
levels::read_pair-returns-in_err-left t c =
    let l = c.args.level in
    halt_before _ _ _ _ _ (pair_opening l _ c.requires)
    (maybe-follows (SpellsOperation l) (one_of (shapes_of (infixes l))) (one_of (goes_on (next l))) (operation-begins l) (apart (shapes_of (infixes l)) (goes_on (next l)) (apart-next l)) (ends-next l)) nothing
    c.from_residual.ensures.1 (moved _ _ _ _ _ c.next.ensures c.in_err-left.ensures)

pub levels::read_pair-returns-then-not-stands_infix : goal.levels::read_pair-returns-then-not-stands_infix
levels::read_pair-returns-then-not-stands_infix t c =
    let l = c.args.level in
    no_option (one_of (shapes_of (infixes l))) (operation-begins l) (sym c.stands_infix.ensures ∙ c.if-not-stands_infix.true)
    (next_before (pair_opening l _ c.requires) (maybe-follows (SpellsOperation l) (one_of (shapes_of (infixes l))) (one_of (goes_on (next l))) (operation-begins l) (apart (shapes_of (infixes l)) (goes_on (next l)) (apart-next l)) (ends-next l))
    (rw c.next.ensures at c.in_ok-left.ensures))

pub levels::read_pair-returns-in_err-operation : goal.levels::read_pair-returns-in_err-operation
levels::read_pair-returns-in_err-operation t c =
    let l = c.args.level in
    final_halt_before _ _ _ _ (an_option (one_of (shapes_of (infixes l))) (sym c.stands_infix.ensures ∙ c.if-not-stands_infix.false) (ends-infix l)
    (next_before (pair_opening l _ c.requires) (maybe-follows (SpellsOperation l) (one_of (shapes_of (infixes l))) (one_of (goes_on (next l))) (operation-begins l) (apart (shapes_of (infixes l)) (goes_on (next l)) (apart-next l)) (ends-next l))
    (rw c.next.ensures at c.in_ok-left.ensures))) (ends-right l) c.from_residual-in_err-operation.ensures.1 c.in_err-operation.ensures

pub levels::read_pair-returns : goal.levels::read_pair-returns
levels::read_pair-returns t c =
    let l = c.args.level in
    let so = final_before (an_option (one_of (shapes_of (infixes l))) (sym c.stands_infix.ensures ∙ c.if-not-stands_infix.false) (ends-infix l)
    (next_before (pair_opening l _ c.requires) (maybe-follows (SpellsOperation l) (one_of (shapes_of (infixes l))) (one_of (goes_on (next l))) (operation-begins l) (apart (shapes_of (infixes l)) (goes_on (next l)) (apart-next l)) (ends-next l))
    (rw c.next.ensures at c.in_ok-left.ensures))) (ends-right l) c.in_ok-operation.ensures in
    rw c.in_ok-both.ensures so

pub levels::read_prefixed-returns-in_err-place : goal.levels::read_prefixed-returns-in_err-place
levels::read_prefixed-returns-in_err-place t c =
    let l = c.args.level in
    halt _ _ _ _ (opened_as (first_of (UnaryForm l) (Spells (next l)) (one_of (shapes_of (prefixes l))) (one_of (starts (next l))) (spells-begins (next l)) (apart (starts (next l)) (shapes_of (prefixes l)) (apart-prefix l c.requires)) (sym c.stands_prefix.ensures ∙ c.if-stands_prefix.true) (prefix_opening l _ c.requires)))
    (a_spelled l) c.from_residual.ensures.1 c.in_err-place.ensures

pub levels::read_prefixed-returns-in_err-operand : goal.levels::read_prefixed-returns-in_err-operand
levels::read_prefixed-returns-in_err-operand t c =
    let l = c.args.level in
    final_halt_before _ _ _ _
    (then (opened_as (first_of (UnaryForm l) (Spells (next l)) (one_of (shapes_of (prefixes l))) (one_of (starts (next l))) (spells-begins (next l)) (apart (starts (next l)) (shapes_of (prefixes l)) (apart-prefix l c.requires)) (sym c.stands_prefix.ensures ∙ c.if-stands_prefix.true) (prefix_opening l _ c.requires)))
    c.in_ok-place.ensures) (λ m ends. ends) c.from_residual-in_err-operand.ensures.1 c.in_err-operand.ensures

pub levels::read_prefixed-returns-then-stands_prefix : goal.levels::read_prefixed-returns-then-stands_prefix
levels::read_prefixed-returns-then-stands_prefix t c =
    let l = c.args.level in
    let so = final_before
    (then (opened_as (first_of (UnaryForm l) (Spells (next l)) (one_of (shapes_of (prefixes l))) (one_of (starts (next l))) (spells-begins (next l)) (apart (starts (next l)) (shapes_of (prefixes l)) (apart-prefix l c.requires)) (sym c.stands_prefix.ensures ∙ c.if-stands_prefix.true) (prefix_opening l _ c.requires)))
    c.in_ok-place.ensures) (λ m ends. ends) c.in_ok-operand.ensures in
    rw c.in_ok-operand-2.ensures so

pub levels::read_prefixed-returns : goal.levels::read_prefixed-returns
levels::read_prefixed-returns t c =
    let l = c.args.level in
    handed (Spells (next l)) (Ends (next l)) _ _ (second_of (UnaryForm l) (Spells (next l)) (one_of (shapes_of (prefixes l))) (unary-begins l) (sym c.stands_prefix.ensures ∙ c.if-stands_prefix.false) (prefix_opening l _ c.requires))
    (ends-next l) (rw c.next.ensures at c.read_level.ensures)

pub levels::read_operation-returns-in_err-place : goal.levels::read_operation-returns-in_err-place
levels::read_operation-returns-in_err-place t c = halt _ _ _ _ (operation_opening c.args.level _) (a_spelled (right c.args.level)) c.from_residual.ensures.1 c.in_err-place.ensures

pub levels::read_operation-returns-in_err-operand : goal.levels::read_operation-returns-in_err-operand
levels::read_operation-returns-in_err-operand t c =
    final_halt_before _ _ _ _ (then (operation_opening c.args.level _) c.in_ok-place.ensures) (λ m ends. ends) c.from_residual-in_err-operand.ensures.1
    (moved _ _ _ _ _ c.right.ensures c.in_err-operand.ensures)

pub levels::read_operation-returns : goal.levels::read_operation-returns
levels::read_operation-returns t c =
    final_before (then (operation_opening c.args.level _) c.in_ok-place.ensures) (λ m ends. ends) (rw c.right.ensures at c.in_ok-operand.ensures)

pub levels::read_started-returns-in_err-expression : goal.levels::read_started-returns-in_err-expression
levels::read_started-returns-in_err-expression t c = started-halt _ _ _ _ c.from_residual.ensures.1 c.in_err-expression.ensures

pub levels::read_started-returns : goal.levels::read_started-returns
levels::read_started-returns t c = started-read _ _ _ _ c.start_of-start.ensures c.in_ok-expression.ensures

pub operands::read_operand-returns-then-stands : goal.operands::read_operand-returns-then-stands
operands::read_operand-returns-then-stands t c =
    handed SpellsNumber Anything _ _ (number_there _ (sym c.stands.ensures ∙ c.if-stands.true)) (λ m ends. tt) c.read_number.ensures

pub operands::read_operand-returns-then-stands_listed : goal.operands::read_operand-returns-then-stands_listed
operands::read_operand-returns-then-stands_listed t c =
    handed SpellsTruth Anything _ _ (truth_there _ (sym c.stands.ensures ∙ c.if-stands.false) (sym c.stands_listed.ensures ∙ c.if-stands_listed.true)) (λ m ends. tt) c.read_truth.ensures

pub operands::read_operand-returns-then-stands_listed-2 : goal.operands::read_operand-returns-then-stands_listed-2
operands::read_operand-returns-then-stands_listed-2 t c =
    handed SpellsTest Anything _ _ (test_there _ (sym c.stands.ensures ∙ c.if-stands.false) (sym c.stands_listed.ensures ∙ c.if-stands_listed.false) (sym c.stands_listed-2.ensures ∙ c.if-stands_listed-2.true))
    (λ m ends. tt) c.read_test.ensures

pub operands::read_operand-returns-then-stands_either : goal.operands::read_operand-returns-then-stands_either
operands::read_operand-returns-then-stands_either t c =
    handed SpellsValue (Without part_shapes) _ _
    (value_there _ (sym c.stands.ensures ∙ c.if-stands.false) (sym c.stands_listed.ensures ∙ c.if-stands_listed.false) (sym c.stands_listed-2.ensures ∙ c.if-stands_listed-2.false)
    (sym c.stands_either.ensures ∙ c.if-stands_either.true)) (λ m ends. ends) c.read_value.ensures

pub operands::read_operand-returns-then-stands-2 : goal.operands::read_operand-returns-then-stands-2
operands::read_operand-returns-then-stands-2 t c =
    handed SpellsBefore (Without part_shapes) _ _
    (before_there _ (sym c.stands.ensures ∙ c.if-stands.false) (sym c.stands_listed.ensures ∙ c.if-stands_listed.false) (sym c.stands_listed-2.ensures ∙ c.if-stands_listed-2.false)
    (sym c.stands_either.ensures ∙ c.if-stands_either.false) (sym c.stands-2.ensures ∙ c.if-stands-2.true)) (λ m ends. ends) c.read_before.ensures

pub operands::read_operand-returns-then-stands-3 : goal.operands::read_operand-returns-then-stands-3
operands::read_operand-returns-then-stands-3 t c =
    handed SpellsMustSend Anything _ _
    (send_there _ (sym c.stands.ensures ∙ c.if-stands.false) (sym c.stands_listed.ensures ∙ c.if-stands_listed.false) (sym c.stands_listed-2.ensures ∙ c.if-stands_listed-2.false)
    (sym c.stands_either.ensures ∙ c.if-stands_either.false) (sym c.stands-2.ensures ∙ c.if-stands-2.false) (sym c.stands-3.ensures ∙ c.if-stands-3.true))
    (λ m ends. tt) c.read_must_send.ensures

pub operands::read_operand-returns : goal.operands::read_operand-returns
operands::read_operand-returns t c =
    handed SpellsParenthesised Anything _ _
    (group_there _ (sym c.stands.ensures ∙ c.if-stands.false) (sym c.stands_listed.ensures ∙ c.if-stands_listed.false) (sym c.stands_listed-2.ensures ∙ c.if-stands_listed-2.false)
    (sym c.stands_either.ensures ∙ c.if-stands_either.false) (sym c.stands-2.ensures ∙ c.if-stands-2.false) (sym c.stands-3.ensures ∙ c.if-stands-3.false))
    (λ m ends. tt) c.read_parenthesised.ensures

pub operands::read_value-returns-in_err-named : goal.operands::read_value-returns-in_err-named
operands::read_value-returns-in_err-named t c = halt _ _ _ _ (value_opening _) no_parts_there c.from_residual.ensures.1 c.in_err-named.ensures

pub operands::read_value-returns-in_err-parts : goal.operands::read_value-returns-in_err-parts
operands::read_value-returns-in_err-parts t c =
    final_halt_before _ _ _ _ (then (value_opening _) c.in_ok-named.ensures) (λ m ends. ends) c.from_residual-in_err-parts.ensures.1 c.in_err-parts.ensures

pub operands::read_value-returns : goal.operands::read_value-returns
operands::read_value-returns t c = final_before (then (value_opening _) c.in_ok-named.ensures) (λ m ends. ends) c.in_ok-parts.ensures

pub operands::read_before-returns-in_err-place : goal.operands::read_before-returns-in_err-place
operands::read_before-returns-in_err-place t c = halt _ _ _ _ (before_opening _) no_parts_there c.from_residual.ensures.1 c.in_err-place.ensures

pub operands::read_before-returns-in_err-parts : goal.operands::read_before-returns-in_err-parts
operands::read_before-returns-in_err-parts t c =
    final_halt_before _ _ _ _ (then (before_opening _) c.in_ok-place.ensures) (λ m ends. ends) c.from_residual-in_err-parts.ensures.1 c.in_err-parts.ensures

pub operands::read_before-returns : goal.operands::read_before-returns
operands::read_before-returns t c = final_before (then (before_opening _) c.in_ok-place.ensures) (λ m ends. ends) c.in_ok-parts.ensures

pub operands::read_must_send-returns-in_err-place : goal.operands::read_must_send-returns-in_err-place
operands::read_must_send-returns-in_err-place t c =
    halt _ _ _ _ (send_opening _) (both nothing_there (a_sign mark.CloseParenthesis)) c.from_residual.ensures.1 c.in_err-place.ensures

pub operands::read_must_send-returns-in_err-sent : goal.operands::read_must_send-returns-in_err-sent
operands::read_must_send-returns-in_err-sent t c =
    halt_before _ _ _ _ _ (then (send_opening _) c.in_ok-place.ensures) close-sent (a_sign mark.CloseParenthesis) c.from_residual-in_err-sent.ensures.1 c.in_err-sent.ensures

pub operands::read_must_send-returns-in_err-symbol : goal.operands::read_must_send-returns-in_err-symbol
operands::read_must_send-returns-in_err-symbol t c =
    final_halt _ _ _ (next_before (then (send_opening _) c.in_ok-place.ensures) close-sent c.in_ok-sent.ensures) c.from_residual-in_err-symbol.ensures.1 c.in_err-symbol.ensures

pub operands::read_must_send-returns-in_ok-value-in-Some : goal.operands::read_must_send-returns-in_ok-value-in-Some
operands::read_must_send-returns-in_ok-value-in-Some t c =
    let so = final (next_before (then (send_opening _) c.in_ok-place.ensures) close-sent c.in_ok-sent.ensures) c.in_ok-symbol.ensures in
    rw c.in_ok-value-in-Some.ensures (rw c.in-Some.is at so)

pub operands::read_must_send-returns-in-None : goal.operands::read_must_send-returns-in-None
operands::read_must_send-returns-in-None t c =
    let so = final (next_before (then (send_opening _) c.in_ok-place.ensures) close-sent c.in_ok-sent.ensures) c.in_ok-symbol.ensures in
    rw c.in-None.is at so

pub operands::read_sent-returns-then-not-stands : goal.operands::read_sent-returns-then-not-stands
operands::read_sent-returns-then-not-stands t c =
    no_option (one_of (shape.Mark mark.Comma ∷ [])) comma-begins (sym c.stands.ensures ∙ c.if-not-stands.true) (sent_opening _)

pub operands::read_sent-returns-in_err-symbol : goal.operands::read_sent-returns-in_err-symbol
operands::read_sent-returns-in_err-symbol t c =
    halt _ _ _ _ (opened_as (an_option (one_of (shape.Mark mark.Comma ∷ [])) (sym c.stands.ensures ∙ c.if-not-stands.false) no-comma (sent_opening _))) a_started
    c.from_residual.ensures.1 c.in_err-symbol.ensures

pub operands::read_sent-returns-in_err-sent : goal.operands::read_sent-returns-in_err-sent
operands::read_sent-returns-in_err-sent t c =
    final_halt_before _ _ _ _ (then (opened_as (an_option (one_of (shape.Mark mark.Comma ∷ [])) (sym c.stands.ensures ∙ c.if-not-stands.false) no-comma (sent_opening _))) c.in_ok-symbol.ensures)
    comma-ends c.from_residual-in_err-sent.ensures.1 c.in_err-sent.ensures

pub operands::read_sent-returns : goal.operands::read_sent-returns
operands::read_sent-returns t c =
    final_before (then (opened_as (an_option (one_of (shape.Mark mark.Comma ∷ [])) (sym c.stands.ensures ∙ c.if-not-stands.false) no-comma (sent_opening _))) c.in_ok-symbol.ensures)
    comma-ends c.in_ok-sent.ensures

pub groups::read_parenthesised-returns-in_err-symbol : goal.groups::read_parenthesised-returns-in_err-symbol
groups::read_parenthesised-returns-in_err-symbol t c =
    halt _ _ _ _ (parenthesised_opening _) (both a_group (a_sign mark.CloseParenthesis)) c.from_residual.ensures.1 c.in_err-symbol.ensures

pub groups::read_parenthesised-returns-in_err-inner : goal.groups::read_parenthesised-returns-in_err-inner
groups::read_parenthesised-returns-in_err-inner t c =
    halt_before _ _ _ _ _ (then (parenthesised_opening _) c.in_ok-symbol.ensures) close-ends (a_sign mark.CloseParenthesis) c.from_residual-in_err-inner.ensures.1 c.in_err-inner.ensures

pub groups::read_parenthesised-returns-in_err-symbol-2 : goal.groups::read_parenthesised-returns-in_err-symbol-2
groups::read_parenthesised-returns-in_err-symbol-2 t c =
    final_halt _ _ _ (next_before (then (parenthesised_opening _) c.in_ok-symbol.ensures) close-ends c.in_ok-inner.ensures) c.from_residual-in_err-symbol-2.ensures.1 c.in_err-symbol-2.ensures

pub groups::read_parenthesised-returns : goal.groups::read_parenthesised-returns
groups::read_parenthesised-returns t c =
    final (next_before (then (parenthesised_opening _) c.in_ok-symbol.ensures) close-ends c.in_ok-inner.ensures) c.in_ok-symbol-2.ensures

pub groups::read_group-returns-then-stands_listed : goal.groups::read_group-returns-then-stands_listed
groups::read_group-returns-then-stands_listed t c =
    handed SpellsQuantified (Ends level.Implication) _ _ (quantified_there _ (sym c.stands_listed.ensures ∙ c.if-stands_listed.true)) (λ m ends. ends) c.read_quantified.ensures

pub groups::read_group-returns : goal.groups::read_group-returns
groups::read_group-returns t c =
    handed (Spells level.Implication) (Ends level.Implication) _ _ (whole_there _ (sym c.stands_listed.ensures ∙ c.if-stands_listed.false)) (λ m ends. ends) c.read_level.ensures

pub groups::read_quantified-returns-in_err-heading : goal.groups::read_quantified-returns-in_err-heading
groups::read_quantified-returns-in_err-heading t c = halt _ _ _ _ (quantified_opening _) a_started c.from_residual.ensures.1 c.in_err-heading.ensures

pub groups::read_quantified-returns-in_err-body_place : goal.groups::read_quantified-returns-in_err-body_place
groups::read_quantified-returns-in_err-body_place t c =
    final_halt_before _ _ _ _ (then (quantified_opening _) c.in_ok-heading.ensures) (λ m ends. ends) c.from_residual-in_err-body_place.ensures.1 c.in_err-body_place.ensures

pub groups::read_quantified-returns : goal.groups::read_quantified-returns
groups::read_quantified-returns t c =
    let so = final_before (then (quantified_opening _) c.in_ok-heading.ensures) (λ m ends. ends) c.in_ok-body_place.ensures in
    rw c.in_ok-body.ensures so

pub selectors::read_parts-parts-init : goal.selectors::read_parts-parts-init
selectors::read_parts-parts-init t c = (parts_opening _ c.new-parts.ensures _, omega arith)

pub selectors::read_parts-returns-in_err-part : goal.selectors::read_parts-returns-in_err-part
selectors::read_parts-returns-in_err-part t c =
    halt _ _ _ _ (a_member (one_of part_shapes) (sym c.stands_either.ensures ∙ c.parts-test.true) (λ m ends. ends) c.parts.invariant.0) no_members c.from_residual.ensures.1 c.in_err-part.ensures

pub selectors::read_parts-parts-preserved : goal.selectors::read_parts-parts-preserved
selectors::read_parts-parts-preserved t c =
    let so = then (a_member (one_of part_shapes) (sym c.stands_either.ensures ∙ c.parts-test.true) (λ m ends. ends) c.parts.invariant.0) c.in_ok-part.ensures in (
      rebuilt SpellsParts (Without part_shapes) _ _ _ _ (Each SpellsPart)
          (λ later. sym (append_assoc c.parts.parts (c.in_ok-part.part ∷ []) later) ∙ ap (λ (l : List Selector). l ++ later) (sym c.in_ok-push.ensures.ok)) so,
      omega (arith, c.parts.invariant.1, no-longer c.in_ok-part.ensures),
    )

pub selectors::read_parts-returns : goal.selectors::read_parts-returns
selectors::read_parts-returns t c =
    rw (append-nil c.parts.parts) at (no_member (one_of part_shapes) part-begins (sym c.stands_either.ensures ∙ c.parts-test.false) c.parts.invariant.0)

pub selectors::read_part-returns-then-stands : goal.selectors::read_part-returns-then-stands
selectors::read_part-returns-then-stands t c =
    handed SpellsField Anything _ _ (field_there _ (sym c.stands.ensures ∙ c.if-stands.true)) (λ m ends. tt) c.read_field.ensures

pub selectors::read_part-returns : goal.selectors::read_part-returns
selectors::read_part-returns t c =
    handed SpellsIndex Anything _ _ (index_there _ (sym c.stands.ensures ∙ c.if-stands.false)) (λ m ends. tt) c.read_index.ensures

pub selectors::read_index-returns-in_err-symbol : goal.selectors::read_index-returns-in_err-symbol
selectors::read_index-returns-in_err-symbol t c =
    halt _ _ _ _ (index_opening _) (both a_started (a_sign mark.CloseBracket)) c.from_residual.ensures.1 c.in_err-symbol.ensures

pub selectors::read_index-returns-in_err-start : goal.selectors::read_index-returns-in_err-start
selectors::read_index-returns-in_err-start t c =
    halt_before _ _ _ _ _ (then (index_opening _) c.in_ok-symbol.ensures) bracket-ends (a_sign mark.CloseBracket) c.from_residual-in_err-start.ensures.1 c.in_err-start.ensures

pub selectors::read_index-returns-in_err-symbol-2 : goal.selectors::read_index-returns-in_err-symbol-2
selectors::read_index-returns-in_err-symbol-2 t c =
    final_halt _ _ _ (next_before (then (index_opening _) c.in_ok-symbol.ensures) bracket-ends c.in_ok-start.ensures) c.from_residual-in_err-symbol-2.ensures.1 c.in_err-symbol-2.ensures

pub selectors::read_index-returns : goal.selectors::read_index-returns
selectors::read_index-returns t c =
    final (next_before (then (index_opening _) c.in_ok-symbol.ensures) bracket-ends c.in_ok-start.ensures) c.in_ok-symbol-2.ensures
