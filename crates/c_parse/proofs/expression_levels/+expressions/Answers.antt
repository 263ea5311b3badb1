use Rattle.std.proofs.Common.{◌∙◌, sym, subst, arith, ℕ, ◌+◌}
use Rattle.hw_text.proofs.Reading.{failed}
use Rattle.c_parse.specs.declared.mark.Mark.TheVariants as mark
use Rattle.c_parse.specs.Operators.{Ends}
use Rattle.c_parse.proofs.Steps.{fails, made, passed, passed_by, stuck_in, stuck_by, stuck_last, stuck_last_by, done, done_by, handed, as_value, both}
use Rattle.c_parse.proofs.Lists.{member_stuck, member_read, member_shorter, list_read}
use Rattle.c_parse.proofs.Leaves.{the_sign, the_name}
use Rattle.c_parse.proofs.BaseTexts.{name_passed, none_passed}
use Rattle.c_parse.proofs.PartTexts.{ends-selector, no_parts, parts_listed, parts_follow, parts_begun, lvalue_left, member_there, index_there}
use Rattle.c_parse.proofs.Chains.{first-stuck, first-read}
use Rattle.c_parse.proofs.LevelTexts.{tightest, passed-shorter, right-operand-stuck, operation-read, operation-shorter, level-read}
use Rattle.c_parse.proofs.OperandTexts.{an_operand, a_whole, bracket-ends, close-ends, an_enclosed, named_there, value_there, opened_there, prefixed_there, number_there, truth_there, cast_there, pointed_there, enclosed_there}
use Rattle.c_parse.proofs.expression_levels.+expressions.Goals as goal

pub lvalue-returns-in_err-base : goal.lvalue-returns-in_err-base
lvalue-returns-in_err-base t c = fails _ _ c.from_residual.ensures.1 c.in_err-base.ensures (stuck_by (lvalue_left _ _) (parts_follow _) (no_parts _))

pub lvalue-returns-in_err-parts : goal.lvalue-returns-in_err-parts
lvalue-returns-in_err-parts t c =
    fails _ _ c.from_residual-in_err-parts.ensures.1 c.in_err-parts.ensures
    (stuck_last_by (passed_by (lvalue_left _ _) (parts_follow _) c.in_ok-base.ensures) (λ m follows. follows))

pub lvalue-returns : goal.lvalue-returns
lvalue-returns t c = done_by (passed_by (lvalue_left _ _) (parts_follow _) c.in_ok-base.ensures) (λ m follows. follows) c.in_ok-parts.ensures

pub selector-returns-in_err-sign : goal.selector-returns-in_err-sign
selector-returns-in_err-sign t c = fails _ _ c.from_residual.ensures.1 c.in_err-sign.ensures (stuck_in (member_there _ _ (sym c.stands.ensures ∙ c.if-stands.true)) the_name)

pub selector-returns-in_err-member : goal.selector-returns-in_err-member
selector-returns-in_err-member t c =
    fails _ _ c.from_residual-in_err-member.ensures.1 c.in_err-member.ensures
    (stuck_last (passed (member_there _ _ (sym c.stands.ensures ∙ c.if-stands.true)) c.in_ok-sign.ensures))

pub selector-returns-then-stands : goal.selector-returns-then-stands
selector-returns-then-stands t c = done (passed (member_there _ _ (sym c.stands.ensures ∙ c.if-stands.true)) c.in_ok-sign.ensures) c.in_ok-member.ensures

pub selector-returns-in_err-sign-2 : goal.selector-returns-in_err-sign-2
selector-returns-in_err-sign-2 t c =
    fails _ _ c.from_residual-in_err-sign-2.ensures.1 c.in_err-sign-2.ensures
    (stuck_in (index_there _ _ (sym c.stands.ensures ∙ c.if-stands.false)) (both (a_whole _) (the_sign mark.CloseBracket)))

pub selector-returns-in_err-index : goal.selector-returns-in_err-index
selector-returns-in_err-index t c =
    fails _ _ c.from_residual-in_err-index.ensures.1 c.in_err-index.ensures
    (stuck_by (passed (index_there _ _ (sym c.stands.ensures ∙ c.if-stands.false)) c.in_ok-sign-2.ensures) (bracket-ends _) (the_sign mark.CloseBracket))

pub selector-returns-in_err-sign-3 : goal.selector-returns-in_err-sign-3
selector-returns-in_err-sign-3 t c =
    fails _ _ c.from_residual-in_err-sign-3.ensures.1 c.in_err-sign-3.ensures
    (stuck_last (passed_by (passed (index_there _ _ (sym c.stands.ensures ∙ c.if-stands.false)) c.in_ok-sign-2.ensures) (bracket-ends _) c.in_ok-index.ensures))

pub selector-returns : goal.selector-returns
selector-returns t c =
    done (passed_by (passed (index_there _ _ (sym c.stands.ensures ∙ c.if-stands.false)) c.in_ok-sign-2.ensures) (bracket-ends _) c.in_ok-index.ensures) c.in_ok-sign-3.ensures

pub selectors-parts-init : goal.selectors-parts-init
selectors-parts-init t c = (parts_begun _ _ _ c.new-parts.ensures, omega arith)

pub selectors-returns-in_err-part : goal.selectors-returns-in_err-part
selectors-returns-in_err-part t c =
    fails _ _ c.from_residual.ensures.1 c.in_err-part.ensures (member_stuck (parts_listed _) _ c.parts.invariant.0 (sym c.stands_part.ensures ∙ c.parts-test.true))

pub selectors-parts-preserved : goal.selectors-parts-preserved
selectors-parts-preserved t c =
    (member_read (parts_listed _) _ c.parts.invariant.0 (sym c.stands_part.ensures ∙ c.parts-test.true) c.in_ok-push.ensures.ok c.in_ok-part.ensures, omega (arith, c.parts.invariant.1, member_shorter (parts_listed c.args.dialect) c.in_ok-part.ensures))

pub selectors-returns : goal.selectors-returns
selectors-returns t c = list_read (parts_listed _) _ c.parts.invariant.0 (sym c.stands_part.ensures ∙ c.parts-test.false)

pub prefixed-returns-in_err-place : goal.prefixed-returns-in_err-place
prefixed-returns-in_err-place t c = fails _ _ c.from_residual.ensures.1 c.in_err-place.ensures (stuck_in (made _ _ _ _) (an_operand _))

pub prefixed-returns-in_err-inner : goal.prefixed-returns-in_err-inner
prefixed-returns-in_err-inner t c = fails _ _ c.from_residual-in_err-inner.ensures.1 c.in_err-inner.ensures (stuck_last_by (passed (made _ _ _ _) c.in_ok-place.ensures) (λ m follows. follows))

pub prefixed-returns : goal.prefixed-returns
prefixed-returns t c = as_value c.in_ok-unary.ensures.exact (done_by (passed (made _ _ _ _) c.in_ok-place.ensures) (λ m follows. follows) c.in_ok-inner.ensures)

pub value-returns-in_err-lvalue : goal.value-returns-in_err-lvalue
value-returns-in_err-lvalue t c = fails _ _ c.from_residual.ensures.1 c.in_err-lvalue.ensures (stuck_last_by (made _ _ _ _) (λ m follows. follows))

pub value-returns : goal.value-returns
value-returns t c = as_value c.of_lvalue.ensures.exact (done_by (made _ _ _ _) (λ m follows. follows) c.in_ok-lvalue.ensures)

pub operand_from-returns-then-is_some : goal.operand_from-returns-then-is_some
operand_from-returns-then-is_some t c =
    handed (named_there _ _ (name_passed c.args.passed _ (sym c.is_some.ensures ∙ c.if-is_some.true))) ends-selector _ _ c.value.ensures

pub operand_from-returns : goal.operand_from-returns
operand_from-returns t c = rw (none_passed c.args.passed c.args.tokens.now (sym c.is_some.ensures ∙ c.if-is_some.false)) c.operand.ensures

pub operand-returns-then-stands : goal.operand-returns-then-stands
operand-returns-then-stands t c = handed (opened_there _ _ (sym c.stands.ensures ∙ c.if-stands.true)) (λ m follows. follows) _ _ c.opened.ensures

pub operand-returns-then-stands_unary : goal.operand-returns-then-stands_unary
operand-returns-then-stands_unary t c = handed (prefixed_there _ _ (sym c.stands_unary.ensures ∙ c.if-stands_unary.true)) (λ m follows. follows) _ _ c.prefixed.ensures

pub operand-returns-then-stands_literal : goal.operand-returns-then-stands_literal
operand-returns-then-stands_literal t c = handed (number_there _ _ (sym c.stands_literal.ensures ∙ c.if-stands_literal.true)) (λ m follows. tt) _ _ c.number.ensures

pub operand-returns-then-stands_truth : goal.operand-returns-then-stands_truth
operand-returns-then-stands_truth t c = handed (truth_there _ _ (sym c.stands_truth.ensures ∙ c.if-stands_truth.true)) (λ m follows. tt) _ _ c.truth.ensures

pub operand-returns : goal.operand-returns
operand-returns t c =
    handed (value_there _ _ (sym c.stands.ensures ∙ c.if-stands.false) (sym c.stands_unary.ensures ∙ c.if-stands_unary.false) (sym c.stands_literal.ensures ∙ c.if-stands_literal.false) (sym c.stands_truth.ensures ∙ c.if-stands_truth.false))
    ends-selector _ _ c.value.ensures

pub opened-returns-in_err-start : goal.opened-returns-in_err-start
opened-returns-in_err-start t c = fails _ _ c.from_residual.ensures.1 c.in_err-start.ensures (stuck_in (made _ _ _ _) (an_enclosed _))

pub opened-returns-in_err-class : goal.opened-returns-in_err-class
opened-returns-in_err-class t c =
    fails _ _ c.from_residual-in_err-class.ensures.1 c.in_err-class.ensures
    (stuck_in (cast_there _ (passed (made _ _ _ _) c.in_ok-start.ensures) (sym c.stands_integer.ensures ∙ c.if-stands_integer.true)) (an_operand _))

pub opened-returns-in_err-inner : goal.opened-returns-in_err-inner
opened-returns-in_err-inner t c =
    fails _ _ c.from_residual-in_err-inner.ensures.1 c.in_err-inner.ensures
    (stuck_last_by (passed (cast_there _ (passed (made _ _ _ _) c.in_ok-start.ensures) (sym c.stands_integer.ensures ∙ c.if-stands_integer.true)) c.in_ok-class.ensures) (λ m follows. follows))

pub opened-returns-then-stands_integer : goal.opened-returns-then-stands_integer
opened-returns-then-stands_integer t c =
    as_value c.in_ok-cast.ensures.exact
    (done_by (passed (cast_there _ (passed (made _ _ _ _) c.in_ok-start.ensures) (sym c.stands_integer.ensures ∙ c.if-stands_integer.true)) c.in_ok-class.ensures) (λ m follows. follows) c.in_ok-inner.ensures)

pub opened-returns-in_err-pointed : goal.opened-returns-in_err-pointed
opened-returns-in_err-pointed t c =
    fails _ _ c.from_residual-in_err-pointed.ensures.1 c.in_err-pointed.ensures
    (stuck_in (pointed_there _ (passed (made _ _ _ _) c.in_ok-start.ensures) (sym c.stands_in_full.ensures ∙ c.if-stands_in_full.true)) (no_parts _))

pub opened-returns-in_err-parts : goal.opened-returns-in_err-parts
opened-returns-in_err-parts t c =
    fails _ _ c.from_residual-in_err-parts.ensures.1 c.in_err-parts.ensures
    (stuck_last_by (passed (pointed_there _ (passed (made _ _ _ _) c.in_ok-start.ensures) (sym c.stands_in_full.ensures ∙ c.if-stands_in_full.true)) c.in_ok-pointed.ensures) ends-selector)

pub opened-returns-then-stands_in_full : goal.opened-returns-then-stands_in_full
opened-returns-then-stands_in_full t c =
    as_value c.of_lvalue.ensures.exact
    (done_by (passed (pointed_there _ (passed (made _ _ _ _) c.in_ok-start.ensures) (sym c.stands_in_full.ensures ∙ c.if-stands_in_full.true)) c.in_ok-pointed.ensures) ends-selector c.in_ok-parts.ensures)

pub opened-returns-in_err-inner-2 : goal.opened-returns-in_err-inner-2
opened-returns-in_err-inner-2 t c =
    fails _ _ c.from_residual-in_err-inner-2.ensures.1 c.in_err-inner-2.ensures
    (stuck_by (enclosed_there _ (passed (made _ _ _ _) c.in_ok-start.ensures) (sym c.stands_integer.ensures ∙ c.if-stands_integer.false) (sym c.stands_in_full.ensures ∙ c.if-stands_in_full.false)) (close-ends _) (the_sign mark.CloseParenthesis))

pub opened-returns-in_err-sign : goal.opened-returns-in_err-sign
opened-returns-in_err-sign t c =
    fails _ _ c.from_residual-in_err-sign.ensures.1 c.in_err-sign.ensures
    (stuck_last (passed_by (enclosed_there _ (passed (made _ _ _ _) c.in_ok-start.ensures) (sym c.stands_integer.ensures ∙ c.if-stands_integer.false) (sym c.stands_in_full.ensures ∙ c.if-stands_in_full.false)) (close-ends _) c.in_ok-inner-2.ensures))

pub opened-returns : goal.opened-returns
opened-returns t c =
    as_value c.started_at.ensures.exact
    (done (passed_by (enclosed_there _ (passed (made _ _ _ _) c.in_ok-start.ensures) (sym c.stands_integer.ensures ∙ c.if-stands_integer.false) (sym c.stands_in_full.ensures ∙ c.if-stands_in_full.false)) (close-ends _) c.in_ok-inner-2.ensures) c.in_ok-sign.ensures)

pub of_level-returns-then-level-eq-PREFIX_LEVEL : goal.of_level-returns-then-level-eq-PREFIX_LEVEL
of_level-returns-then-level-eq-PREFIX_LEVEL t c =
    let is = c.if-level-eq-PREFIX_LEVEL.true in
    handed (tightest c.args.dialect c.args.level is _) (λ m ends. subst (λ (n : ℕ). Ends n m) is ends) _ _ c.operand_from.ensures

pub of_level-returns-in_err-left : goal.of_level-returns-in_err-left
of_level-returns-in_err-left t c =
    failed _ _ _ _ _ _ _ _ _ c.from_residual.ensures.1 c.in_err-left.ensures (first-stuck c.args.dialect c.args.level (omega (arith, c.requires, c.if-level-eq-PREFIX_LEVEL.false)) _ _)

pub of_level-operations-init : goal.of_level-operations-init
of_level-operations-init t c =
    (first-read c.args.dialect c.args.level (omega (arith, c.requires, c.if-level-eq-PREFIX_LEVEL.false)) _ _ _ c.in_ok-left.ensures, passed-shorter c.args.dialect (c.args.level + 1) c.args.passed c.args.tokens.now _ _ c.in_ok-left.ensures)

pub of_level-returns-in_err-right : goal.of_level-returns-in_err-right
of_level-returns-in_err-right t c =
    failed _ _ _ _ _ _ _ _ _ c.from_residual-in_err-right.ensures.1 c.in_err-right.ensures
    (right-operand-stuck c.args.dialect c.args.level _ _ c.operations.left c.operations.invariant.0 _ (sym c.operator_ahead.ensures ∙ c.in-Some.is) _ c.pass.ensures _)

pub of_level-operations-preserved : goal.of_level-operations-preserved
of_level-operations-preserved t c =
    (operation-read c.args.dialect c.args.level _ _ c.operations.left c.operations.invariant.0 _ (sym c.operator_ahead.ensures ∙ c.in-Some.is) _ c.pass.ensures _ _ _ c.in_ok-left-2.ensures.exact c.in_ok-right.ensures, omega (arith, c.operations.invariant.1, operation-shorter c.args.dialect c.args.level _ _ c.operations.left c.operations.invariant.0 _ (sym c.operator_ahead.ensures ∙ c.in-Some.is) _ c.pass.ensures _ _ c.in_ok-right.ensures))

pub of_level-returns : goal.of_level-returns
of_level-returns t c =
    level-read c.args.dialect c.args.level _ _ c.operations.left c.operations.invariant.0 (sym c.operator_ahead.ensures ∙ c.in_default.is)
