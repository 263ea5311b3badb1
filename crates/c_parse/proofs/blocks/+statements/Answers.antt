use Rattle.c_parse.proofs.Steps.{fails, made, passed, passed_by, stuck_in, stuck_by, stuck_last, stuck_last_by, done, done_by, both}
use Rattle.c_parse.proofs.Leaves.{the_sign}
use Rattle.c_parse.proofs.Lists.{list_read, member_stuck, member_read, member_shorter}
use Rattle.std.proofs.Common.{sym, ◌∙◌}
use Rattle.c_parse.specs.declared.mark.Mark.TheVariants as mark
use Rattle.c_parse.proofs.StatementChoices.{block_left, branch_left, choice_there, for_there, plain_there, forever_there, count_there, else_begun, none_fit, one_fits, more_fit, chain_ends, chain_goes_on, else_there, no_else_read, block_there, branch_there, branch_read}
use Rattle.c_parse.proofs.StatementTexts.{first_fits, no_statements, a_block, a_condition, no_more_branches, statements_listed, statements_begun, close_follow, a_rest_of_else, a_loop}
use Rattle.c_parse.proofs.Steps.{handed, as_value}
use Rattle.std.proofs.Common.{ap, List, append-nil, arith}
use Rattle.hw_text.proofs.Reading.{one-shorter, never-longer}
use Rattle.c_tree.specs.declared.statement.Branch.{Branch}
use Rattle.c_tree.specs.declared.statement.Otherwise.TheVariants as otherwise
use Rattle.c_parse.proofs.blocks.+statements.Goals as goal

pub block-returns-in_err-sign : goal.block-returns-in_err-sign
block-returns-in_err-sign t c = fails _ _ c.from_residual.ensures.1 c.in_err-sign.ensures (stuck_in (block_left _ _) (both (no_statements _) (the_sign mark.CloseBrace)))

pub block-returns-in_err-body : goal.block-returns-in_err-body
block-returns-in_err-body t c = fails _ _ c.from_residual-in_err-body.ensures.1 c.in_err-body.ensures (stuck_by (passed (block_left _ _) c.in_ok-sign.ensures) close_follow (the_sign mark.CloseBrace))

pub block-returns-in_err-sign-2 : goal.block-returns-in_err-sign-2
block-returns-in_err-sign-2 t c = fails _ _ c.from_residual-in_err-sign-2.ensures.1 c.in_err-sign-2.ensures (stuck_last (passed_by (passed (block_left _ _) c.in_ok-sign.ensures) close_follow c.in_ok-body.ensures))

pub block-returns : goal.block-returns
block-returns t c = done (passed_by (passed (block_left _ _) c.in_ok-sign.ensures) close_follow c.in_ok-body.ensures) c.in_ok-sign-2.ensures

pub branch-returns-in_err-word : goal.branch-returns-in_err-word
branch-returns-in_err-word t c = fails _ _ c.from_residual.ensures.1 c.in_err-word.ensures (stuck_in (branch_left _ _) (both (a_condition _) (a_block _)))

pub branch-returns-in_err-condition : goal.branch-returns-in_err-condition
branch-returns-in_err-condition t c = fails _ _ c.from_residual-in_err-condition.ensures.1 c.in_err-condition.ensures (stuck_in (passed (branch_left _ _) c.in_ok-word.ensures) (a_block _))

pub branch-returns-in_err-body : goal.branch-returns-in_err-body
branch-returns-in_err-body t c = fails _ _ c.from_residual-in_err-body.ensures.1 c.in_err-body.ensures (stuck_last (passed (passed (branch_left _ _) c.in_ok-word.ensures) c.in_ok-condition.ensures))

pub branch-returns : goal.branch-returns
branch-returns t c = done (passed (passed (branch_left _ _) c.in_ok-word.ensures) c.in_ok-condition.ensures) c.in_ok-body.ensures

pub statement-returns-then-stands_word : goal.statement-returns-then-stands_word
statement-returns-then-stands_word t c = handed (choice_there _ _ (sym c.stands_word.ensures ∙ c.if-stands_word.true)) (λ m follows. follows) _ _ c.choice.ensures

pub statement-returns-then-stands_word-2 : goal.statement-returns-then-stands_word-2
statement-returns-then-stands_word-2 t c = handed (for_there _ _ (sym c.stands_word-2.ensures ∙ c.if-stands_word-2.true)) (λ m follows. tt) _ _ c.repetition.ensures

pub statement-returns : goal.statement-returns
statement-returns t c = handed (plain_there _ _ (sym c.stands_word.ensures ∙ c.if-stands_word.false) (sym c.stands_word-2.ensures ∙ c.if-stands_word-2.false)) (λ m follows. tt) _ _ c.plain.ensures

pub statements-all-init : goal.statements-all-init
statements-all-init t c = (statements_begun _ _ c.new-all.ensures _, omega arith)

pub statements-returns-in_err-next : goal.statements-returns-in_err-next
statements-returns-in_err-next t c = fails _ _ c.from_residual.ensures.1 c.in_err-next.ensures (member_stuck (statements_listed _) _ c.all.invariant.0 (sym c.stands_end.ensures ∙ c.all-test.true))

pub statements-all-smaller : goal.statements-all-smaller
statements-all-smaller t c = member_shorter (statements_listed _) c.in_ok-next.ensures

pub statements-all-preserved : goal.statements-all-preserved
statements-all-preserved t c = (
  member_read (statements_listed _) _ c.all.invariant.0 (sym c.stands_end.ensures ∙ c.all-test.true) c.in_ok-push.ensures.ok c.in_ok-next.ensures,
  omega (arith, c.all.invariant.1, member_shorter (statements_listed _) c.in_ok-next.ensures),
)

pub statements-returns : goal.statements-returns
statements-returns t c = list_read (statements_listed _) _ c.all.invariant.0 (sym c.stands_end.ensures ∙ c.all-test.false)

pub choice-returns-in_err-first : goal.choice-returns-in_err-first
choice-returns-in_err-first t c = fails _ _ c.from_residual.ensures.1 c.in_err-first.ensures (stuck_in (made _ _ _ _) (no_more_branches _ _ (first_fits _)))

pub choice-returns-in_err-others : goal.choice-returns-in_err-others
choice-returns-in_err-others t c = fails _ _ c.from_residual-in_err-others.ensures.1 c.in_err-others.ensures (stuck_last_by (passed (made _ _ _ _) c.in_ok-first.ensures) (λ m follows. follows))

pub choice-returns : goal.choice-returns
choice-returns t c = done_by (passed (made _ _ _ _) c.in_ok-first.ensures) (λ m follows. follows) c.in_ok-others.ensures

pub otherwise-others-init : goal.otherwise-others-init
otherwise-others-init t c = (else_begun _ _ c.new-others.ensures _, omega arith, none_fit _ _ c.new-others.ensures)

pub otherwise-returns-in_err-word : goal.otherwise-returns-in_err-word
otherwise-returns-in_err-word t c = fails _ _ c.from_residual.ensures.1 c.in_err-word.ensures (stuck_in (else_there _ c.others.invariant.2 c.others.invariant.0 (sym c.stands_word.ensures ∙ c.others-test.true)) (a_rest_of_else _ _))

pub otherwise-returns-in_err-body : goal.otherwise-returns-in_err-body
otherwise-returns-in_err-body t c = fails _ _ c.from_residual-in_err-body.ensures.1 c.in_err-body.ensures (stuck_last (block_there _ (passed (else_there _ c.others.invariant.2 c.others.invariant.0 (sym c.stands_word.ensures ∙ c.others-test.true)) c.in_ok-word.ensures) (chain_ends _ _ _ c.len.ensures c.goes_on.ensures c.if-not-goes_on.true)))

pub otherwise-returns-then-not-goes_on : goal.otherwise-returns-then-not-goes_on
otherwise-returns-then-not-goes_on t c = as_value (ap (λ (l : List Branch). (l, otherwise.Block c.in_ok-body.body)) (sym (append-nil _))) (done (block_there _ (passed (else_there _ c.others.invariant.2 c.others.invariant.0 (sym c.stands_word.ensures ∙ c.others-test.true)) c.in_ok-word.ensures) (chain_ends _ _ _ c.len.ensures c.goes_on.ensures c.if-not-goes_on.true)) c.in_ok-body.ensures)

pub otherwise-returns-in_err-next : goal.otherwise-returns-in_err-next
otherwise-returns-in_err-next t c =
    let on = chain_goes_on _ _ _ c.len.ensures c.goes_on.ensures c.if-not-goes_on.false in
    fails _ _ c.from_residual-in_err-next.ensures.1 c.in_err-next.ensures (stuck_in (branch_there _ (passed (else_there _ c.others.invariant.2 c.others.invariant.0 (sym c.stands_word.ensures ∙ c.others-test.true)) c.in_ok-word.ensures) on.0) (no_more_branches _ _ (one_fits _ _ on.1)))

pub otherwise-others-preserved : goal.otherwise-others-preserved
otherwise-others-preserved t c =
    let on = chain_goes_on _ _ _ c.len.ensures c.goes_on.ensures c.if-not-goes_on.false in (
      branch_read _ _ c.in_ok-push.ensures.ok (passed (branch_there _ (passed (else_there _ c.others.invariant.2 c.others.invariant.0 (sym c.stands_word.ensures ∙ c.others-test.true)) c.in_ok-word.ensures) on.0) c.in_ok-next.ensures),
      omega (arith, c.others.invariant.1, one-shorter _ _ _ _ _ c.in_ok-word.ensures, never-longer _ _ _ _ _ c.in_ok-next.ensures),
      more_fit _ _ _ _ c.in_ok-push.ensures.ok on.1,
    )

pub otherwise-returns : goal.otherwise-returns
otherwise-returns t c = no_else_read _ c.others.invariant.2 c.others.invariant.0 (sym c.stands_word.ensures ∙ c.others-test.false)

pub repetition-returns-in_err-word : goal.repetition-returns-in_err-word
repetition-returns-in_err-word t c = fails _ _ c.from_residual.ensures.1 c.in_err-word.ensures (stuck_in (made _ _ _ _) (both (the_sign mark.OpenParenthesis) (a_loop _)))

pub repetition-returns-in_err-sign : goal.repetition-returns-in_err-sign
repetition-returns-in_err-sign t c = fails _ _ c.from_residual-in_err-sign.ensures.1 c.in_err-sign.ensures (stuck_in (passed (made _ _ _ _) c.in_ok-word.ensures) (a_loop _))

pub repetition-returns-in_err-forever_head : goal.repetition-returns-in_err-forever_head
repetition-returns-in_err-forever_head t c = fails _ _ c.from_residual-in_err-forever_head.ensures.1 c.in_err-forever_head.ensures (stuck_in (forever_there (passed (passed (made _ _ _ _) c.in_ok-word.ensures) c.in_ok-sign.ensures) (sym c.stands_in_full.ensures ∙ c.if-stands_in_full.true)) (a_block _))

pub repetition-returns-in_err-body : goal.repetition-returns-in_err-body
repetition-returns-in_err-body t c = fails _ _ c.from_residual-in_err-body.ensures.1 c.in_err-body.ensures (stuck_last (passed (forever_there (passed (passed (made _ _ _ _) c.in_ok-word.ensures) c.in_ok-sign.ensures) (sym c.stands_in_full.ensures ∙ c.if-stands_in_full.true)) c.in_ok-forever_head.ensures))

pub repetition-returns-then-stands_in_full : goal.repetition-returns-then-stands_in_full
repetition-returns-then-stands_in_full t c = done (passed (forever_there (passed (passed (made _ _ _ _) c.in_ok-word.ensures) c.in_ok-sign.ensures) (sym c.stands_in_full.ensures ∙ c.if-stands_in_full.true)) c.in_ok-forever_head.ensures) c.in_ok-body.ensures

pub repetition-returns-in_err-start : goal.repetition-returns-in_err-start
repetition-returns-in_err-start t c = fails _ _ c.from_residual-in_err-start.ensures.1 c.in_err-start.ensures (stuck_in (count_there (passed (passed (made _ _ _ _) c.in_ok-word.ensures) c.in_ok-sign.ensures) (sym c.stands_in_full.ensures ∙ c.if-stands_in_full.false)) (a_block _))

pub repetition-returns-in_err-body-2 : goal.repetition-returns-in_err-body-2
repetition-returns-in_err-body-2 t c = fails _ _ c.from_residual-in_err-body-2.ensures.1 c.in_err-body-2.ensures (stuck_last (passed (count_there (passed (passed (made _ _ _ _) c.in_ok-word.ensures) c.in_ok-sign.ensures) (sym c.stands_in_full.ensures ∙ c.if-stands_in_full.false)) c.in_ok-start.ensures))

pub repetition-returns : goal.repetition-returns
repetition-returns t c = done (passed (count_there (passed (passed (made _ _ _ _) c.in_ok-word.ensures) c.in_ok-sign.ensures) (sym c.stands_in_full.ensures ∙ c.if-stands_in_full.false)) c.in_ok-start.ensures) c.in_ok-body-2.ensures
