use Rattle.std.proofs.Common.{refl, ap, ◌∙◌}
use Rattle.gumbo_parse.specs.declared.expression.Expression.TheVariants as expression
use Rattle.gumbo_parse.specs.Levels.{left, right}
use Rattle.gumbo_parse.proofs.Allowing.{name_allowed}
use Rattle.gumbo_parse.proofs.AllowedExpressions.{value_allowed, before_allowed, must_send_allowed, unary_allowed, binary_allowed, quantified_allowed, index_allowed}
use Rattle.gumbo_parse.proofs.PrintedForms.{before_text, must_send_text, quantified_text, unary_text, binary_text_printed}
use Rattle.gumbo_parse.proofs.+printer.Goals as goal

pub print_compound::print_value-returns-clause-allowed : goal.print_compound::print_value-returns-clause-allowed
print_compound::print_value-returns-clause-allowed t c = λ wanted.
    value_allowed c.print_parts.result (expression.Value c.args.named.now c.args.parts.now) wanted c.args.named.now c.args.parts.now c.args.parts.now refl refl
    (name_allowed c.args.named.now.name c.rows.ensures.identifier c.rows.ensures.lower) c.print_parts.ensures.allowed

pub print_compound::print_before-returns-clause-text : goal.print_compound::print_before-returns-clause-text
print_compound::print_before-returns-clause-text t c = λ at wanted after.
    before_text c.print_parts.result (expression.Before at c.args.named.now c.args.parts.now) wanted after c.args.out.now c.print_in_parentheses.new.out c.print_parts.new.out
    at c.args.named.now c.args.parts.now c.args.parts.now refl refl c.in_ok-print_in_parentheses.ensures.text c.print_parts.ensures.text

pub print_compound::print_before-returns-clause-allowed : goal.print_compound::print_before-returns-clause-allowed
print_compound::print_before-returns-clause-allowed t c = λ at wanted.
    before_allowed c.print_parts.result (expression.Before at c.args.named.now c.args.parts.now) wanted at c.args.named.now c.args.parts.now c.args.parts.now refl refl
    c.in_ok-print_in_parentheses.ensures.allowed c.print_parts.ensures.allowed

pub print_compound::print_must_send-returns-clause-text : goal.print_compound::print_must_send-returns-clause-text
print_compound::print_must_send-returns-clause-text t c = λ at start wanted after.
    must_send_text c.word.result (expression.MustSend at c.args.named.now start c.args.sent.now) wanted after c.args.out.now c.print_asked.new.out c.print.new.out c.word.new.self
    at c.args.named.now start c.args.sent.now c.args.sent.now refl refl c.in_ok-print_asked.ensures.text c.in_ok-print.ensures.text c.word.ensures.ok

pub print_compound::print_must_send-returns-clause-allowed : goal.print_compound::print_must_send-returns-clause-allowed
print_compound::print_must_send-returns-clause-allowed t c = λ at start wanted.
    must_send_allowed c.word.result (expression.MustSend at c.args.named.now start c.args.sent.now) wanted at c.args.named.now start c.args.sent.now c.args.sent.now refl refl
    c.in_ok-print_asked.ensures.allowed c.in_ok-print.ensures.allowed

pub print_compound::print_unary-returns-clause-text : goal.print_compound::print_unary-returns-clause-text
print_compound::print_unary-returns-clause-text t c = λ at.
    unary_text c.close.result (expression.Unary at c.args.operator c.args.operand.now) c.args.wanted c.args.after_minus c.args.out.now c.open.new.out c.print_sign.new.out c.print.new.out c.close.new.out
    at c.args.operator c.args.operand.now c.args.operand.now c.level-level.result c.level-level.result c.is_minus.result
    refl refl c.level-level.ensures c.level-level.ensures c.is_minus.ensures (rw c.is_looser-grouped.ensures at c.in_ok-open.ensures) c.in_ok-print_sign.ensures c.in_ok-print.ensures.text (rw c.is_looser-grouped.ensures at c.close.ensures)

pub print_compound::print_unary-returns-clause-allowed : goal.print_compound::print_unary-returns-clause-allowed
print_compound::print_unary-returns-clause-allowed t c = λ at.
    unary_allowed c.close.result (expression.Unary at c.args.operator c.args.operand.now) c.args.wanted at c.args.operator c.args.operand.now c.args.operand.now c.level-level.result
    refl refl c.level-level.ensures c.in_ok-print.ensures.allowed

pub expression::Expression::print-returns-in_ok-print-in-Binary-2-clause-text : goal.expression::Expression::print-returns-in_ok-print-in-Binary-2-clause-text
expression::Expression::print-returns-in_ok-print-in-Binary-2-clause-text t c =
    binary_text_printed c.close.result c.args.self.now c.args.wanted c.args.after_minus c.args.out.now c.open.new.out c.print-in-Binary.new.out c.print_infix.new.out c.print-in-Binary-2.new.out c.close.new.out
    c.in-Binary.field-0 c.in-Binary.operator c.in-Binary.left c.in-Binary.right c.get-in-Binary.result.now c.get-in-Binary-2.result.now c.level-level.result c.left.result c.right.result
    c.in-Binary.is c.get-in-Binary.ensures c.get-in-Binary-2.ensures c.level-level.ensures (c.left.ensures ∙ ap left c.level-level.ensures) (c.right.ensures ∙ ap right c.level-level.ensures)
    (rw c.is_looser-grouped.ensures at c.in_ok-open-in-Binary.ensures) c.in_ok-print-in-Binary.ensures.text c.in_ok-print_infix-in-Binary.ensures c.in_ok-print-in-Binary-2.ensures.text (rw c.is_looser-grouped.ensures at c.close.ensures)

pub expression::Expression::print-returns-in_ok-print-in-Binary-2-clause-allowed : goal.expression::Expression::print-returns-in_ok-print-in-Binary-2-clause-allowed
expression::Expression::print-returns-in_ok-print-in-Binary-2-clause-allowed t c =
    binary_allowed c.close.result c.args.self.now c.args.wanted c.in-Binary.field-0 c.in-Binary.operator c.in-Binary.left c.in-Binary.right c.get-in-Binary.result.now c.get-in-Binary-2.result.now c.left.result c.right.result
    c.in-Binary.is c.get-in-Binary.ensures c.get-in-Binary-2.ensures (c.left.ensures ∙ ap left c.level-level.ensures) (c.right.ensures ∙ ap right c.level-level.ensures) c.in_ok-print-in-Binary.ensures.allowed c.in_ok-print-in-Binary-2.ensures.allowed

pub print_compound::print_quantified-returns-clause-text : goal.print_compound::print_quantified-returns-clause-text
print_compound::print_quantified-returns-clause-text t c = λ at start wanted after.
    quantified_text c.word.result (expression.Quantified at c.args.quantifier c.args.variable.now c.args.from.now c.args.below.now start c.args.body.now) wanted after
    c.args.out.now c.print_quantification.new.out c.print.new.out c.word.new.self
    at c.args.quantifier c.args.variable.now c.args.from.now c.args.below.now start c.args.body.now c.args.body.now refl refl
    c.in_ok-print_quantification.ensures.text c.in_ok-print.ensures.text c.word.ensures.ok

pub print_compound::print_quantified-returns-clause-allowed : goal.print_compound::print_quantified-returns-clause-allowed
print_compound::print_quantified-returns-clause-allowed t c = λ at start wanted.
    quantified_allowed c.word.result (expression.Quantified at c.args.quantifier c.args.variable.now c.args.from.now c.args.below.now start c.args.body.now) wanted
    at c.args.quantifier c.args.variable.now c.args.from.now c.args.below.now start c.args.body.now c.args.body.now refl refl
    c.in_ok-print_quantification.ensures.allowed c.in_ok-print.ensures.allowed

pub expression::Selector::print-returns-in_ok-print-in-Index-clause-allowed : goal.expression::Selector::print-returns-in_ok-print-in-Index-clause-allowed
expression::Selector::print-returns-in_ok-print-in-Index-clause-allowed t c =
    index_allowed c.word-in-Index-2.result c.args.self.now c.in-Index.field-0 c.in-Index.index c.in-Index.is c.in_ok-print-in-Index.ensures.allowed
