-- The tokens of expressions, one equation for each form.
use Rattle.std.proofs.Common.{◌≡◌, ℕ, Bool, List, map, ap, sym, ◌∙◌}
use Rattle.hw_text.specs.declared.place.Place.{Place}
use Rattle.gumbo_parse.specs.declared.expression.Bound.{Bound}
use Rattle.gumbo_parse.specs.declared.expression.Named.{Named}
use Rattle.gumbo_parse.specs.declared.expression.Expression.{Expression}
use Rattle.gumbo_parse.specs.declared.expression.Expression.TheFolds.{fold-roll-Expression, fold-roll-Selector}
use Rattle.gumbo_parse.specs.declared.expression.Expression.TheOpen as opened
use Rattle.gumbo_parse.specs.declared.expression.Expression.TheVariants as expression
use Rattle.gumbo_parse.specs.declared.expression.Selector.{Selector}
use Rattle.gumbo_parse.specs.declared.expression.Selector.TheVariants as selector
use Rattle.gumbo_parse.specs.declared.operator.UnaryOperator.{UnaryOperator}
use Rattle.gumbo_parse.specs.declared.operator.BinaryOperator.{BinaryOperator}
use Rattle.gumbo_parse.specs.declared.operator.Quantifier.{Quantifier}
use Rattle.gumbo_parse.specs.declared.operator.PortTest.{PortTest}
use Rattle.gumbo_parse.specs.declared.token.Token.{Token}
use Rattle.gumbo_parse.specs.ExpressionTokens.{Written, expression_tokens_step, selector_tokens_step, expression_tokens, selector_tokens}

pub tokens-Number : (at : Place) (v : ℕ) → expression_tokens (expression.Number at v) ≡ expression_tokens_step (opened.Number at v)
tokens-Number at v = ap expression_tokens (sym (expression.rolls-Number at v)) ∙ fold-roll-Expression Written (List Token) expression_tokens_step selector_tokens_step (opened.Number at v)

pub tokens-Truth : (at : Place) (b : Bool) → expression_tokens (expression.Truth at b) ≡ expression_tokens_step (opened.Truth at b)
tokens-Truth at b = ap expression_tokens (sym (expression.rolls-Truth at b)) ∙ fold-roll-Expression Written (List Token) expression_tokens_step selector_tokens_step (opened.Truth at b)

pub tokens-Value : (x : Named) (ps : List Selector) → expression_tokens (expression.Value x ps) ≡ expression_tokens_step (opened.Value x (map selector_tokens ps))
tokens-Value x ps = ap expression_tokens (sym (expression.rolls-Value x ps)) ∙ fold-roll-Expression Written (List Token) expression_tokens_step selector_tokens_step (opened.Value x ps)

pub tokens-Before : (at : Place) (x : Named) (ps : List Selector) → expression_tokens (expression.Before at x ps) ≡ expression_tokens_step (opened.Before at x (map selector_tokens ps))
tokens-Before at x ps = ap expression_tokens (sym (expression.rolls-Before at x ps)) ∙ fold-roll-Expression Written (List Token) expression_tokens_step selector_tokens_step (opened.Before at x ps)

pub tokens-Test : (at : Place) (what : PortTest) (x : Named) → expression_tokens (expression.Test at what x) ≡ expression_tokens_step (opened.Test at what x)
tokens-Test at what x = ap expression_tokens (sym (expression.rolls-Test at what x)) ∙ fold-roll-Expression Written (List Token) expression_tokens_step selector_tokens_step (opened.Test at what x)

pub tokens-MustSend : (at : Place) (x : Named) (start : Place) (sent : Expression) → expression_tokens (expression.MustSend at x start sent) ≡ expression_tokens_step (opened.MustSend at x start (expression_tokens sent))
tokens-MustSend at x start sent = ap expression_tokens (sym (expression.rolls-MustSend at x start sent)) ∙ fold-roll-Expression Written (List Token) expression_tokens_step selector_tokens_step (opened.MustSend at x start sent)

pub tokens-Unary : (at : Place) (o : UnaryOperator) (x : Expression) → expression_tokens (expression.Unary at o x) ≡ expression_tokens_step (opened.Unary at o (expression_tokens x))
tokens-Unary at o x = ap expression_tokens (sym (expression.rolls-Unary at o x)) ∙ fold-roll-Expression Written (List Token) expression_tokens_step selector_tokens_step (opened.Unary at o x)

pub tokens-Binary : (at : Place) (o : BinaryOperator) (l r : Expression) → expression_tokens (expression.Binary at o l r) ≡ expression_tokens_step (opened.Binary at o (expression_tokens l) (expression_tokens r))
tokens-Binary at o l r = ap expression_tokens (sym (expression.rolls-Binary at o l r)) ∙ fold-roll-Expression Written (List Token) expression_tokens_step selector_tokens_step (opened.Binary at o l r)

pub tokens-Quantified : (at : Place) (all : Quantifier) (x : Named) (from below : Bound) (start : Place) (body : Expression) → expression_tokens (expression.Quantified at all x from below start body) ≡ expression_tokens_step (opened.Quantified at all x from below start (expression_tokens body))
tokens-Quantified at all x from below start body =
    ap expression_tokens (sym (expression.rolls-Quantified at all x from below start body)) ∙
    fold-roll-Expression Written (List Token) expression_tokens_step selector_tokens_step (opened.Quantified at all x from below start body)

pub tokens-Field : (x : Named) → selector_tokens (selector.Field x) ≡ selector_tokens_step (opened.Field x)
tokens-Field x = ap selector_tokens (sym (selector.rolls-Field x)) ∙ fold-roll-Selector Written (List Token) expression_tokens_step selector_tokens_step (opened.Field x)

pub tokens-Index : (start : Place) (x : Expression) → selector_tokens (selector.Index start x) ≡ selector_tokens_step (opened.Index start (expression_tokens x))
tokens-Index start x = ap selector_tokens (sym (selector.rolls-Index start x)) ∙ fold-roll-Selector Written (List Token) expression_tokens_step selector_tokens_step (opened.Index start x)
