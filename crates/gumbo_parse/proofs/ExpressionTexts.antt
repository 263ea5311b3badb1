-- The texts of expressions, one equation for each form.
use Rattle.std.proofs.Common.{◌≡◌, ℕ, Bool, List, map, ap, sym, ◌∙◌}
use Rattle.hw_text.specs.declared.place.Place.{Place}
use Rattle.gumbo_parse.specs.declared.expression.Bound.{Bound}
use Rattle.gumbo_parse.specs.declared.expression.Named.{Named}
use Rattle.gumbo_parse.specs.declared.expression.Expression.{Expression}
use Rattle.gumbo_parse.specs.declared.expression.Expression.TheFolds.{fold-roll-Expression, fold-roll-Selector}
use Rattle.gumbo_parse.specs.declared.expression.Expression.TheOpen as opened
use Rattle.gumbo_parse.specs.declared.expression.Expression.TheVariants as expression
use Rattle.gumbo_parse.specs.declared.expression.Selector.{Selector}
use Rattle.gumbo_parse.specs.declared.expression.Selector.TheVariants as selector
use Rattle.gumbo_parse.specs.declared.operator.UnaryOperator.{UnaryOperator}
use Rattle.gumbo_parse.specs.declared.operator.BinaryOperator.{BinaryOperator}
use Rattle.gumbo_parse.specs.declared.operator.Quantifier.{Quantifier}
use Rattle.gumbo_parse.specs.declared.operator.PortTest.{PortTest}
use Rattle.gumbo_parse.specs.Printing.{Text, expression_step, selector_step, expression_text, selector_text}

pub text-Number : (at : Place) (v : ℕ) → expression_text (expression.Number at v) ≡ expression_step (opened.Number at v)
text-Number at v = ap expression_text (sym (expression.rolls-Number at v)) ∙ fold-roll-Expression Text (List ℕ) expression_step selector_step (opened.Number at v)

pub text-Truth : (at : Place) (b : Bool) → expression_text (expression.Truth at b) ≡ expression_step (opened.Truth at b)
text-Truth at b = ap expression_text (sym (expression.rolls-Truth at b)) ∙ fold-roll-Expression Text (List ℕ) expression_step selector_step (opened.Truth at b)

pub text-Value : (x : Named) (ps : List Selector) → expression_text (expression.Value x ps) ≡ expression_step (opened.Value x (map selector_text ps))
text-Value x ps = ap expression_text (sym (expression.rolls-Value x ps)) ∙ fold-roll-Expression Text (List ℕ) expression_step selector_step (opened.Value x ps)

pub text-Before : (at : Place) (x : Named) (ps : List Selector) → expression_text (expression.Before at x ps) ≡ expression_step (opened.Before at x (map selector_text ps))
text-Before at x ps = ap expression_text (sym (expression.rolls-Before at x ps)) ∙ fold-roll-Expression Text (List ℕ) expression_step selector_step (opened.Before at x ps)

pub text-Test : (at : Place) (what : PortTest) (x : Named) → expression_text (expression.Test at what x) ≡ expression_step (opened.Test at what x)
text-Test at what x = ap expression_text (sym (expression.rolls-Test at what x)) ∙ fold-roll-Expression Text (List ℕ) expression_step selector_step (opened.Test at what x)

pub text-MustSend : (at : Place) (x : Named) (start : Place) (sent : Expression) → expression_text (expression.MustSend at x start sent) ≡ expression_step (opened.MustSend at x start (expression_text sent))
text-MustSend at x start sent = ap expression_text (sym (expression.rolls-MustSend at x start sent)) ∙ fold-roll-Expression Text (List ℕ) expression_step selector_step (opened.MustSend at x start sent)

pub text-Unary : (at : Place) (o : UnaryOperator) (x : Expression) → expression_text (expression.Unary at o x) ≡ expression_step (opened.Unary at o (expression_text x))
text-Unary at o x = ap expression_text (sym (expression.rolls-Unary at o x)) ∙ fold-roll-Expression Text (List ℕ) expression_step selector_step (opened.Unary at o x)

pub text-Binary : (at : Place) (o : BinaryOperator) (l r : Expression) → expression_text (expression.Binary at o l r) ≡ expression_step (opened.Binary at o (expression_text l) (expression_text r))
text-Binary at o l r = ap expression_text (sym (expression.rolls-Binary at o l r)) ∙ fold-roll-Expression Text (List ℕ) expression_step selector_step (opened.Binary at o l r)

pub text-Quantified : (at : Place) (all : Quantifier) (x : Named) (from below : Bound) (start : Place) (body : Expression) → expression_text (expression.Quantified at all x from below start body) ≡ expression_step (opened.Quantified at all x from below start (expression_text body))
text-Quantified at all x from below start body =
    ap expression_text (sym (expression.rolls-Quantified at all x from below start body)) ∙
    fold-roll-Expression Text (List ℕ) expression_step selector_step (opened.Quantified at all x from below start body)

pub text-Field : (x : Named) → selector_text (selector.Field x) ≡ selector_step (opened.Field x)
text-Field x = ap selector_text (sym (selector.rolls-Field x)) ∙ fold-roll-Selector Text (List ℕ) expression_step selector_step (opened.Field x)

pub text-Index : (start : Place) (x : Expression) → selector_text (selector.Index start x) ≡ selector_step (opened.Index start (expression_text x))
text-Index start x = ap selector_text (sym (selector.rolls-Index start x)) ∙ fold-roll-Selector Text (List ℕ) expression_step selector_step (opened.Index start x)
