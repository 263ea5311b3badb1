-- Expressions without their places, one equation for each form.
use Rattle.std.proofs.Common.{◌≡◌, ℕ, Bool, List, map, ap, sym, ◌∙◌}
use Rattle.hw_text.specs.declared.place.Place.{Place}
use Rattle.gumbo_parse.specs.declared.expression.Bound.{Bound}
use Rattle.gumbo_parse.specs.declared.expression.Named.{Named}
use Rattle.gumbo_parse.specs.declared.expression.Expression.{Expression}
use Rattle.gumbo_parse.specs.declared.expression.Expression.TheFolds.{fold-roll-Expression, fold-roll-Selector}
use Rattle.gumbo_parse.specs.declared.expression.Expression.TheOpen as opened
use Rattle.gumbo_parse.specs.declared.expression.Expression.TheVariants as expression
use Rattle.gumbo_parse.specs.declared.expression.Selector.{Selector}
use Rattle.gumbo_parse.specs.declared.expression.Selector.TheVariants as selector
use Rattle.gumbo_parse.specs.declared.operator.UnaryOperator.{UnaryOperator}
use Rattle.gumbo_parse.specs.declared.operator.BinaryOperator.{BinaryOperator}
use Rattle.gumbo_parse.specs.declared.operator.Quantifier.{Quantifier}
use Rattle.gumbo_parse.specs.declared.operator.PortTest.{PortTest}
use Rattle.gumbo_parse.specs.Unplaced.{unplaced_named, unplaced_bound, unplaced_step, unplaced_part_step, unplaced_expression, unplaced_part}
use Rattle.gumbo_parse.specs.Values.{start}

pub unplaced-Number : (at : Place) (v : ℕ) → unplaced_expression (expression.Number at v) ≡ expression.Number start v
unplaced-Number at v = ap unplaced_expression (sym (expression.rolls-Number at v)) ∙ fold-roll-Expression Expression Selector unplaced_step unplaced_part_step (opened.Number at v)

pub unplaced-Truth : (at : Place) (b : Bool) → unplaced_expression (expression.Truth at b) ≡ expression.Truth start b
unplaced-Truth at b = ap unplaced_expression (sym (expression.rolls-Truth at b)) ∙ fold-roll-Expression Expression Selector unplaced_step unplaced_part_step (opened.Truth at b)

pub unplaced-Value : (x : Named) (ps : List Selector) → unplaced_expression (expression.Value x ps) ≡ expression.Value (unplaced_named x) (map unplaced_part ps)
unplaced-Value x ps = ap unplaced_expression (sym (expression.rolls-Value x ps)) ∙ fold-roll-Expression Expression Selector unplaced_step unplaced_part_step (opened.Value x ps)

pub unplaced-Before : (at : Place) (x : Named) (ps : List Selector) → unplaced_expression (expression.Before at x ps) ≡ expression.Before start (unplaced_named x) (map unplaced_part ps)
unplaced-Before at x ps = ap unplaced_expression (sym (expression.rolls-Before at x ps)) ∙ fold-roll-Expression Expression Selector unplaced_step unplaced_part_step (opened.Before at x ps)

pub unplaced-Test : (at : Place) (what : PortTest) (x : Named) → unplaced_expression (expression.Test at what x) ≡ expression.Test start what (unplaced_named x)
unplaced-Test at what x = ap unplaced_expression (sym (expression.rolls-Test at what x)) ∙ fold-roll-Expression Expression Selector unplaced_step unplaced_part_step (opened.Test at what x)

pub unplaced-MustSend : (at : Place) (x : Named) (begin : Place) (sent : Expression) → unplaced_expression (expression.MustSend at x begin sent) ≡ expression.MustSend start (unplaced_named x) start (unplaced_expression sent)
unplaced-MustSend at x begin sent = ap unplaced_expression (sym (expression.rolls-MustSend at x begin sent)) ∙ fold-roll-Expression Expression Selector unplaced_step unplaced_part_step (opened.MustSend at x begin sent)

pub unplaced-Unary : (at : Place) (o : UnaryOperator) (x : Expression) → unplaced_expression (expression.Unary at o x) ≡ expression.Unary start o (unplaced_expression x)
unplaced-Unary at o x = ap unplaced_expression (sym (expression.rolls-Unary at o x)) ∙ fold-roll-Expression Expression Selector unplaced_step unplaced_part_step (opened.Unary at o x)

pub unplaced-Binary : (at : Place) (o : BinaryOperator) (l r : Expression) → unplaced_expression (expression.Binary at o l r) ≡ expression.Binary start o (unplaced_expression l) (unplaced_expression r)
unplaced-Binary at o l r = ap unplaced_expression (sym (expression.rolls-Binary at o l r)) ∙ fold-roll-Expression Expression Selector unplaced_step unplaced_part_step (opened.Binary at o l r)

pub unplaced-Quantified : (at : Place) (all : Quantifier) (x : Named) (from below : Bound) (begin : Place) (body : Expression) → unplaced_expression (expression.Quantified at all x from below begin body) ≡ expression.Quantified start all (unplaced_named x) (unplaced_bound from) (unplaced_bound below) start (unplaced_expression body)
unplaced-Quantified at all x from below begin body =
    ap unplaced_expression (sym (expression.rolls-Quantified at all x from below begin body)) ∙
    fold-roll-Expression Expression Selector unplaced_step unplaced_part_step (opened.Quantified at all x from below begin body)

pub unplaced-Field : (x : Named) → unplaced_part (selector.Field x) ≡ selector.Field (unplaced_named x)
unplaced-Field x = ap unplaced_part (sym (selector.rolls-Field x)) ∙ fold-roll-Selector Expression Selector unplaced_step unplaced_part_step (opened.Field x)

pub unplaced-Index : (begin : Place) (x : Expression) → unplaced_part (selector.Index begin x) ≡ selector.Index start (unplaced_expression x)
unplaced-Index begin x = ap unplaced_part (sym (selector.rolls-Index begin x)) ∙ fold-roll-Selector Expression Selector unplaced_step unplaced_part_step (opened.Index begin x)
