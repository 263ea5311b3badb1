-- Expressions without their places, one equation for each form.
use Rattle.std.proofs.Common.{◌≡◌, Bool, map, refl, ap, sym, ◌∙◌}
use Rattle.hw_text.specs.declared.place.Place.{Place}
use Rattle.c_tree.specs.declared.integer_type.IntegerType.{IntegerType}
use Rattle.c_tree.specs.declared.named.Named.{Named}
use Rattle.c_tree.specs.declared.named.Literal.{Literal}
use Rattle.c_tree.specs.declared.operator.UnaryOperator.{UnaryOperator}
use Rattle.c_tree.specs.declared.operator.BinaryOperator.{BinaryOperator}
use Rattle.c_tree.specs.declared.expression.Selector.{Selector}
use Rattle.c_tree.specs.declared.expression.Selector.TheVariants as selector
use Rattle.c_tree.specs.declared.expression.Lvalue.{Lvalue}
use Rattle.c_tree.specs.declared.expression.Expression.{Expression}
use Rattle.c_tree.specs.declared.expression.Expression.TheFolds.{fold-roll-Expression, fold-roll-Selector, fold_out-Expression, fold_out-Lvalue, map-Expression}
use Rattle.c_tree.specs.declared.expression.Expression.TheOpen as opened
use Rattle.c_tree.specs.declared.expression.Expression.TheVariants as expression
use Rattle.c_tree.specs.declared.expression.Expression.TheViews.{roll-Expression, out-Expression}
use Rattle.c_tree.specs.Unplaced.{origin, unplaced_named, unplaced_literal, unplaced_base, unplaced_step, unplaced_part_step, unplaced_lvalue_step, unplaced_expression, unplaced_part, unplaced_lvalue}
use Rattle.c_tree.specs.Starts.{Layer, layer_at, started_at}

abbrev unplaced_layer : Layer → Layer
unplaced_layer z = map-Expression Expression Selector Lvalue Expression Selector Lvalue unplaced_expression unplaced_part unplaced_lvalue z

rolled : (z : Layer) → unplaced_expression (roll-Expression z) ≡ unplaced_step (unplaced_layer z)
rolled z = fold-roll-Expression Expression Selector Lvalue unplaced_step unplaced_part_step unplaced_lvalue_step z

pub unplaced-Number : (start : Place) (l : Literal) → unplaced_expression (expression.Number start l) ≡ expression.Number origin (unplaced_literal l)
unplaced-Number start l = ap unplaced_expression (sym (expression.rolls-Number start l)) ∙ rolled (opened.Number start l)

pub unplaced-Truth : (start : Place) (b : Bool) → unplaced_expression (expression.Truth start b) ≡ expression.Truth origin b
unplaced-Truth start b = ap unplaced_expression (sym (expression.rolls-Truth start b)) ∙ rolled (opened.Truth start b)

pub unplaced-Value : (start : Place) (l : Lvalue) → unplaced_expression (expression.Value start l) ≡ expression.Value origin (unplaced_lvalue l)
unplaced-Value start l = ap unplaced_expression (sym (expression.rolls-Value start l)) ∙ rolled (opened.Value start l)

pub unplaced-Unary : (start : Place) (o : UnaryOperator) (at : Place) (x : Expression) → unplaced_expression (expression.Unary start o at x) ≡ expression.Unary origin o origin (unplaced_expression x)
unplaced-Unary start o at x = ap unplaced_expression (sym (expression.rolls-Unary start o at x)) ∙ rolled (opened.Unary start o at x)

pub unplaced-Cast : (start : Place) (c : IntegerType) (at : Place) (x : Expression) → unplaced_expression (expression.Cast start c at x) ≡ expression.Cast origin c origin (unplaced_expression x)
unplaced-Cast start c at x = ap unplaced_expression (sym (expression.rolls-Cast start c at x)) ∙ rolled (opened.Cast start c at x)

pub unplaced-Binary : (start : Place) (o : BinaryOperator) (at : Place) (l r : Expression) → unplaced_expression (expression.Binary start o at l r) ≡ expression.Binary origin o origin (unplaced_expression l) (unplaced_expression r)
unplaced-Binary start o at l r = ap unplaced_expression (sym (expression.rolls-Binary start o at l r)) ∙ rolled (opened.Binary start o at l r)

pub unplaced-Member : (x : Named) → unplaced_part (selector.Member x) ≡ selector.Member (unplaced_named x)
unplaced-Member x = ap unplaced_part (sym (selector.rolls-Member x)) ∙ fold-roll-Selector Expression Selector Lvalue unplaced_step unplaced_part_step unplaced_lvalue_step (opened.Member x)

pub unplaced-Index : (x : Expression) → unplaced_part (selector.Index x) ≡ selector.Index (unplaced_expression x)
unplaced-Index x = ap unplaced_part (sym (selector.rolls-Index x)) ∙ fold-roll-Selector Expression Selector Lvalue unplaced_step unplaced_part_step unplaced_lvalue_step (opened.Index x)

pub unplaced-Lvalue : (l : Lvalue) → unplaced_lvalue l ≡ record { base = unplaced_base l.base; parts = map unplaced_part l.parts }
unplaced-Lvalue l = fold_out-Lvalue Expression Selector Lvalue unplaced_step unplaced_part_step unplaced_lvalue_step l

moved : (at : Place) (z : Layer) → unplaced_step (unplaced_layer (layer_at at z)) ≡ unplaced_step (unplaced_layer z)
moved at (opened.Number start l) = refl
moved at (opened.Truth start b) = refl
moved at (opened.Value start l) = refl
moved at (opened.Unary start o place x) = refl
moved at (opened.Cast start c place x) = refl
moved at (opened.Binary start o place l r) = refl

-- where the parentheses begin is no part of an expression without places
pub unplaced-started : (at : Place) (x : Expression) → unplaced_expression (started_at at x) ≡ unplaced_expression x
unplaced-started at x =
    rolled (layer_at at (out-Expression x)) ∙ moved at (out-Expression x) ∙
    sym (fold_out-Expression Expression Selector Lvalue unplaced_step unplaced_part_step unplaced_lvalue_step x)
