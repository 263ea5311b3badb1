-- No empty range stands in the canonical tokens of expressions and calls.
use Rattle.std.proofs.Common.{Bool, true, List, [], ◌∷◌, map, refl, sym, subst, false}
use Rattle.std.specs.List.{flat_map}
use Rattle.c_tree.specs.Expressions.{position_behind}
use Rattle.c_tree.specs.declared.print_expression.Position.{Position}
use Rattle.c_tree.specs.declared.print_expression.Position.TheVariants.{Whole, Operand, BehindMinus}
use Rattle.c_tree.specs.declared.expression.Base.{Base}
use Rattle.c_tree.specs.declared.expression.Base.TheVariants as base
use Rattle.c_tree.specs.declared.expression.Selector.{Selector}
use Rattle.c_tree.specs.declared.expression.Lvalue.{Lvalue}
use Rattle.c_tree.specs.declared.expression.Expression.{Expression}
use Rattle.c_tree.specs.declared.expression.Expression.TheFolds.{fold-roll-Expression, fold-roll-Selector, fold-roll-Lvalue, map-Expression, map-Selector}
use Rattle.c_tree.specs.declared.expression.Expression.TheOpen.{Selector-F, Lvalue-F}
use Rattle.c_tree.specs.declared.expression.Expression.TheOpen as opened
use Rattle.c_tree.specs.declared.expression.Expression.TheViews.{roll-Expression, roll-Selector}
use Rattle.c_tree.specs.Starts.{Layer}
use Rattle.c_parse.specs.PrintedExpressions.{Written, unary_mark, binary_mark, grouped_tokens, base_tokens, expression_tokens_step, selector_tokens_step, lvalue_tokens_step, expression_tokens, selector_tokens, lvalue_tokens, truth_token, behind_comma_tokens, separated}
use Rattle.c_parse.specs.declared.keyword.Keyword.TheVariants as keyword
use Rattle.c_parse.specs.declared.mark.Mark.TheVariants as mark
use Rattle.c_parse.specs.declared.token.Token.{Token}
use Rattle.c_tree.proofs.ExpressionInduction.{OfEach, Cases, of_each_expression, of_each_lvalue}
use Rattle.c_tree.specs.declared.expression.Argument.{Argument}
use Rattle.c_tree.specs.declared.expression.Argument.TheVariants as argument
use Rattle.c_tree.specs.declared.expression.Call.{Call}
use Rattle.c_tree.specs.declared.expression.RightSide.{RightSide}
use Rattle.c_tree.specs.declared.expression.RightSide.TheVariants as right
use Rattle.c_parse.specs.PrintedExpressions.{argument_tokens, call_tokens, right_tokens}
use Rattle.c_parse.proofs.SoundTokens.{Sound, none, and-then, all, sign, word, named, literal, integer}

pub record ExpressionSound (x : Expression) : Type 0 where
  pub sound : (p : Position) → Sound (expression_tokens x p)

pub record PartSound (s : Selector) : Type 0 where
  pub sound : Sound (selector_tokens s)

pub record LvalueSound (l : Lvalue) : Type 0 where
  pub sound : Sound (lvalue_tokens l)

form : (z : Layer) → ((p : Position) → Sound (expression_tokens_step (map-Expression Expression Selector Lvalue Written (List Token) (List Token) expression_tokens selector_tokens lvalue_tokens z) p)) → ExpressionSound (roll-Expression z)
form z make = record {
  sound = λ p.
      subst (λ (w : Written). Sound (w p)) (sym (fold-roll-Expression Written (List Token) (List Token) expression_tokens_step selector_tokens_step lvalue_tokens_step z)) (make p);
}

part_form : (z : Selector-F Expression Selector Lvalue) → Sound (selector_tokens_step (map-Selector Expression Selector Lvalue Written (List Token) (List Token) expression_tokens selector_tokens lvalue_tokens z)) → PartSound (roll-Selector z)
part_form z made = record { sound = subst Sound (sym (fold-roll-Selector Written (List Token) (List Token) expression_tokens_step selector_tokens_step lvalue_tokens_step z)) made }

grouped : (p : Position) {ts : List Token} → Sound ts → Sound (grouped_tokens p ts)
grouped Whole a = a
grouped Operand a = sign mark.OpenParenthesis (and-then a (sign mark.CloseParenthesis none))
grouped BehindMinus a = sign mark.OpenParenthesis (and-then a (sign mark.CloseParenthesis none))

based : (b : Base) → Sound (base_tokens b)
based (base.Variable x) = named x.name none
based (base.Pointed at x) = sign mark.OpenParenthesis (sign mark.Star (named x.name (sign mark.CloseParenthesis none)))
based (base.Member x m) = named x.name (sign mark.Arrow (named m.name none))

parts : (ps : List Selector) → OfEach PartSound ps → Sound (flat_map (λ ts. ts) (map selector_tokens ps))
parts [] each = none
parts (p ∷ ps) each = and-then each.0.sound (parts ps each.1)

pub truth : (b : Bool) → Sound (truth_token b ∷ [])
truth true = word keyword.True refl none
truth false = word keyword.False refl none

cases : Cases ExpressionSound PartSound LvalueSound
cases = record {
  number = λ start l. form (opened.Number start l) (λ p. literal l.numeral none);
  truth = λ start b. form (opened.Truth start b) (λ p. truth b);
  value = λ start l inner. form (opened.Value start l) (λ p. inner.sound);
  unary = λ start o at x inner. form (opened.Unary start o at x) (λ p. sign (unary_mark o) (inner.sound (position_behind o)));
  cast = λ start c at x inner. form (opened.Cast start c at x) (λ p. sign mark.OpenParenthesis (integer c (sign mark.CloseParenthesis (inner.sound Operand))));
  binary = λ start o at l r a b. form (opened.Binary start o at l r) (λ p. grouped p (and-then (and-then (a.sound Operand) (sign (binary_mark o) none)) (b.sound Operand)));
  member = λ x. part_form (opened.Member x) (sign mark.Dot (named x.name none));
  index = λ x inner. part_form (opened.Index x) (sign mark.OpenBracket (and-then (inner.sound Whole) (sign mark.CloseBracket none)));
  lvalue = λ b ps each. record {
    sound = subst Sound (sym (fold-roll-Lvalue Written (List Token) (List Token) expression_tokens_step selector_tokens_step lvalue_tokens_step (record { base = b; parts = ps })))
        (and-then (based b) (parts ps each));
  };
}

expression : (x : Expression) → Sound (expression_tokens x Whole)
expression x = (of_each_expression ExpressionSound PartSound LvalueSound cases x).sound Whole

pub lvalue : (l : Lvalue) → Sound (lvalue_tokens l)
lvalue l = (of_each_lvalue ExpressionSound PartSound LvalueSound cases l).sound

pub parted : {X : Type 0} (tokens : X → List Token) → ((x : X) → Sound (tokens x)) → (xs : List X) → Sound (separated tokens xs)
parted tokens each [] = none
parted tokens each (x ∷ xs) = and-then (each x) (all (behind_comma_tokens tokens) (λ y. sign mark.Comma (each y)) xs)

handed : (a : Argument) → Sound (argument_tokens a)
handed (argument.Address at x) = sign mark.Ampersand (named x.name none)
handed (argument.Value x) = expression x

pub call : (c : Call) → Sound (call_tokens c)
call c = and-then (named c.name.name (sign mark.OpenParenthesis (parted argument_tokens handed c.arguments))) (sign mark.CloseParenthesis none)

pub right_side : (r : RightSide) → Sound (right_tokens r)
right_side (right.Call c) = call c
right_side (right.Value x) = expression x
