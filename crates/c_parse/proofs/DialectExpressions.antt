-- Which expressions a grammar has texts of: for users those without pointers.
use Rattle.std.proofs.Common.{◌≡◌, ◌∙◌, refl, sym, ap, subst, ℕ, ◌+◌, Bool, true, List, [], ◌∷◌, map, inl, inr}
use Rattle.std.specs.Prelude.{◌&&◌}
use Rattle.std.specs.List.{list_all}
use Rattle.hw_text.specs.declared.place.Place.{Place}
use Rattle.c_tree.specs.Starts.{Layer, layer_at, start_in, start_of_base, started_at}
use Rattle.c_tree.specs.declared.dialect.Dialect.{Dialect}
use Rattle.c_tree.specs.declared.integer_type.IntegerType.{IntegerType}
use Rattle.c_tree.specs.declared.named.Named.{Named}
use Rattle.c_tree.specs.declared.named.Literal.{Literal}
use Rattle.c_tree.specs.declared.operator.UnaryOperator.{UnaryOperator}
use Rattle.c_tree.specs.declared.operator.BinaryOperator.{BinaryOperator}
use Rattle.c_tree.specs.declared.expression.Base.{Base}
use Rattle.c_tree.specs.declared.expression.Selector.{Selector}
use Rattle.c_tree.specs.declared.expression.Selector.TheVariants as selector
use Rattle.c_tree.specs.declared.expression.Lvalue.{Lvalue}
use Rattle.c_tree.specs.declared.expression.Expression.{Expression}
use Rattle.c_tree.specs.declared.expression.Expression.TheFolds.{fold-roll-Expression, fold-roll-Selector, fold_out-Expression, fold_out-Lvalue, map-Expression}
use Rattle.c_tree.specs.declared.expression.Expression.TheOpen as opened
use Rattle.c_tree.specs.declared.expression.Expression.TheVariants as expression
use Rattle.c_tree.specs.declared.expression.Expression.TheViews.{roll-Expression, out-Expression}
use Rattle.c_parse.specs.ExpressionGrammar.{Operation, chained, SpellsBase, SpellsExpression, SpellsOperations, SpellsPrefix, SpellsLvalue, SpellsParts, chain, prefix, no_operation, an_operation, number, truth, value, parenthesised, unary, cast, lvalue, no_part, a_member, an_index}
use Rattle.c_tree.specs.Dialects.{has_base, has_step, has_part_step, has_lvalue_step, has_expression, has_part, has_lvalue}
use Rattle.c_parse.specs.Values.{Tokens}
use Rattle.c_tree.proofs.ExpressionInduction.{OfEach}

pub both-true : (a b : Bool) → a ≡ true → b ≡ true → (a && b) ≡ true
both-true a b left right = ap (λ (x : Bool). x && b) left ∙ right

module _ (f : Dialect) where
  -- the test, one equation for each form
  abbrev tested : Layer → Bool
  tested z = has_step f (map-Expression Expression Selector Lvalue Bool Bool Bool (has_expression f) (has_part f) (has_lvalue f) z)

  rolled : (z : Layer) → has_expression f (roll-Expression z) ≡ tested z
  rolled z = fold-roll-Expression Bool Bool Bool (has_step f) (has_part_step f) (has_lvalue_step f) z

  number-is : (start : Place) (l : Literal) → has_expression f (expression.Number start l) ≡ true
  number-is start l = ap (has_expression f) (sym (expression.rolls-Number start l)) ∙ rolled (opened.Number start l)

  truth-is : (start : Place) (b : Bool) → has_expression f (expression.Truth start b) ≡ true
  truth-is start b = ap (has_expression f) (sym (expression.rolls-Truth start b)) ∙ rolled (opened.Truth start b)

  value-is : (start : Place) (l : Lvalue) → has_expression f (expression.Value start l) ≡ has_lvalue f l
  value-is start l = ap (has_expression f) (sym (expression.rolls-Value start l)) ∙ rolled (opened.Value start l)

  unary-is : (start : Place) (o : UnaryOperator) (at : Place) (x : Expression) → has_expression f (expression.Unary start o at x) ≡ has_expression f x
  unary-is start o at x = ap (has_expression f) (sym (expression.rolls-Unary start o at x)) ∙ rolled (opened.Unary start o at x)

  cast-is : (start : Place) (c : IntegerType) (at : Place) (x : Expression) → has_expression f (expression.Cast start c at x) ≡ has_expression f x
  cast-is start c at x = ap (has_expression f) (sym (expression.rolls-Cast start c at x)) ∙ rolled (opened.Cast start c at x)

  binary-is : (start : Place) (o : BinaryOperator) (at : Place) (l r : Expression) → has_expression f (expression.Binary start o at l r) ≡ (has_expression f l && has_expression f r)
  binary-is start o at l r = ap (has_expression f) (sym (expression.rolls-Binary start o at l r)) ∙ rolled (opened.Binary start o at l r)

  member-is : (x : Named) → has_part f (selector.Member x) ≡ true
  member-is x = ap (has_part f) (sym (selector.rolls-Member x)) ∙ fold-roll-Selector Bool Bool Bool (has_step f) (has_part_step f) (has_lvalue_step f) (opened.Member x)

  index-is : (x : Expression) → has_part f (selector.Index x) ≡ has_expression f x
  index-is x = ap (has_part f) (sym (selector.rolls-Index x)) ∙ fold-roll-Selector Bool Bool Bool (has_step f) (has_part_step f) (has_lvalue_step f) (opened.Index x)

  lvalue-is : (l : Lvalue) → has_lvalue f l ≡ (has_base f l.base && list_all (λ b. b) (map (has_part f) l.parts))
  lvalue-is l = fold_out-Lvalue Bool Bool Bool (has_step f) (has_part_step f) (has_lvalue_step f) l

  moved : (at : Place) (z : Layer) → tested (layer_at at z) ≡ tested z
  moved at (opened.Number start l) = refl
  moved at (opened.Truth start b) = refl
  moved at (opened.Value start l) = refl
  moved at (opened.Unary start o place x) = refl
  moved at (opened.Cast start c place x) = refl
  moved at (opened.Binary start o place l r) = refl

  started-is : (at : Place) (x : Expression) → has_expression f (started_at at x) ≡ has_expression f x
  started-is at x =
      rolled (layer_at at (out-Expression x)) ∙ moved at (out-Expression x) ∙
      sym (fold_out-Expression Bool Bool Bool (has_step f) (has_part_step f) (has_lvalue_step f) x)

  -- the operands of operations
  abbrev AreHad : List Operation → Type 0
  AreHad os = OfEach (λ o. has_expression f o.1 ≡ true) os

  chained-had : (os : List Operation) (x : Expression) → has_expression f x ≡ true → AreHad os → has_expression f (chained x os) ≡ true
  chained-had [] x left each = left
  chained-had (o ∷ os) x left each =
      chained-had os (expression.Binary (start_in x) o.0.1 o.0.0 x o.1)
      (binary-is (start_in x) o.0.1 o.0.0 x o.1 ∙ both-true (has_expression f x) (has_expression f o.1) left each.0) each.1

  base-had : (b : Base) (ws : Tokens) → SpellsBase f b ws → has_base f b ≡ true
  base-had b ws (inl text) = ap (has_base f) text.1
  base-had b ws (inr (inl text)) = ap (has_base f) text.1.1 ∙ text.0
  base-had b ws (inr (inr text)) = ap (has_base f) text.1.1 ∙ text.0

  abbrev all_parts : List Selector → Bool
  all_parts ps = list_all (λ b. b) (map (has_part f) ps)

  mutual
    pub expression-had : (n : ℕ) (e : Expression) (ws : Tokens) → SpellsExpression f n e ws → has_expression f e ≡ true
    expression-had n e ws (chain g k x os us vs d ts low is split first rest) =
        ap (has_expression f) is ∙ chained-had os x (expression-had (n + 1) x us first) (operations-had n os vs rest)
    expression-had n e ws (prefix g k d ts tight text) = prefix-had e ws text

    operations-had : (n : ℕ) (os : List Operation) (ws : Tokens) → SpellsOperations f n os ws → AreHad os
    operations-had n os ws (no_operation g k all ts is none) = subst (λ (l : List Operation). AreHad l) (sym is) tt
    operations-had n os ws (an_operation g k o r rest us vs xs all ts is split operator right more) =
        subst (λ (l : List Operation). AreHad l) (sym is) (expression-had (n + 1) r vs right, operations-had n rest xs more)

    prefix-had : (e : Expression) (ws : Tokens) → SpellsPrefix f e ws → has_expression f e ≡ true
    prefix-had e ws (number g l d ts is one) = ap (has_expression f) is ∙ number-is l.place l
    prefix-had e ws (truth g p d ts is one) = ap (has_expression f) is ∙ truth-is p.0 p.1
    prefix-had e ws (value g l d ts is text) = ap (has_expression f) is ∙ value-is (start_of_base l.base) l ∙ lvalue-had l ws text
    prefix-had e ws (parenthesised g p q x ps us qs d ts is split opening inner end) =
        ap (has_expression f) is ∙ started-is p x ∙ expression-had _ x us inner
    prefix-had e ws (unary g p x os us d ts is split operator operand) =
        ap (has_expression f) is ∙ unary-is p.0 p.1 p.0 x ∙ prefix-had x us operand
    prefix-had e ws (cast g p q c x ps cs qs us d ts is split opening class end operand) =
        ap (has_expression f) is ∙ cast-is p c.1 p x ∙ prefix-had x us operand

    pub lvalue-had : (l : Lvalue) (ws : Tokens) → SpellsLvalue f l ws → has_lvalue f l ≡ true
    lvalue-had l ws (lvalue g b ps us vs k ts is split first rest) =
        ap (has_lvalue f) is ∙ lvalue-is (record { base = b; parts = ps }) ∙
        both-true (has_base f b) (all_parts ps) (base-had b us first) (parts-had ps vs rest)

    parts-had : (ps : List Selector) (ws : Tokens) → SpellsParts f ps ws → all_parts ps ≡ true
    parts-had ps ws (no_part g all ts is none) = ap all_parts is
    parts-had ps ws (a_member g p x qs ds ns us all ts is split dot name rest) =
        ap all_parts is ∙ both-true (has_part f (selector.Member x)) (all_parts qs) (member-is x) (parts-had qs us rest)
    parts-had ps ws (an_index g p q x rs os us cs vs all ts is split opening index end rest) =
        ap all_parts is ∙
        both-true (has_part f (selector.Index x)) (all_parts rs) (index-is x ∙ expression-had _ x us index) (parts-had rs vs rest)
