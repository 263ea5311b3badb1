-- What holds of each expression and each part, where it holds of one as soon as it holds of what is in it.
use Rattle.std.proofs.Common.{ℕ, Bool, List, [], ◌∷◌, map, sym, subst}
use Rattle.hw_text.specs.declared.place.Place.{Place}
use Rattle.gumbo_parse.specs.declared.expression.Bound.{Bound}
use Rattle.gumbo_parse.specs.declared.expression.Named.{Named}
use Rattle.gumbo_parse.specs.declared.expression.Expression.{Expression}
use Rattle.gumbo_parse.specs.declared.expression.Expression.TheFolds.{ind-Expression, map-Expression, map-Selector}
use Rattle.gumbo_parse.specs.declared.expression.Expression.TheOpen.{Expression-F, Selector-F}
use Rattle.gumbo_parse.specs.declared.expression.Expression.TheOpen as opened
use Rattle.gumbo_parse.specs.declared.expression.Expression.TheVariants as expression
use Rattle.gumbo_parse.specs.declared.expression.Expression.TheViews.{roll-Expression, roll-Selector}
use Rattle.gumbo_parse.specs.declared.expression.Selector.{Selector}
use Rattle.gumbo_parse.specs.declared.expression.Selector.TheVariants as selector
use Rattle.gumbo_parse.specs.declared.operator.UnaryOperator.{UnaryOperator}
use Rattle.gumbo_parse.specs.declared.operator.BinaryOperator.{BinaryOperator}
use Rattle.gumbo_parse.specs.declared.operator.Quantifier.{Quantifier}
use Rattle.gumbo_parse.specs.declared.operator.PortTest.{PortTest}

-- what holds of each member
abbrev pub OfEach : {X : Type 0} → (X → Type 0) → List X → Type 0
OfEach P [] = Unit {0}
OfEach P (x ∷ xs) = P x × OfEach P xs

module _ (P : Expression → Type 0) (S : Selector → Type 0) where
  -- one case for each form
  pub record Cases : Type 0 where
    pub number : (at : Place) (v : ℕ) → P (expression.Number at v)
    pub truth : (at : Place) (b : Bool) → P (expression.Truth at b)
    pub value : (x : Named) (ps : List Selector) → OfEach S ps → P (expression.Value x ps)
    pub before : (at : Place) (x : Named) (ps : List Selector) → OfEach S ps → P (expression.Before at x ps)
    pub test : (at : Place) (what : PortTest) (x : Named) → P (expression.Test at what x)
    pub must_send : (at : Place) (x : Named) (start : Place) (sent : Expression) → P sent → P (expression.MustSend at x start sent)
    pub unary : (at : Place) (o : UnaryOperator) (x : Expression) → P x → P (expression.Unary at o x)
    pub binary : (at : Place) (o : BinaryOperator) (l r : Expression) → P l → P r → P (expression.Binary at o l r)
    pub quantified : (at : Place) (all : Quantifier) (x : Named) (from below : Bound) (start : Place) (body : Expression) → P body → P (expression.Quantified at all x from below start body)
    pub field : (x : Named) → S (selector.Field x)
    pub index : (start : Place) (x : Expression) → P x → S (selector.Index start x)

  abbrev Known : Type 0
  Known = (x : Expression) × P x

  abbrev KnownPart : Type 0
  KnownPart = (s : Selector) × S s

  each : (es : List KnownPart) → OfEach S (map (λ e. e.0) es)
  each [] = tt
  each (e ∷ es) = (e.1, each es)

  step : Cases → (y : Expression-F Known KnownPart) → P (roll-Expression (map-Expression Known KnownPart Expression Selector (λ e. e.0) (λ e. e.0) y))
  step c (opened.Number at v) = subst P (sym (expression.rolls-Number at v)) (c.number at v)
  step c (opened.Truth at b) = subst P (sym (expression.rolls-Truth at b)) (c.truth at b)
  step c (opened.Value x es) = subst P (sym (expression.rolls-Value x (map (λ e. e.0) es))) (c.value x (map (λ e. e.0) es) (each es))
  step c (opened.Before at x es) = subst P (sym (expression.rolls-Before at x (map (λ e. e.0) es))) (c.before at x (map (λ e. e.0) es) (each es))
  step c (opened.Test at what x) = subst P (sym (expression.rolls-Test at what x)) (c.test at what x)
  step c (opened.MustSend at x start e) = subst P (sym (expression.rolls-MustSend at x start e.0)) (c.must_send at x start e.0 e.1)
  step c (opened.Unary at o e) = subst P (sym (expression.rolls-Unary at o e.0)) (c.unary at o e.0 e.1)
  step c (opened.Binary at o l r) = subst P (sym (expression.rolls-Binary at o l.0 r.0)) (c.binary at o l.0 r.0 l.1 r.1)
  step c (opened.Quantified at all x from below start e) = subst P (sym (expression.rolls-Quantified at all x from below start e.0)) (c.quantified at all x from below start e.0 e.1)

  part_step : Cases → (y : Selector-F Known KnownPart) → S (roll-Selector (map-Selector Known KnownPart Expression Selector (λ e. e.0) (λ e. e.0) y))
  part_step c (opened.Field x) = subst S (sym (selector.rolls-Field x)) (c.field x)
  part_step c (opened.Index start e) = subst S (sym (selector.rolls-Index start e.0)) (c.index start e.0 e.1)

  pub of_each_expression : Cases → (x : Expression) → P x
  of_each_expression c =
      ind-Expression P S
      (λ x y is. subst (λ z. P (roll-Expression z)) is (step c y))
      (λ x y is. subst (λ z. S (roll-Selector z)) is (part_step c y))
