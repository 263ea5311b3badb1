-- What holds of each expression, part and lvalue, where it holds of one as soon as it holds of what is in it.
use Rattle.std.proofs.Common.{Bool, List, [], ◌∷◌, map, subst}
use Rattle.hw_text.specs.declared.place.Place.{Place}
use Rattle.c_tree.specs.declared.integer_type.IntegerType.{IntegerType}
use Rattle.c_tree.specs.declared.named.Named.{Named}
use Rattle.c_tree.specs.declared.named.Literal.{Literal}
use Rattle.c_tree.specs.declared.operator.UnaryOperator.{UnaryOperator}
use Rattle.c_tree.specs.declared.operator.BinaryOperator.{BinaryOperator}
use Rattle.c_tree.specs.declared.expression.Base.{Base}
use Rattle.c_tree.specs.declared.expression.Selector.{Selector}
use Rattle.c_tree.specs.declared.expression.Lvalue.{Lvalue}
use Rattle.c_tree.specs.declared.expression.Expression.{Expression}
use Rattle.c_tree.specs.declared.expression.Expression.TheFolds.{ind-Expression, ind-Lvalue, map-Expression, map-Selector, map-Lvalue}
use Rattle.c_tree.specs.declared.expression.Expression.TheOpen.{Expression-F, Selector-F, Lvalue-F}
use Rattle.c_tree.specs.declared.expression.Expression.TheOpen as opened
use Rattle.c_tree.specs.declared.expression.Expression.TheViews.{roll-Expression, roll-Selector, roll-Lvalue}

-- what holds of each member
abbrev pub OfEach : {X : Type 0} → (X → Type 0) → List X → Type 0
OfEach P [] = Unit {0}
OfEach P (x ∷ xs) = P x × OfEach P xs

module _ (P : Expression → Type 0) (S : Selector → Type 0) (L : Lvalue → Type 0) where
  -- one case for each form
  pub record Cases : Type 0 where
    pub number : (start : Place) (l : Literal) → P (roll-Expression (opened.Number start l))
    pub truth : (start : Place) (b : Bool) → P (roll-Expression (opened.Truth start b))
    pub value : (start : Place) (l : Lvalue) → L l → P (roll-Expression (opened.Value start l))
    pub unary : (start : Place) (o : UnaryOperator) (at : Place) (x : Expression) → P x → P (roll-Expression (opened.Unary start o at x))
    pub cast : (start : Place) (c : IntegerType) (at : Place) (x : Expression) → P x → P (roll-Expression (opened.Cast start c at x))
    pub binary : (start : Place) (o : BinaryOperator) (at : Place) (l r : Expression) → P l → P r → P (roll-Expression (opened.Binary start o at l r))
    pub member : (x : Named) → S (roll-Selector (opened.Member x))
    pub index : (x : Expression) → P x → S (roll-Selector (opened.Index x))
    pub lvalue : (b : Base) (ps : List Selector) → OfEach S ps → L (roll-Lvalue (record { base = b; parts = ps }))

  abbrev Known : Type 0
  Known = (x : Expression) × P x

  abbrev KnownPart : Type 0
  KnownPart = (s : Selector) × S s

  abbrev KnownLvalue : Type 0
  KnownLvalue = (l : Lvalue) × L l

  each : (es : List KnownPart) → OfEach S (map (λ e. e.0) es)
  each [] = tt
  each (e ∷ es) = (e.1, each es)

  step : Cases → (y : Expression-F Known KnownPart KnownLvalue) → P (roll-Expression (map-Expression Known KnownPart KnownLvalue Expression Selector Lvalue (λ e. e.0) (λ e. e.0) (λ e. e.0) y))
  step c (opened.Number start l) = c.number start l
  step c (opened.Truth start b) = c.truth start b
  step c (opened.Value start l) = c.value start l.0 l.1
  step c (opened.Unary start o at x) = c.unary start o at x.0 x.1
  step c (opened.Cast start k at x) = c.cast start k at x.0 x.1
  step c (opened.Binary start o at l r) = c.binary start o at l.0 r.0 l.1 r.1

  part_step : Cases → (y : Selector-F Known KnownPart KnownLvalue) → S (roll-Selector (map-Selector Known KnownPart KnownLvalue Expression Selector Lvalue (λ e. e.0) (λ e. e.0) (λ e. e.0) y))
  part_step c (opened.Member x) = c.member x
  part_step c (opened.Index x) = c.index x.0 x.1

  lvalue_step : Cases → (y : Lvalue-F Known KnownPart KnownLvalue) → L (roll-Lvalue (map-Lvalue Known KnownPart KnownLvalue Expression Selector Lvalue (λ e. e.0) (λ e. e.0) (λ e. e.0) y))
  lvalue_step c y = c.lvalue y.base (map (λ e. e.0) y.parts) (each y.parts)

  pub of_each_expression : Cases → (x : Expression) → P x
  of_each_expression c =
      ind-Expression P S L
      (λ x y is. subst (λ z. P (roll-Expression z)) is (step c y))
      (λ x y is. subst (λ z. S (roll-Selector z)) is (part_step c y))
      (λ x y is. subst (λ z. L (roll-Lvalue z)) is (lvalue_step c y))

  pub of_each_lvalue : Cases → (x : Lvalue) → L x
  of_each_lvalue c =
      ind-Lvalue P S L
      (λ x y is. subst (λ z. P (roll-Expression z)) is (step c y))
      (λ x y is. subst (λ z. S (roll-Selector z)) is (part_step c y))
      (λ x y is. subst (λ z. L (roll-Lvalue z)) is (lvalue_step c y))
