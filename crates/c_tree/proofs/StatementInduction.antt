-- What holds of each statement, branch and `else`, where it holds of one as soon as it holds of what is in it.
use Rattle.std.proofs.Common.{List, [], ◌∷◌, map, subst}
use Rattle.hw_text.specs.declared.place.Place.{Place}
use Rattle.c_tree.specs.declared.integer_type.IntegerType.{IntegerType}
use Rattle.c_tree.specs.declared.named.Named.{Named}
use Rattle.c_tree.specs.declared.named.SignedLiteral.{SignedLiteral}
use Rattle.c_tree.specs.declared.type_name.TypeName.{TypeName}
use Rattle.c_tree.specs.declared.expression.Call.{Call}
use Rattle.c_tree.specs.declared.expression.Lvalue.{Lvalue}
use Rattle.c_tree.specs.declared.expression.RightSide.{RightSide}
use Rattle.c_tree.specs.declared.statement.LocalValue.{LocalValue}
use Rattle.c_tree.specs.declared.statement.Branch.{Branch}
use Rattle.c_tree.specs.declared.statement.Otherwise.{Otherwise}
use Rattle.c_tree.specs.declared.statement.Statement.{Statement}
use Rattle.c_tree.specs.declared.statement.Otherwise.TheFolds.{ind-Statement, map-Statement, map-Branch, map-Otherwise}
use Rattle.c_tree.specs.declared.statement.Otherwise.TheOpen.{Statement-F, Branch-F, Otherwise-F}
use Rattle.c_tree.specs.declared.statement.Otherwise.TheOpen as opened
use Rattle.c_tree.specs.declared.statement.Otherwise.TheViews.{roll-Statement, roll-Branch, roll-Otherwise}
use Rattle.c_tree.proofs.ExpressionInduction.{OfEach}

module _ (O : Otherwise → Type 0) (P : Statement → Type 0) (B : Branch → Type 0) where
  -- one case for each form
  pub record Cases : Type 0 where
    pub local : (class : TypeName) (x : Named) (value : LocalValue) → P (roll-Statement (opened.Local class x value))
    pub assign : (target : Lvalue) (value : RightSide) → P (roll-Statement (opened.Assign target value))
    pub call : (c : Call) → P (roll-Statement (opened.Call c))
    pub choice : (first : Branch) (others : List Branch) (otherwise : Otherwise) → B first → OfEach B others → O otherwise → P (roll-Statement (opened.If first others otherwise))
    pub count : (class : IntegerType) (x : Named) (from : SignedLiteral) (at : Place) (below : SignedLiteral) (body : List Statement) → OfEach P body → P (roll-Statement (opened.Count class x from at below body))
    pub forever : (body : List Statement) → OfEach P body → P (roll-Statement (opened.Forever body))
    pub break : P (roll-Statement opened.Break)
    pub branch : (condition : RightSide) (body : List Statement) → OfEach P body → B (roll-Branch (record { condition = condition; body = body }))
    pub nothing : O (roll-Otherwise opened.Nothing)
    pub block : (body : List Statement) → OfEach P body → O (roll-Otherwise (opened.Block body))

  abbrev Known : Type 0
  Known = (x : Statement) × P x

  abbrev KnownBranch : Type 0
  KnownBranch = (b : Branch) × B b

  abbrev KnownOtherwise : Type 0
  KnownOtherwise = (o : Otherwise) × O o

  each : (es : List Known) → OfEach P (map (λ e. e.0) es)
  each [] = tt
  each (e ∷ es) = (e.1, each es)

  each_branch : (es : List KnownBranch) → OfEach B (map (λ e. e.0) es)
  each_branch [] = tt
  each_branch (e ∷ es) = (e.1, each_branch es)

  step : Cases → (y : Statement-F KnownOtherwise Known KnownBranch) → P (roll-Statement (map-Statement KnownOtherwise Known KnownBranch Otherwise Statement Branch (λ e. e.0) (λ e. e.0) (λ e. e.0) y))
  step c (opened.Local class x value) = c.local class x value
  step c (opened.Assign target value) = c.assign target value
  step c (opened.Call k) = c.call k
  step c (opened.If first others otherwise) = c.choice first.0 (map (λ e. e.0) others) otherwise.0 first.1 (each_branch others) otherwise.1
  step c (opened.Count class x from at below body) = c.count class x from at below (map (λ e. e.0) body) (each body)
  step c (opened.Forever body) = c.forever (map (λ e. e.0) body) (each body)
  step c opened.Break = c.break

  branch_step : Cases → (y : Branch-F KnownOtherwise Known KnownBranch) → B (roll-Branch (map-Branch KnownOtherwise Known KnownBranch Otherwise Statement Branch (λ e. e.0) (λ e. e.0) (λ e. e.0) y))
  branch_step c y = c.branch y.condition (map (λ e. e.0) y.body) (each y.body)

  otherwise_step : Cases → (y : Otherwise-F KnownOtherwise Known KnownBranch) → O (roll-Otherwise (map-Otherwise KnownOtherwise Known KnownBranch Otherwise Statement Branch (λ e. e.0) (λ e. e.0) (λ e. e.0) y))
  otherwise_step c opened.Nothing = c.nothing
  otherwise_step c (opened.Block body) = c.block (map (λ e. e.0) body) (each body)

  pub of_each_statement : Cases → (x : Statement) → P x
  of_each_statement c =
      ind-Statement O P B
      (λ x y is. subst (λ z. O (roll-Otherwise z)) is (otherwise_step c y))
      (λ x y is. subst (λ z. P (roll-Statement z)) is (step c y))
      (λ x y is. subst (λ z. B (roll-Branch z)) is (branch_step c y))
