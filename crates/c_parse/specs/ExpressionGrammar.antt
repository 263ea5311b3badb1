-- The grammar of expressions: which tokens spell a tree, in the user grammar or the full one (docs/formats/c.md).
use Rattle.std.specs.Prelude.{◌≡◌, ℕ, ◌+◌, ◌<◌, Bool, IsTrue, List, [], ◌∷◌, ◌++◌}
use Rattle.hw_text.specs.declared.place.Place.{Place}
use Rattle.hw_text.specs.Language.{One, ◌⋅◌, Made, ◌∣◌}
use Rattle.c_tree.specs.declared.dialect.Dialect.{Dialect}
use Rattle.c_tree.specs.Dialects.{is_full}
use Rattle.c_tree.specs.Starts.{start_of_base, started_at, start_in}
use Rattle.c_tree.specs.declared.integer_type.IntegerType.{IntegerType}
use Rattle.c_tree.specs.declared.named.Named.{Named}
use Rattle.c_tree.specs.declared.named.Literal.{Literal}
use Rattle.c_tree.specs.declared.operator.UnaryOperator.{UnaryOperator}
use Rattle.c_tree.specs.declared.operator.BinaryOperator.{BinaryOperator}
use Rattle.c_tree.specs.declared.expression.Base.{Base}
use Rattle.c_tree.specs.declared.expression.Base.TheVariants as base
use Rattle.c_tree.specs.declared.expression.Selector.{Selector}
use Rattle.c_tree.specs.declared.expression.Selector.TheVariants as selector
use Rattle.c_tree.specs.declared.expression.Lvalue.{Lvalue}
use Rattle.c_tree.specs.declared.expression.Expression.{Expression}
use Rattle.c_tree.specs.declared.expression.Expression.TheVariants.{Number, Truth, Value, Unary, Cast, Binary}
use Rattle.c_parse.specs.declared.mark.Mark.{Mark}
use Rattle.c_parse.specs.declared.mark.Mark.TheVariants as mark
use Rattle.c_parse.specs.Values.{Tokens, mark_of, name_of, literal_of, integer_of, truth_of}
use Rattle.c_parse.specs.Operators.{unary_of, binary_at}
use Rattle.c_parse.specs.Levels.{prefix_level, loosest_level}

-- this mark
abbrev pub Sign : Mark → Place → Tokens → Type 0
Sign m = One (mark_of m)

abbrev pub Name : Named → Tokens → Type 0
Name = One name_of

-- what the full grammar has beside that of users
abbrev pub InFull : {X : Type 0} → Dialect → (X → Tokens → Type 0) → X → Tokens → Type 0
InFull dialect A x ts = IsTrue (is_full dialect) × A x ts

abbrev pub pointed : Place × (Place × (Named × Place)) → Base
pointed p = base.Pointed p.0 p.1.1.0

abbrev pub member : Named × (Place × Named) → Base
member p = base.Member p.0 p.1.1

-- NAME, or in full "(" "*" NAME ")" or NAME "->" NAME
abbrev pub SpellsBase : Dialect → Base → Tokens → Type 0
SpellsBase dialect =
    Made base.Variable Name ∣
    InFull dialect (Made pointed (Sign mark.OpenParenthesis ⋅ Sign mark.Star ⋅ Name ⋅ Sign mark.CloseParenthesis)) ∣
    InFull dialect (Made member (Name ⋅ Sign mark.Arrow ⋅ Name))

-- an operator, where it stands, and its right operand
abbrev pub Operation : Type 0
Operation = (Place × BinaryOperator) × Expression

-- operations on an expression, from the left
abbrev pub chained : Expression → List Operation → Expression
chained x [] = x
chained x (o ∷ os) = chained (Binary (start_in x) o.0.1 o.0.0 x o.1) os

mutual
  -- these tokens spell this expression where one of this level stands
  pub data SpellsExpression : Dialect → ℕ → Expression → Tokens → Type 0 where
    chain : (dialect : Dialect) (n : ℕ) (x : Expression) (os : List Operation) (us vs : Tokens) (e : Expression) (ts : Tokens) → n < prefix_level → e ≡ chained x os → ts ≡ us ++ vs → SpellsExpression dialect (n + 1) x us → SpellsOperations dialect n os vs → SpellsExpression dialect n e ts
    prefix : (dialect : Dialect) (n : ℕ) (e : Expression) (ts : Tokens) → n ≡ prefix_level → SpellsPrefix dialect e ts → SpellsExpression dialect n e ts

  -- { operator of the level, operand of the next one }
  pub data SpellsOperations : Dialect → ℕ → List Operation → Tokens → Type 0 where
    no_operation : (dialect : Dialect) (n : ℕ) (all : List Operation) (ts : Tokens) → all ≡ [] → ts ≡ [] → SpellsOperations dialect n all ts
    an_operation : (dialect : Dialect) (n : ℕ) (o : Place × BinaryOperator) (r : Expression) (rest : List Operation) (os us vs : Tokens) (all : List Operation) (ts : Tokens) → all ≡ (o, r) ∷ rest → ts ≡ os ++ (us ++ vs) → One (binary_at n) o os → SpellsExpression dialect (n + 1) r us → SpellsOperations dialect n rest vs → SpellsOperations dialect n all ts

  -- an operator before an operand, a cast, or what has no operator
  pub data SpellsPrefix : Dialect → Expression → Tokens → Type 0 where
    number : (dialect : Dialect) (l : Literal) (e : Expression) (ts : Tokens) → e ≡ Number l.place l → One literal_of l ts → SpellsPrefix dialect e ts
    truth : (dialect : Dialect) (p : Place × Bool) (e : Expression) (ts : Tokens) → e ≡ Truth p.0 p.1 → One truth_of p ts → SpellsPrefix dialect e ts
    value : (dialect : Dialect) (l : Lvalue) (e : Expression) (ts : Tokens) → e ≡ Value (start_of_base l.base) l → SpellsLvalue dialect l ts → SpellsPrefix dialect e ts
    parenthesised : (dialect : Dialect) (p q : Place) (x : Expression) (ps us qs : Tokens) (e : Expression) (ts : Tokens) → e ≡ started_at p x → ts ≡ ps ++ (us ++ qs) → Sign mark.OpenParenthesis p ps → SpellsExpression dialect loosest_level x us → Sign mark.CloseParenthesis q qs → SpellsPrefix dialect e ts
    unary : (dialect : Dialect) (p : Place × UnaryOperator) (x : Expression) (os us : Tokens) (e : Expression) (ts : Tokens) → e ≡ Unary p.0 p.1 p.0 x → ts ≡ os ++ us → One unary_of p os → SpellsPrefix dialect x us → SpellsPrefix dialect e ts
    cast : (dialect : Dialect) (p q : Place) (c : Place × IntegerType) (x : Expression) (ps cs qs us : Tokens) (e : Expression) (ts : Tokens) → e ≡ Cast p c.1 p x → ts ≡ ps ++ (cs ++ (qs ++ us)) → Sign mark.OpenParenthesis p ps → One integer_of c cs → Sign mark.CloseParenthesis q qs → SpellsPrefix dialect x us → SpellsPrefix dialect e ts

  pub data SpellsLvalue : Dialect → Lvalue → Tokens → Type 0 where
    lvalue : (dialect : Dialect) (b : Base) (ps : List Selector) (us vs : Tokens) (l : Lvalue) (ts : Tokens) → l ≡ record { base = b; parts = ps } → ts ≡ us ++ vs → SpellsBase dialect b us → SpellsParts dialect ps vs → SpellsLvalue dialect l ts

  -- { "." NAME | "[" expr "]" }
  pub data SpellsParts : Dialect → List Selector → Tokens → Type 0 where
    no_part : (dialect : Dialect) (all : List Selector) (ts : Tokens) → all ≡ [] → ts ≡ [] → SpellsParts dialect all ts
    a_member : (dialect : Dialect) (p : Place) (x : Named) (ps : List Selector) (ds ns us : Tokens) (all : List Selector) (ts : Tokens) → all ≡ selector.Member x ∷ ps → ts ≡ ds ++ (ns ++ us) → Sign mark.Dot p ds → Name x ns → SpellsParts dialect ps us → SpellsParts dialect all ts
    an_index : (dialect : Dialect) (p q : Place) (x : Expression) (ps : List Selector) (os us qs vs : Tokens) (all : List Selector) (ts : Tokens) → all ≡ selector.Index x ∷ ps → ts ≡ os ++ (us ++ (qs ++ vs)) → Sign mark.OpenBracket p os → SpellsExpression dialect loosest_level x us → Sign mark.CloseBracket q qs → SpellsParts dialect ps vs → SpellsParts dialect all ts

-- an expression as it stands alone
abbrev pub SpellsWhole : Dialect → Expression → Tokens → Type 0
SpellsWhole dialect = SpellsExpression dialect loosest_level
