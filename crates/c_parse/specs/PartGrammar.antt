-- Pieces of the grammar of expressions that are read by themselves (docs/formats/c.md).
use Rattle.std.specs.Prelude.{Bool, List, ◌∷◌, Option, Some, None}
use Rattle.hw_text.specs.declared.place.Place.{Place}
use Rattle.hw_text.specs.Language.{One, ◌⋅◌, Made, ◌∣◌}
use Rattle.c_tree.specs.Starts.{started_at, value_of}
use Rattle.c_tree.specs.declared.dialect.Dialect.{Dialect}
use Rattle.c_tree.specs.declared.integer_type.IntegerType.{IntegerType}
use Rattle.c_tree.specs.declared.named.Named.{Named}
use Rattle.c_tree.specs.declared.named.Literal.{Literal}
use Rattle.c_tree.specs.declared.operator.UnaryOperator.{UnaryOperator}
use Rattle.c_tree.specs.declared.expression.Base.{Base}
use Rattle.c_tree.specs.declared.expression.Base.TheVariants as base
use Rattle.c_tree.specs.declared.expression.Selector.{Selector}
use Rattle.c_tree.specs.declared.expression.Selector.TheVariants as selector
use Rattle.c_tree.specs.declared.expression.Expression.{Expression}
use Rattle.c_tree.specs.declared.expression.Expression.TheVariants.{Number, Truth, Value, Unary, Cast}
use Rattle.c_parse.specs.declared.mark.Mark.TheVariants as mark
use Rattle.c_parse.specs.Values.{Tokens, name_token, literal_of, integer_of, truth_of}
use Rattle.c_parse.specs.Operators.{unary_of}
use Rattle.c_parse.specs.ExpressionGrammar.{Sign, Name, InFull, member, SpellsPrefix, SpellsLvalue, SpellsParts, SpellsWhole}

-- the tokens from a name on that a reader may have passed
abbrev pub from_name : Option Named → Tokens → Tokens
from_name None ts = ts
from_name (Some x) ts = name_token x ∷ ts

abbrev pub number_at : Literal → Expression
number_at l = Number l.place l

abbrev pub SpellsNumber : Expression → Tokens → Type 0
SpellsNumber = Made number_at (One literal_of)

abbrev pub truth_at : Place × Bool → Expression
truth_at p = Truth p.0 p.1

abbrev pub SpellsTruth : Expression → Tokens → Type 0
SpellsTruth = Made truth_at (One truth_of)

-- NAME, or in full NAME "->" NAME
abbrev pub SpellsNamedBase : Dialect → Base → Tokens → Type 0
SpellsNamedBase dialect = Made base.Variable Name ∣ InFull dialect (Made member (Name ⋅ Sign mark.Arrow ⋅ Name))

-- what stands behind the `(` of a pointer: "*" NAME ")"
abbrev pub SpellsPointed : Named → Tokens → Type 0
SpellsPointed = Made (λ p. p.1.0) (Sign mark.Star ⋅ Name ⋅ Sign mark.CloseParenthesis)

-- "(" "*" NAME ")"
abbrev pub SpellsPointedBase : Base → Tokens → Type 0
SpellsPointedBase = Made (λ p. base.Pointed p.0 p.1) (Sign mark.OpenParenthesis ⋅ SpellsPointed)

-- what stands behind the `(` of a cast: an integer type ")"
abbrev pub SpellsTarget : Place × IntegerType → Tokens → Type 0
SpellsTarget = Made (λ p. p.0) (One integer_of ⋅ Sign mark.CloseParenthesis)

abbrev pub member_part : Place × Named → Selector
member_part p = selector.Member p.1

abbrev pub index_part : Place × (Expression × Place) → Selector
index_part p = selector.Index p.1.0

-- "." NAME | "[" expr "]"
abbrev pub SpellsPart : Dialect → Selector → Tokens → Type 0
SpellsPart dialect =
    Made member_part (Sign mark.Dot ⋅ Name) ∣ Made index_part (Sign mark.OpenBracket ⋅ SpellsWhole dialect ⋅ Sign mark.CloseBracket)

abbrev pub unary_at : (Place × UnaryOperator) × Expression → Expression
unary_at p = Unary p.0.0 p.0.1 p.0.0 p.1

-- an operator and an operand
abbrev pub SpellsPrefixed : Dialect → Expression → Tokens → Type 0
SpellsPrefixed dialect = Made unary_at (One unary_of ⋅ SpellsPrefix dialect)

abbrev pub SpellsValue : Dialect → Expression → Tokens → Type 0
SpellsValue dialect = Made value_of (SpellsLvalue dialect)

-- what stands behind a `(`, as what is made of the place of that
abbrev pub cast_of : (Place × IntegerType) × Expression → Place → Expression
cast_of p at = Cast at p.0.1 at p.1

abbrev pub pointed_of : Named × List Selector → Place → Expression
pointed_of p at = Value at (record { base = base.Pointed at p.0; parts = p.1 })

abbrev pub enclosed_of : Expression × Place → Place → Expression
enclosed_of p at = started_at at p.0

-- an integer type ")" operand, or in full "*" NAME ")" and what leads to a part, or expr ")"
abbrev pub SpellsBehindOpening : Dialect → (Place → Expression) → Tokens → Type 0
SpellsBehindOpening dialect =
    Made cast_of (SpellsTarget ⋅ SpellsPrefix dialect) ∣ InFull dialect (Made pointed_of (SpellsPointed ⋅ SpellsParts dialect)) ∣
    Made enclosed_of (SpellsWhole dialect ⋅ Sign mark.CloseParenthesis)

abbrev pub SpellsOpened : Dialect → Expression → Tokens → Type 0
SpellsOpened dialect = Made (λ p. p.1 p.0) (Sign mark.OpenParenthesis ⋅ SpellsBehindOpening dialect)
