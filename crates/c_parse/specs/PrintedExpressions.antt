-- The canonical tokens of expressions and calls, one case for each production of the grammar (docs/formats/c.md).
use Rattle.std.specs.Prelude.{Bool, if◌then◌else◌, List, [], ◌∷◌, ◌++◌}
use Rattle.std.specs.List.{flat_map}
use Rattle.c_tree.specs.declared.integer_type.IntegerType.{IntegerType}
use Rattle.c_tree.specs.declared.named.Named.{Named}
use Rattle.c_tree.specs.declared.operator.UnaryOperator.{UnaryOperator}
use Rattle.c_tree.specs.declared.operator.UnaryOperator.TheVariants as unary
use Rattle.c_tree.specs.declared.operator.BinaryOperator.{BinaryOperator}
use Rattle.c_tree.specs.declared.operator.BinaryOperator.TheVariants as binary
use Rattle.c_tree.specs.declared.print_expression.Position.{Position}
use Rattle.c_tree.specs.declared.print_expression.Position.TheVariants.{Whole, Operand, BehindMinus}
use Rattle.c_tree.specs.declared.expression.Base.{Base}
use Rattle.c_tree.specs.declared.expression.Base.TheVariants as base
use Rattle.c_tree.specs.declared.expression.Argument.{Argument}
use Rattle.c_tree.specs.declared.expression.Argument.TheVariants as argument
use Rattle.c_tree.specs.declared.expression.Call.{Call}
use Rattle.c_tree.specs.declared.expression.RightSide.{RightSide}
use Rattle.c_tree.specs.declared.expression.RightSide.TheVariants as right
use Rattle.c_tree.specs.declared.expression.Selector.{Selector}
use Rattle.c_tree.specs.declared.expression.Lvalue.{Lvalue}
use Rattle.c_tree.specs.declared.expression.Expression.{Expression}
use Rattle.c_tree.specs.declared.expression.Expression.TheOpen.{Expression-F, Selector-F, Lvalue-F}
use Rattle.c_tree.specs.declared.expression.Expression.TheOpen as e
use Rattle.c_tree.specs.declared.expression.Expression.TheFolds.{fold-Expression, fold-Selector, fold-Lvalue}
use Rattle.c_tree.specs.Expressions.{position_behind}
use Rattle.c_parse.specs.declared.keyword.Keyword.TheVariants as keyword
use Rattle.c_parse.specs.declared.mark.Mark.{Mark}
use Rattle.c_parse.specs.declared.mark.Mark.TheVariants as mark
use Rattle.c_parse.specs.declared.token.Token.{Token}
use Rattle.c_parse.specs.declared.token.Token.TheVariants as token

-- the tokens of an expression, for where it stands
abbrev pub Written : Type 0
Written = Position → List Token

abbrev pub name_tokens : Named → List Token
name_tokens x = token.Name x.name ∷ []

abbrev pub integer_token : IntegerType → Token
integer_token class = token.Keyword (keyword.Integer class)

abbrev pub truth_token : Bool → Token
truth_token b = token.Keyword (if b then keyword.True else keyword.False)

abbrev pub unary_mark : UnaryOperator → Mark
unary_mark unary.Minus = mark.Minus
unary_mark unary.Not = mark.Bang
unary_mark unary.Complement = mark.Tilde

abbrev pub binary_mark : BinaryOperator → Mark
binary_mark binary.Or = mark.Or
binary_mark binary.And = mark.And
binary_mark binary.BitOr = mark.Bar
binary_mark binary.BitXor = mark.Caret
binary_mark binary.BitAnd = mark.Ampersand
binary_mark binary.Equal = mark.Equal
binary_mark binary.NotEqual = mark.NotEqual
binary_mark binary.Less = mark.Less
binary_mark binary.LessOrEqual = mark.LessOrEqual
binary_mark binary.Greater = mark.Greater
binary_mark binary.GreaterOrEqual = mark.GreaterOrEqual
binary_mark binary.ShiftLeft = mark.ShiftLeft
binary_mark binary.ShiftRight = mark.ShiftRight
binary_mark binary.Add = mark.Plus
binary_mark binary.Subtract = mark.Minus
binary_mark binary.Multiply = mark.Star
binary_mark binary.Divide = mark.Slash
binary_mark binary.Remainder = mark.Percent

-- in parentheses but where it stands alone
abbrev pub grouped_tokens : Position → List Token → List Token
grouped_tokens Whole ts = ts
grouped_tokens Operand ts = token.Mark mark.OpenParenthesis ∷ ts ++ token.Mark mark.CloseParenthesis ∷ []
grouped_tokens BehindMinus ts = token.Mark mark.OpenParenthesis ∷ ts ++ token.Mark mark.CloseParenthesis ∷ []

-- NAME | "(" "*" NAME ")" | NAME "->" NAME
abbrev pub base_tokens : Base → List Token
base_tokens (base.Variable x) = name_tokens x
base_tokens (base.Pointed at x) = token.Mark mark.OpenParenthesis ∷ token.Mark mark.Star ∷ token.Name x.name ∷ token.Mark mark.CloseParenthesis ∷ []
base_tokens (base.Member x m) = token.Name x.name ∷ token.Mark mark.Arrow ∷ token.Name m.name ∷ []

abbrev pub expression_tokens_step : Expression-F Written (List Token) (List Token) → Written
expression_tokens_step (e.Number start l) position = token.Literal l.numeral ∷ []
expression_tokens_step (e.Truth start b) position = truth_token b ∷ []
expression_tokens_step (e.Value start l) position = l
expression_tokens_step (e.Unary start operator at x) position = token.Mark (unary_mark operator) ∷ x (position_behind operator)
expression_tokens_step (e.Cast start class at x) position =
    token.Mark mark.OpenParenthesis ∷ integer_token class ∷ token.Mark mark.CloseParenthesis ∷ x Operand
expression_tokens_step (e.Binary start operator at l r) position =
    grouped_tokens position (l Operand ++ token.Mark (binary_mark operator) ∷ [] ++ r Operand)

-- "." NAME | "[" expr "]"
abbrev pub selector_tokens_step : Selector-F Written (List Token) (List Token) → List Token
selector_tokens_step (e.Member x) = token.Mark mark.Dot ∷ token.Name x.name ∷ []
selector_tokens_step (e.Index x) = token.Mark mark.OpenBracket ∷ x Whole ++ token.Mark mark.CloseBracket ∷ []

abbrev pub lvalue_tokens_step : Lvalue-F Written (List Token) (List Token) → List Token
lvalue_tokens_step l = base_tokens l.base ++ flat_map (λ ts. ts) l.parts

abbrev pub expression_tokens : Expression → Written
expression_tokens x = fold-Expression Written (List Token) (List Token) expression_tokens_step selector_tokens_step lvalue_tokens_step x

abbrev pub selector_tokens : Selector → List Token
selector_tokens x = fold-Selector Written (List Token) (List Token) expression_tokens_step selector_tokens_step lvalue_tokens_step x

abbrev pub lvalue_tokens : Lvalue → List Token
lvalue_tokens x = fold-Lvalue Written (List Token) (List Token) expression_tokens_step selector_tokens_step lvalue_tokens_step x

-- "," x
abbrev pub behind_comma_tokens : {X : Type 0} → (X → List Token) → X → List Token
behind_comma_tokens tokens x = token.Mark mark.Comma ∷ tokens x

-- [ x { "," x } ]
abbrev pub separated : {X : Type 0} → (X → List Token) → List X → List Token
separated tokens [] = []
separated tokens (x ∷ xs) = tokens x ++ flat_map (behind_comma_tokens tokens) xs

-- "&" NAME | expr
abbrev pub argument_tokens : Argument → List Token
argument_tokens (argument.Address at x) = token.Mark mark.Ampersand ∷ token.Name x.name ∷ []
argument_tokens (argument.Value x) = expression_tokens x Whole

-- NAME "(" [ arg { "," arg } ] ")"
abbrev pub call_tokens : Call → List Token
call_tokens c =
    token.Name c.name.name ∷ token.Mark mark.OpenParenthesis ∷ separated argument_tokens c.arguments ++ token.Mark mark.CloseParenthesis ∷ []

-- call | expr
abbrev pub right_tokens : RightSide → List Token
right_tokens (right.Call c) = call_tokens c
right_tokens (right.Value x) = expression_tokens x Whole
