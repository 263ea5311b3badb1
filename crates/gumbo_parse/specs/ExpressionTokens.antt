-- The canonical tokens of expressions, one case for each production of the grammar (docs/formats/contracts.md).
use Rattle.std.specs.Prelude.{Bool, if◌then◌else◌, List, [], ◌∷◌, ◌++◌}
use Rattle.std.specs.List.{flat_map}
use Rattle.gumbo_parse.specs.declared.mark.Mark.TheVariants as mark
use Rattle.gumbo_parse.specs.declared.token.Token.{Token}
use Rattle.gumbo_parse.specs.declared.token.Token.TheVariants as token
use Rattle.gumbo_parse.specs.declared.word.Word.{Word}
use Rattle.gumbo_parse.specs.declared.word.Word.TheVariants as word
use Rattle.gumbo_parse.specs.declared.operator.UnaryOperator.{UnaryOperator}
use Rattle.gumbo_parse.specs.declared.operator.UnaryOperator.TheVariants.{Not, Minus}
use Rattle.gumbo_parse.specs.declared.operator.BinaryOperator.{BinaryOperator}
use Rattle.gumbo_parse.specs.declared.operator.BinaryOperator.TheVariants as binary
use Rattle.gumbo_parse.specs.declared.operator.Quantifier.{Quantifier}
use Rattle.gumbo_parse.specs.declared.expression.Named.{Named}
use Rattle.gumbo_parse.specs.declared.expression.Bound.{Bound}
use Rattle.gumbo_parse.specs.declared.expression.Selector.{Selector}
use Rattle.gumbo_parse.specs.declared.expression.Expression.{Expression}
use Rattle.gumbo_parse.specs.declared.expression.Expression.TheOpen.{Expression-F, Selector-F}
use Rattle.gumbo_parse.specs.declared.expression.Expression.TheOpen as e
use Rattle.gumbo_parse.specs.declared.expression.Expression.TheFolds.{fold-Expression, fold-Selector}
use Rattle.gumbo_parse.specs.declared.level.Level.{Level}
use Rattle.gumbo_parse.specs.declared.level.Level.TheVariants as level
use Rattle.gumbo_parse.specs.Levels.{is_looser, unary_level, binary_level, left_level, right_level}
use Rattle.gumbo_parse.specs.Operators.{quantifier_word, test_word}

-- the tokens of an expression, for the loosest level that its place wants
abbrev pub Written : Type 0
Written = Level → List Token

abbrev pub in_parentheses : List Token → List Token
in_parentheses ts = token.Mark mark.OpenParenthesis ∷ ts ++ token.Mark mark.CloseParenthesis ∷ []

-- in parentheses where an expression is looser than its place wants it
abbrev pub grouped_tokens : Level → Level → List Token → List Token
grouped_tokens own wanted ts = if is_looser own wanted then in_parentheses ts else ts

abbrev pub truth_word : Bool → Word
truth_word b = if b then word.True else word.False

abbrev pub unary_token : UnaryOperator → Token
unary_token Not = token.Word word.Not
unary_token Minus = token.Mark mark.Minus

abbrev pub binary_token : BinaryOperator → Token
binary_token binary.Implies = token.Word word.Implies
binary_token binary.Or = token.Word word.Or
binary_token binary.And = token.Word word.And
binary_token binary.Equal = token.Mark mark.Equal
binary_token binary.NotEqual = token.Mark mark.NotEqual
binary_token binary.Less = token.Mark mark.Less
binary_token binary.LessOrEqual = token.Mark mark.LessOrEqual
binary_token binary.Greater = token.Mark mark.Greater
binary_token binary.GreaterOrEqual = token.Mark mark.GreaterOrEqual
binary_token binary.Add = token.Mark mark.Plus
binary_token binary.Subtract = token.Mark mark.Minus
binary_token binary.Multiply = token.Mark mark.Star
binary_token binary.Divide = token.Mark mark.Slash
binary_token binary.Remainder = token.Mark mark.Percent

-- word "(" NAME ")"
abbrev pub port_tokens : Word → Named → List Token
port_tokens w x = token.Word w ∷ token.Mark mark.OpenParenthesis ∷ token.Name x.name ∷ token.Mark mark.CloseParenthesis ∷ []

-- [ "-" ]
abbrev pub sign_tokens : Bool → List Token
sign_tokens b = if b then token.Mark mark.Minus ∷ [] else []

-- [ "-" ] INT
abbrev pub bound_tokens : Bound → List Token
bound_tokens b = sign_tokens b.negative ++ token.Number b.number ∷ []

-- ( "forall" | "exists" ) NAME "in" bound "..<" bound ":"
abbrev pub quantification_tokens : Quantifier → Named → Bound → Bound → List Token
quantification_tokens all x from below =
    token.Word (quantifier_word all) ∷ token.Name x.name ∷ token.Word word.In ∷ [] ++
    (bound_tokens from ++ token.Mark mark.Below ∷ [] ++ bound_tokens below ++ token.Mark mark.Colon ∷ [])

abbrev pub expression_tokens_step : Expression-F Written (List Token) → Written
expression_tokens_step (e.Number at v) wanted = token.Number v ∷ []
expression_tokens_step (e.Truth at b) wanted = token.Word (truth_word b) ∷ []
expression_tokens_step (e.Value x parts) wanted = token.Name x.name ∷ flat_map (λ ts. ts) parts
expression_tokens_step (e.Before at x parts) wanted = port_tokens word.In x ++ flat_map (λ ts. ts) parts
expression_tokens_step (e.Test at what x) wanted = port_tokens (test_word what) x
expression_tokens_step (e.MustSend at x start sent) wanted =
    token.Word word.MustSend ∷ token.Mark mark.OpenParenthesis ∷ token.Name x.name ∷ token.Mark mark.Comma ∷ sent level.Implication ++ token.Mark mark.CloseParenthesis ∷ []
expression_tokens_step (e.Unary at operator x) wanted = grouped_tokens (unary_level operator) wanted (unary_token operator ∷ x (unary_level operator))
expression_tokens_step (e.Binary at operator l r) wanted =
    grouped_tokens (binary_level operator) wanted (l (left_level operator) ++ binary_token operator ∷ [] ++ r (right_level operator))
expression_tokens_step (e.Quantified at all x from below start body) wanted =
    token.Mark mark.OpenParenthesis ∷ quantification_tokens all x from below ++ body level.Implication ++ token.Mark mark.CloseParenthesis ∷ []

-- "." NAME | "[" expression "]"
abbrev pub selector_tokens_step : Selector-F Written (List Token) → List Token
selector_tokens_step (e.Field x) = token.Mark mark.Dot ∷ token.Name x.name ∷ []
selector_tokens_step (e.Index start index) = token.Mark mark.OpenBracket ∷ index level.Implication ++ token.Mark mark.CloseBracket ∷ []

abbrev pub expression_tokens : Expression → Written
expression_tokens x = fold-Expression Written (List Token) expression_tokens_step selector_tokens_step x

abbrev pub selector_tokens : Selector → List Token
selector_tokens x = fold-Selector Written (List Token) expression_tokens_step selector_tokens_step x
