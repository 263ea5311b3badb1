-- The canonical text of expressions: words and names in lower case, parentheses where the tree needs them (this project's own;
-- docs/formats/contracts.md).
use Rattle.std.specs.Prelude.{ℕ, pos, Bool, true, false, if◌then◌else◌, List, [], ◌++◌, codes}
use Rattle.std.specs.Fmt.{signed_decimal}
use Rattle.std.specs.List.{flat_map}
use Rattle.gumbo_parse.specs.declared.operator.UnaryOperator.{UnaryOperator}
use Rattle.gumbo_parse.specs.declared.operator.UnaryOperator.TheVariants.{Not, Minus}
use Rattle.gumbo_parse.specs.declared.operator.Quantifier.{Quantifier}
use Rattle.gumbo_parse.specs.declared.expression.Named.{Named}
use Rattle.gumbo_parse.specs.declared.expression.Bound.{Bound}
use Rattle.gumbo_parse.specs.declared.expression.Selector.{Selector}
use Rattle.gumbo_parse.specs.declared.expression.Expression.{Expression}
use Rattle.gumbo_parse.specs.declared.expression.Expression.TheOpen.{Expression-F, Selector-F}
use Rattle.gumbo_parse.specs.declared.expression.Expression.TheOpen as e
use Rattle.gumbo_parse.specs.declared.expression.Expression.TheFolds.{fold-Expression, fold-Selector}
use Rattle.gumbo_parse.specs.declared.level.Level.{Level}
use Rattle.gumbo_parse.specs.declared.level.Level.TheVariants as level
use Rattle.gumbo_parse.specs.Levels.{is_looser, unary_level, binary_level, left_level, right_level}
use Rattle.gumbo_parse.specs.Operators.{binary_text, quantifier_word, test_word}
use Rattle.gumbo_parse.specs.Words.{word_spelling}

abbrev pub opening : Bool → List ℕ
opening b = if b then codes "(" else []

abbrev pub closing : Bool → List ℕ
closing b = if b then codes ")" else []

-- in parentheses where an expression is looser than its place wants it
abbrev pub grouped : Level → Level → List ℕ → List ℕ
grouped own wanted text = opening (is_looser own wanted) ++ text ++ closing (is_looser own wanted)

-- the text of an expression, for the loosest level that its place wants, and for whether a minus stands right before it
abbrev pub Text : Type 0
Text = Level → Bool → List ℕ

abbrev pub truth_text : Bool → List ℕ
truth_text b = if b then codes "true" else codes "false"

abbrev pub bound_text : Bound → List ℕ
bound_text b = (if b.negative then codes "-" else []) ++ signed_decimal (pos b.number)

-- two minus signs side by side would begin a comment
abbrev pub sign_text : UnaryOperator → Bool → List ℕ
sign_text Not after_minus = codes "not "
sign_text Minus after_minus = if after_minus then codes " -" else codes "-"

abbrev pub is_minus : UnaryOperator → Bool
is_minus Not = false
is_minus Minus = true

abbrev pub in_parentheses_text : List ℕ → Named → List ℕ
in_parentheses_text word x = word ++ codes "(" ++ x.name ++ codes ")"

abbrev pub quantifier_text : Quantifier → Named → List ℕ
quantifier_text all x = codes "(" ++ word_spelling (quantifier_word all) ++ codes " " ++ x.name ++ codes " in "

abbrev pub range_text : Bound → Bound → List ℕ
range_text from below = bound_text from ++ codes " ..< " ++ bound_text below ++ codes ": "

abbrev pub expression_step : Expression-F Text (List ℕ) → Text
expression_step (e.Number at v) wanted after_minus = signed_decimal (pos v)
expression_step (e.Truth at b) wanted after_minus = truth_text b
expression_step (e.Value x parts) wanted after_minus = x.name ++ flat_map (λ t. t) parts
expression_step (e.Before at x parts) wanted after_minus = in_parentheses_text (codes "In") x ++ flat_map (λ t. t) parts
expression_step (e.Test at what x) wanted after_minus = in_parentheses_text (word_spelling (test_word what)) x
expression_step (e.MustSend at x start sent) wanted after_minus = codes "MustSend(" ++ x.name ++ codes ", " ++ sent level.Implication false ++ codes ")"
expression_step (e.Unary at operator x) wanted after_minus = grouped (unary_level operator) wanted (sign_text operator after_minus ++ x (unary_level operator) (is_minus operator))
expression_step (e.Binary at operator l r) wanted after_minus =
    grouped (binary_level operator) wanted
    (l (left_level operator) false ++ codes " " ++ binary_text operator ++ codes " " ++ r (right_level operator) false)
expression_step (e.Quantified at all x from below start body) wanted after_minus =
    quantifier_text all x ++ range_text from below ++ body level.Implication false ++ codes ")"

abbrev pub selector_step : Selector-F Text (List ℕ) → List ℕ
selector_step (e.Field x) = codes "." ++ x.name
selector_step (e.Index start index) = codes "[" ++ index level.Implication false ++ codes "]"

abbrev pub expression_text : Expression → Text
expression_text x = fold-Expression Text (List ℕ) expression_step selector_step x

abbrev pub selector_text : Selector → List ℕ
selector_text x = fold-Selector Text (List ℕ) expression_step selector_step x
