-- How tightly expressions bind, and what the operators of a level are (this project's own; docs/formats/contracts.md).
use Rattle.std.specs.Prelude.{ℕ, nat_lt, Bool, if◌then◌else◌, List, [], ◌∷◌, ◌++◌}
use Rattle.hw_reading.specs.Shapes.{shapes_of}
use Rattle.gumbo_parse.specs.contracts.level.LevelPartialEq.TheImpl.{ghosts}
use Rattle.gumbo_parse.specs.declared.level.Level.{Level}
use Rattle.gumbo_parse.specs.declared.level.Level.TheVariants as level
use Rattle.gumbo_parse.specs.declared.level.Form.{Form}
use Rattle.gumbo_parse.specs.declared.level.Form.TheVariants.{Chain, Pair, Prefix, Operand}
use Rattle.gumbo_parse.specs.declared.mark.Mark.TheVariants as mark
use Rattle.gumbo_parse.specs.declared.operator.UnaryOperator.{UnaryOperator}
use Rattle.gumbo_parse.specs.declared.operator.UnaryOperator.TheVariants as unary
use Rattle.gumbo_parse.specs.declared.operator.BinaryOperator.{BinaryOperator}
use Rattle.gumbo_parse.specs.declared.operator.BinaryOperator.TheVariants as binary
use Rattle.gumbo_parse.specs.declared.shape.Shape.{Shape}
use Rattle.gumbo_parse.specs.declared.shape.Shape.TheVariants as shape
use Rattle.gumbo_parse.specs.declared.word.Word.TheVariants as word
use Rattle.gumbo_parse.specs.Values.{Tokens, Without}

-- the next tighter level, of which operators of a level join expressions
abbrev pub next : Level → Level
next level.Implication = level.Disjunction
next level.Disjunction = level.Conjunction
next level.Conjunction = level.Negation
next level.Negation = level.Comparison
next level.Comparison = level.Sum
next level.Sum = level.Product
next level.Product = level.Sign
next level.Sign = level.Operand
next level.Operand = level.Operand

-- how the expressions of a level are made of those of the next
abbrev pub form_of : Level → Form
form_of level.Implication = Pair
form_of level.Disjunction = Chain
form_of level.Conjunction = Chain
form_of level.Negation = Prefix
form_of level.Comparison = Pair
form_of level.Sum = Chain
form_of level.Product = Chain
form_of level.Sign = Prefix
form_of level.Operand = Operand

abbrev pub left_in : Form → Level → Level
left_in Chain l = l
left_in Pair l = next l
left_in Prefix l = next l
left_in Operand l = next l

-- the level of what stands before an operator: its own, where it groups to the left
abbrev pub left : Level → Level
left l = left_in (form_of l) l

-- the level of what stands behind an operator: its own, where it groups to the right
abbrev pub right : Level → Level
right level.Implication = level.Implication
right level.Disjunction = level.Conjunction
right level.Conjunction = level.Negation
right level.Negation = level.Comparison
right level.Comparison = level.Sum
right level.Sum = level.Product
right level.Product = level.Sign
right level.Sign = level.Operand
right level.Operand = level.Operand

-- how many levels are tighter
abbrev pub height : Level → ℕ
height level.Implication = 8
height level.Disjunction = 7
height level.Conjunction = 6
height level.Negation = 5
height level.Comparison = 4
height level.Sum = 3
height level.Product = 2
height level.Sign = 1
height level.Operand = 0

-- whether an expression of a level is looser than its place wants it
abbrev pub is_looser : Level → Level → Bool
is_looser own wanted = nat_lt (height wanted) (height own)

-- the level of an operator before an operand, and of that operand
abbrev pub unary_level : UnaryOperator → Level
unary_level unary.Not = level.Negation
unary_level unary.Minus = level.Sign

-- the level of an operator between operands
abbrev pub binary_level : BinaryOperator → Level
binary_level binary.Implies = level.Implication
binary_level binary.Or = level.Disjunction
binary_level binary.And = level.Conjunction
binary_level binary.Equal = level.Comparison
binary_level binary.NotEqual = level.Comparison
binary_level binary.Less = level.Comparison
binary_level binary.LessOrEqual = level.Comparison
binary_level binary.Greater = level.Comparison
binary_level binary.GreaterOrEqual = level.Comparison
binary_level binary.Add = level.Sum
binary_level binary.Subtract = level.Sum
binary_level binary.Multiply = level.Product
binary_level binary.Divide = level.Product
binary_level binary.Remainder = level.Product

-- the levels of its operands
abbrev pub left_level : BinaryOperator → Level
left_level o = left (binary_level o)

abbrev pub right_level : BinaryOperator → Level
right_level o = right (binary_level o)

-- the operators between operands, as they are written
abbrev pub all_infixes : List (Shape × BinaryOperator)
all_infixes =
    (shape.Word word.Implies, binary.Implies) ∷ (shape.Mark mark.Implication, binary.Implies) ∷ (shape.Word word.Or, binary.Or) ∷
    (shape.Mark mark.Bar, binary.Or) ∷ (shape.Word word.And, binary.And) ∷ (shape.Mark mark.Ampersand, binary.And) ∷
    (shape.Mark mark.Equal, binary.Equal) ∷ (shape.Mark mark.NotEqual, binary.NotEqual) ∷ (shape.Mark mark.Less, binary.Less) ∷
    (shape.Mark mark.LessOrEqual, binary.LessOrEqual) ∷ (shape.Mark mark.Greater, binary.Greater) ∷
    (shape.Mark mark.GreaterOrEqual, binary.GreaterOrEqual) ∷ (shape.Mark mark.Plus, binary.Add) ∷
    (shape.Mark mark.Minus, binary.Subtract) ∷ (shape.Mark mark.Star, binary.Multiply) ∷ (shape.Mark mark.Slash, binary.Divide) ∷
    (shape.Mark mark.Percent, binary.Remainder) ∷ []

-- the operators before an operand
abbrev pub all_prefixes : List (Shape × UnaryOperator)
all_prefixes = (shape.Word word.Not, unary.Not) ∷ (shape.Mark mark.Bang, unary.Not) ∷ (shape.Mark mark.Minus, unary.Minus) ∷ []

abbrev pub same_level : Level → Level → Bool
same_level a b = ghosts.eq a b

-- those whose operator is of the level
abbrev pub of_level : {O : Type 0} → (O → Level) → Level → List (Shape × O) → List (Shape × O)
of_level level_of l [] = []
of_level level_of l (row ∷ rows) = if same_level (level_of row.1) l then row ∷ of_level level_of l rows else of_level level_of l rows

-- the operators of a level
abbrev pub infixes : Level → List (Shape × BinaryOperator)
infixes l = of_level binary_level l all_infixes

abbrev pub prefixes : Level → List (Shape × UnaryOperator)
prefixes l = of_level unary_level l all_prefixes

abbrev pub part_shapes : List Shape
part_shapes = shape.Mark mark.Dot ∷ shape.Mark mark.OpenBracket ∷ []

-- the tokens with which expressions go on, up to those of a level
abbrev pub product_goes_on : List Shape
product_goes_on = shapes_of (infixes level.Product) ++ part_shapes

abbrev pub sum_goes_on : List Shape
sum_goes_on = shapes_of (infixes level.Sum) ++ product_goes_on

abbrev pub comparison_goes_on : List Shape
comparison_goes_on = shapes_of (infixes level.Comparison) ++ sum_goes_on

abbrev pub conjunction_goes_on : List Shape
conjunction_goes_on = shapes_of (infixes level.Conjunction) ++ comparison_goes_on

abbrev pub disjunction_goes_on : List Shape
disjunction_goes_on = shapes_of (infixes level.Disjunction) ++ conjunction_goes_on

abbrev pub goes_on : Level → List Shape
goes_on level.Implication = shapes_of (infixes level.Implication) ++ disjunction_goes_on
goes_on level.Disjunction = disjunction_goes_on
goes_on level.Conjunction = conjunction_goes_on
goes_on level.Negation = comparison_goes_on
goes_on level.Comparison = comparison_goes_on
goes_on level.Sum = sum_goes_on
goes_on level.Product = product_goes_on
goes_on level.Sign = part_shapes
goes_on level.Operand = part_shapes

-- what stands behind an expression of a level
abbrev pub Ends : Level → Tokens → Type 0
Ends l = Without (goes_on l)
