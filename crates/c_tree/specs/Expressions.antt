-- The canonical text of expressions: parentheses round each operand that is a binary operation and nowhere else, and a space between
-- two minus signs (this project's own; docs/formats/c.md).
use Rattle.std.specs.Prelude.{ℕ, List, [], ◌++◌, codes, map}
use Rattle.std.specs.List.{flat_map}
use Rattle.c_tree.specs.declared.operator.UnaryOperator.{UnaryOperator}
use Rattle.c_tree.specs.declared.operator.UnaryOperator.TheVariants.{Minus, Not, Complement}
use Rattle.c_tree.specs.declared.print_expression.Position.{Position}
use Rattle.c_tree.specs.declared.print_expression.Position.TheVariants.{Whole, Operand, BehindMinus}
use Rattle.c_tree.specs.declared.expression.Base.{Base}
use Rattle.c_tree.specs.declared.expression.Base.TheVariants as base
use Rattle.c_tree.specs.declared.expression.Argument.{Argument}
use Rattle.c_tree.specs.declared.expression.Argument.TheVariants as argument
use Rattle.c_tree.specs.declared.expression.Call.{Call}
use Rattle.c_tree.specs.declared.expression.RightSide.{RightSide}
use Rattle.c_tree.specs.declared.expression.RightSide.TheVariants as right
use Rattle.c_tree.specs.declared.expression.Selector.{Selector}
use Rattle.c_tree.specs.declared.expression.Lvalue.{Lvalue}
use Rattle.c_tree.specs.declared.expression.Expression.{Expression}
use Rattle.c_tree.specs.declared.expression.Expression.TheOpen.{Expression-F, Selector-F, Lvalue-F}
use Rattle.c_tree.specs.declared.expression.Expression.TheOpen as e
use Rattle.c_tree.specs.declared.expression.Expression.TheFolds.{fold-Expression, fold-Selector, fold-Lvalue}
use Rattle.c_tree.specs.Types.{integer_text}
use Rattle.c_tree.specs.Operators.{binary_text}
use Rattle.c_tree.specs.Printing.{truth_text, with_commas}

-- the text of an expression, for where it stands
abbrev pub Text : Type 0
Text = Position → List ℕ

-- what stands round a binary operation
abbrev pub opening : Position → List ℕ
opening Whole = []
opening Operand = codes "("
opening BehindMinus = codes "("

abbrev pub closing : Position → List ℕ
closing Whole = []
closing Operand = codes ")"
closing BehindMinus = codes ")"

-- two minus signs side by side would be one token
abbrev pub unary_sign : UnaryOperator → Position → List ℕ
unary_sign Minus BehindMinus = codes " -"
unary_sign Minus position = codes "-"
unary_sign Not position = codes "!"
unary_sign Complement position = codes "~"

-- where the operand of an operator stands
abbrev pub position_behind : UnaryOperator → Position
position_behind Minus = BehindMinus
position_behind Not = Operand
position_behind Complement = Operand

abbrev pub base_text : Base → List ℕ
base_text (base.Variable x) = x.name.bytes
base_text (base.Pointed at x) = codes "(*" ++ x.name.bytes ++ codes ")"
base_text (base.Member x m) = x.name.bytes ++ codes "->" ++ m.name.bytes

abbrev pub expression_step : Expression-F Text (List ℕ) (List ℕ) → Text
expression_step (e.Number start l) position = l.numeral.bytes
expression_step (e.Truth start b) position = truth_text b
expression_step (e.Value start l) position = l
expression_step (e.Unary start operator at x) position = unary_sign operator position ++ x (position_behind operator)
expression_step (e.Cast start class at x) position = codes "(" ++ integer_text class ++ codes ")" ++ x Operand
expression_step (e.Binary start operator at l r) position =
    opening position ++ l Operand ++ codes " " ++ binary_text operator ++ codes " " ++ r Operand ++ closing position

abbrev pub selector_step : Selector-F Text (List ℕ) (List ℕ) → List ℕ
selector_step (e.Member x) = codes "." ++ x.name.bytes
selector_step (e.Index x) = codes "[" ++ x Whole ++ codes "]"

abbrev pub lvalue_step : Lvalue-F Text (List ℕ) (List ℕ) → List ℕ
lvalue_step l = base_text l.base ++ flat_map (λ t. t) l.parts

abbrev pub expression_text : Expression → Text
expression_text x = fold-Expression Text (List ℕ) (List ℕ) expression_step selector_step lvalue_step x

abbrev pub selector_text : Selector → List ℕ
selector_text x = fold-Selector Text (List ℕ) (List ℕ) expression_step selector_step lvalue_step x

abbrev pub lvalue_text : Lvalue → List ℕ
lvalue_text x = fold-Lvalue Text (List ℕ) (List ℕ) expression_step selector_step lvalue_step x

abbrev pub argument_text : Argument → List ℕ
argument_text (argument.Address at x) = codes "&" ++ x.name.bytes
argument_text (argument.Value x) = expression_text x Whole

abbrev pub call_text : Call → List ℕ
call_text c = c.name.name.bytes ++ codes "(" ++ with_commas (map argument_text c.arguments) ++ codes ")"

abbrev pub right_text : RightSide → List ℕ
right_text (right.Call c) = call_text c
right_text (right.Value x) = expression_text x Whole
