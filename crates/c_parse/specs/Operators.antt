-- The operators that tokens stand for, and what an expression may go on with.
use Rattle.std.specs.Prelude.{ℕ, ◌==◌, ◌||◌, nat_le, Bool, false, if◌then◌else◌, Option, Some, None, is_some}
use Rattle.hw_text.specs.Reading.{BeginsWithout}
use Rattle.hw_text.specs.declared.place.Place.{Place}
use Rattle.hw_text.specs.declared.placed.Placed.{Placed}
use Rattle.c_tree.specs.declared.operator.UnaryOperator.{UnaryOperator}
use Rattle.c_tree.specs.declared.operator.UnaryOperator.TheVariants as unary
use Rattle.c_tree.specs.declared.operator.BinaryOperator.{BinaryOperator}
use Rattle.c_tree.specs.declared.operator.BinaryOperator.TheVariants as binary
use Rattle.c_parse.specs.declared.mark.Mark.{Mark}
use Rattle.c_parse.specs.declared.mark.Mark.TheVariants as mark
use Rattle.c_parse.specs.declared.token.Token.{Token}
use Rattle.c_parse.specs.declared.token.Token.TheVariants as token
use Rattle.c_parse.specs.Levels.{binary_level, loosest_level}
use Rattle.c_parse.specs.Values.{Tokens, is_mark}

-- the operator that a token is before an operand, and where it stands
abbrev pub unary_in : Token → Place → Option (Place × UnaryOperator)
unary_in (token.Mark mark.Minus) at = Some (at, unary.Minus)
unary_in (token.Mark mark.Bang) at = Some (at, unary.Not)
unary_in (token.Mark mark.Tilde) at = Some (at, unary.Complement)
unary_in _ at = None

abbrev pub unary_of : Placed Token → Option (Place × UnaryOperator)
unary_of t = unary_in t.token t.place

abbrev pub is_unary : Placed Token → Bool
is_unary t = is_some (unary_of t)

abbrev pub binary_of_mark : Mark → Option BinaryOperator
binary_of_mark mark.Or = Some binary.Or
binary_of_mark mark.And = Some binary.And
binary_of_mark mark.Bar = Some binary.BitOr
binary_of_mark mark.Caret = Some binary.BitXor
binary_of_mark mark.Ampersand = Some binary.BitAnd
binary_of_mark mark.Equal = Some binary.Equal
binary_of_mark mark.NotEqual = Some binary.NotEqual
binary_of_mark mark.Less = Some binary.Less
binary_of_mark mark.LessOrEqual = Some binary.LessOrEqual
binary_of_mark mark.Greater = Some binary.Greater
binary_of_mark mark.GreaterOrEqual = Some binary.GreaterOrEqual
binary_of_mark mark.ShiftLeft = Some binary.ShiftLeft
binary_of_mark mark.ShiftRight = Some binary.ShiftRight
binary_of_mark mark.Plus = Some binary.Add
binary_of_mark mark.Minus = Some binary.Subtract
binary_of_mark mark.Star = Some binary.Multiply
binary_of_mark mark.Slash = Some binary.Divide
binary_of_mark mark.Percent = Some binary.Remainder
binary_of_mark _ = None

-- the operator that a token is between two operands
abbrev pub operator_in : Token → Option BinaryOperator
operator_in (token.Mark m) = binary_of_mark m
operator_in _ = None

abbrev pub of_level : ℕ → Place → Option BinaryOperator → Option (Place × BinaryOperator)
of_level n at None = None
of_level n at (Some operator) = if binary_level operator == n then Some (at, operator) else None

-- the operator of this level that a token is, and where it stands
abbrev pub binary_at : ℕ → Placed Token → Option (Place × BinaryOperator)
binary_at n t = of_level n t.place (operator_in t.token)

abbrev pub operates : ℕ → Placed Token → Bool
operates n t = is_some (binary_at n t)

abbrev pub at_least : ℕ → Option BinaryOperator → Bool
at_least n None = false
at_least n (Some operator) = nat_le n (binary_level operator)

-- what leads to a part of a value
abbrev pub is_part : Placed Token → Bool
is_part t = is_mark mark.Dot t || is_mark mark.OpenBracket t

-- what leads to a part, or from a pointer to a member
abbrev pub is_selector : Placed Token → Bool
is_selector t = is_part t || is_mark mark.Arrow t

-- a token with which an expression of this level may go on
abbrev pub goes_on : ℕ → Placed Token → Bool
goes_on n t = is_selector t || at_least n (operator_in t.token)

-- what stands behind an expression of this level
abbrev pub Ends : ℕ → Tokens → Type 0
Ends n = BeginsWithout (goes_on n)

-- a token with which what stands on the right may go on: an expression, or a name that is called
abbrev pub right_goes_on : Placed Token → Bool
right_goes_on t = is_mark mark.OpenParenthesis t || goes_on loosest_level t

-- what stands behind what stands on the right
abbrev pub RightEnds : Tokens → Type 0
RightEnds = BeginsWithout right_goes_on
