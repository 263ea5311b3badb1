-- How tightly the operators of expressions bind (ISO/IEC 9899:2011, 6.5.3 to 6.5.14).
use Rattle.std.specs.Prelude.{ℕ}
use Rattle.c_tree.specs.declared.operator.BinaryOperator.{BinaryOperator}
use Rattle.c_tree.specs.declared.operator.BinaryOperator.TheVariants.{Or, And, BitOr, BitXor, BitAnd, Equal, NotEqual, Less, LessOrEqual, Greater, GreaterOrEqual, ShiftLeft, ShiftRight, Add, Subtract, Multiply, Divide, Remainder}

-- the level of an operator with two operands, from the loosest; operators of one level group to the left
abbrev pub binary_level : BinaryOperator → ℕ
binary_level Or = 1
binary_level And = 2
binary_level BitOr = 3
binary_level BitXor = 4
binary_level BitAnd = 5
binary_level Equal = 6
binary_level NotEqual = 6
binary_level Less = 7
binary_level LessOrEqual = 7
binary_level Greater = 7
binary_level GreaterOrEqual = 7
binary_level ShiftLeft = 8
binary_level ShiftRight = 8
binary_level Add = 9
binary_level Subtract = 9
binary_level Multiply = 10
binary_level Divide = 10
binary_level Remainder = 10

-- that of prefix operators and casts
abbrev pub prefix_level : ℕ
prefix_level = 11

-- that of a whole expression
abbrev pub loosest_level : ℕ
loosest_level = 1
