-- The operators of expressions (ISO/IEC 9899:2011, 6.5).
use Rattle.std.specs.Prelude.{ℕ, List, codes}
use Rattle.c_tree.specs.declared.operator.UnaryOperator.{UnaryOperator}
use Rattle.c_tree.specs.declared.operator.UnaryOperator.TheVariants.{Minus, Not, Complement}
use Rattle.c_tree.specs.declared.operator.BinaryOperator.{BinaryOperator}
use Rattle.c_tree.specs.declared.operator.BinaryOperator.TheVariants.{Or, And, BitOr, BitXor, BitAnd, Equal, NotEqual, Less, LessOrEqual, Greater, GreaterOrEqual, ShiftLeft, ShiftRight, Add, Subtract, Multiply, Divide, Remainder}

abbrev pub unary_text : UnaryOperator → List ℕ
unary_text Minus = codes "-"
unary_text Not = codes "!"
unary_text Complement = codes "~"

abbrev pub binary_text : BinaryOperator → List ℕ
binary_text Or = codes "||"
binary_text And = codes "&&"
binary_text BitOr = codes "|"
binary_text BitXor = codes "^"
binary_text BitAnd = codes "&"
binary_text Equal = codes "=="
binary_text NotEqual = codes "!="
binary_text Less = codes "<"
binary_text LessOrEqual = codes "<="
binary_text Greater = codes ">"
binary_text GreaterOrEqual = codes ">="
binary_text ShiftLeft = codes "<<"
binary_text ShiftRight = codes ">>"
binary_text Add = codes "+"
binary_text Subtract = codes "-"
binary_text Multiply = codes "*"
binary_text Divide = codes "/"
binary_text Remainder = codes "%"
