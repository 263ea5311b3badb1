-- The operators of expressions, as they are printed (this project's own; docs/formats/contracts.md).
use Rattle.std.specs.Prelude.{ℕ, List, codes}
use Rattle.gumbo_parse.specs.declared.operator.BinaryOperator.{BinaryOperator}
use Rattle.gumbo_parse.specs.declared.operator.BinaryOperator.TheVariants.{Implies, Or, And, Equal, NotEqual, Less, LessOrEqual, Greater, GreaterOrEqual, Add, Subtract, Multiply, Divide, Remainder}
use Rattle.gumbo_parse.specs.declared.operator.Quantifier.{Quantifier}
use Rattle.gumbo_parse.specs.declared.operator.Quantifier.TheVariants.{ForAll, Exists}
use Rattle.gumbo_parse.specs.declared.operator.PortTest.{PortTest}
use Rattle.gumbo_parse.specs.declared.operator.PortTest.TheVariants as test
use Rattle.gumbo_parse.specs.declared.word.Word.{Word}
use Rattle.gumbo_parse.specs.declared.word.Word.TheVariants as word

-- as it is printed: a word where there is one
abbrev pub binary_text : BinaryOperator → List ℕ
binary_text Implies = codes "implies"
binary_text Or = codes "or"
binary_text And = codes "and"
binary_text Equal = codes "=="
binary_text NotEqual = codes "!="
binary_text Less = codes "<"
binary_text LessOrEqual = codes "<="
binary_text Greater = codes ">"
binary_text GreaterOrEqual = codes ">="
binary_text Add = codes "+"
binary_text Subtract = codes "-"
binary_text Multiply = codes "*"
binary_text Divide = codes "/"
binary_text Remainder = codes "%"

abbrev pub quantifier_word : Quantifier → Word
quantifier_word ForAll = word.ForAll
quantifier_word Exists = word.Exists

abbrev pub test_word : PortTest → Word
test_word test.HasEvent = word.HasEvent
test_word test.NoSend = word.NoSend
test_word test.MustSend = word.MustSend
