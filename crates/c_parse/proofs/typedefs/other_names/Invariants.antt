use Rattle.std.proofs.Common.{◌++◌, length}
use Rattle.hw_text.specs.Language.{Each}
use Rattle.hw_text.specs.Reading.{BeginsWithout, Leaves}
use Rattle.c_parse.specs.declared.mark.Mark.TheVariants as mark
use Rattle.c_parse.specs.Values.{is_mark}
use Rattle.c_parse.specs.ExpressionGrammar.{Name}
use Rattle.c_parse.specs.CallGrammar.{BehindComma}
use Rattle.c_parse.proofs.typedefs.other_names.Given as goal

abbrev pub invariant-names : goal.invariant-names
invariant-names l = Leaves (Each (BehindComma Name)) (BeginsWithout (is_mark mark.Comma)) l.fn.tokens l.tokens (λ later. l.names ++ later) (Each (BehindComma Name))

abbrev pub decreases-names : goal.decreases-names
decreases-names l = length l.tokens
