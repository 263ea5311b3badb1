use Rattle.std.proofs.Common.{◌++◌, length}
use Rattle.hw_text.specs.Language.{Each}
use Rattle.hw_text.specs.Reading.{BeginsWithout, Leaves}
use Rattle.c_parse.specs.declared.mark.Mark.TheVariants as mark
use Rattle.c_parse.specs.Values.{is_mark}
use Rattle.c_parse.specs.CallGrammar.{BehindComma, Following}
use Rattle.c_parse.specs.UnitGrammar.{SpellsParameter}
use Rattle.c_parse.proofs.parameter_list.more_parameters.Given as goal

abbrev pub invariant-parameters : goal.invariant-parameters
invariant-parameters l = Leaves (Following l.fn.first (BehindComma (SpellsParameter l.fn.dialect))) (BeginsWithout (is_mark mark.Comma)) l.fn.tokens l.tokens
    (λ later. l.parameters ++ later) (Each (BehindComma (SpellsParameter l.fn.dialect)))

abbrev pub decreases-parameters : goal.decreases-parameters
decreases-parameters l = length l.tokens
