use Rattle.std.proofs.Common.{◌++◌, length}
use Rattle.hw_text.specs.Language.{Each}
use Rattle.hw_text.specs.Reading.{Leaves}
use Rattle.c_parse.specs.CallGrammar.{BehindComma, Separated, SpellsArgument}
use Rattle.c_parse.proofs.CallTexts.{Closes}
use Rattle.c_parse.proofs.calls.arguments.Given as goal

abbrev pub invariant-arguments : goal.invariant-arguments
invariant-arguments l = Leaves (Separated (SpellsArgument l.fn.dialect)) Closes l.fn.tokens l.tokens (λ later. l.read ++ later) (Each (BehindComma (SpellsArgument l.fn.dialect)))

abbrev pub decreases-arguments : goal.decreases-arguments
decreases-arguments l = length l.tokens
