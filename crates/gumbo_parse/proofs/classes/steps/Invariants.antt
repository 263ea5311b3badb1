use Rattle.std.proofs.Common.{[], ◌∷◌, ◌++◌, length}
use Rattle.hw_text.specs.Language.{Each}
use Rattle.hw_text.specs.Reading.{Leaves}
use Rattle.gumbo_parse.specs.declared.shape.Shape.TheVariants as shape
use Rattle.gumbo_parse.specs.declared.mark.Mark.TheVariants as mark
use Rattle.gumbo_parse.specs.Classes.{SpellsStep}
use Rattle.gumbo_parse.specs.Values.{Without}
use Rattle.gumbo_parse.proofs.classes.steps.Given as goal

abbrev pub invariant-names : goal.invariant-names
invariant-names l = Leaves (Each SpellsStep) (Without (shape.Mark mark.DoubleColon ∷ [])) l.fn.tokens l.tokens (λ later. l.names ++ later) (Each SpellsStep)

abbrev pub decreases-names : goal.decreases-names
decreases-names l = length l.tokens
