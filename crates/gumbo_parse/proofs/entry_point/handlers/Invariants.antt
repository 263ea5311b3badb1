use Rattle.std.proofs.Common.{◌∷◌, ◌++◌, length}
use Rattle.hw_text.specs.Language.{Each}
use Rattle.hw_text.specs.Reading.{Leaves}
use Rattle.hw_reading.specs.Shapes.{shapes_of}
use Rattle.gumbo_parse.specs.declared.shape.Shape.TheVariants as shape
use Rattle.gumbo_parse.specs.declared.word.Word.TheVariants as word
use Rattle.gumbo_parse.specs.Annex.{kinds, SpellsHandler}
use Rattle.gumbo_parse.specs.Values.{Without}
use Rattle.gumbo_parse.proofs.entry_point.handlers.Given as goal

abbrev pub invariant-handlers : goal.invariant-handlers
invariant-handlers l =
    Leaves (Each SpellsHandler) (Without (shape.Word word.Handle ∷ shapes_of kinds)) l.fn.tokens l.tokens (λ later. l.handlers ++ later) (Each SpellsHandler)

abbrev pub decreases-handlers : goal.decreases-handlers
decreases-handlers l = length l.tokens
