use Rattle.std.proofs.Common.{◌∷◌}
use Rattle.hw_reading.specs.Shapes.{shapes_of}
use Rattle.gumbo_parse.specs.declared.shape.Shape.TheVariants as shape
use Rattle.gumbo_parse.specs.declared.word.Word.TheVariants as word
use Rattle.gumbo_parse.specs.Annex.{kinds}
use Rattle.hw_reading.proofs.Choices.{no_members}
use Rattle.hw_reading.proofs.Choices.{both}
use Rattle.gumbo_parse.proofs.SectionForms.{entry_opening, handlers-follow, end-without}
use Rattle.hw_reading.proofs.Steps.{then, halt, next_before, halt_before, final_before, final_halt_before}
use Rattle.gumbo_parse.proofs.entry_point.entry.Goals as goal

pub returns-in_err-symbol : goal.returns-in_err-symbol
returns-in_err-symbol c = halt _ _ _ _ (entry_opening _) (both no_members no_members) c.from_residual.ensures.1 c.in_err-symbol.ensures

pub returns-in_err-clauses : goal.returns-in_err-clauses
returns-in_err-clauses c = halt_before _ _ _ _ _ (then (entry_opening _) c.in_ok-symbol.ensures) handlers-follow no_members c.from_residual-in_err-clauses.ensures.1 c.in_err-clauses.ensures

pub returns-in_err-handlers : goal.returns-in_err-handlers
returns-in_err-handlers c =
    final_halt_before _ _ _ _ (next_before (then (entry_opening _) c.in_ok-symbol.ensures) handlers-follow c.in_ok-clauses.ensures) (end-without (shape.Word word.Handle ∷ shapes_of kinds))
    c.from_residual-in_err-handlers.ensures.1 c.in_err-handlers.ensures

pub returns : goal.returns
returns c =
    final_before (next_before (then (entry_opening _) c.in_ok-symbol.ensures) handlers-follow c.in_ok-clauses.ensures) (end-without (shape.Word word.Handle ∷ shapes_of kinds)) c.in_ok-handlers.ensures
