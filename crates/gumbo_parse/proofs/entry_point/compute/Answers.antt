use Rattle.std.proofs.Common.{sym, ◌∙◌, [], ◌∷◌}
use Rattle.gumbo_parse.specs.Values.{one_of}
use Rattle.gumbo_parse.specs.declared.shape.Shape.TheVariants as shape
use Rattle.gumbo_parse.specs.declared.word.Word.TheVariants as word
use Rattle.gumbo_parse.specs.Annex.{SpellsCompute}
use Rattle.hw_reading.proofs.Choices.{absent, present}
use Rattle.gumbo_parse.proofs.SectionForms.{compute-begins, end-without}
use Rattle.hw_reading.proofs.Steps.{final_before, final_halt_before}
use Rattle.gumbo_parse.proofs.entry_point.compute.Goals as goal

pub returns-then-not-stands : goal.returns-then-not-stands
returns-then-not-stands c = absent SpellsCompute _ (one_of (shape.Word word.Compute ∷ [])) compute-begins (sym c.stands.ensures ∙ c.if-not-stands.true)

pub returns-in_err-compute : goal.returns-in_err-compute
returns-in_err-compute c =
    final_halt_before _ _ _ _ (present SpellsCompute _ (one_of (shape.Word word.Compute ∷ [])) (sym c.stands.ensures ∙ c.if-not-stands.false) (end-without (shape.Word word.Compute ∷ [])))
    (λ m ends. ends) c.from_residual.ensures.1 c.in_err-compute.ensures

pub returns : goal.returns
returns c =
    final_before (present SpellsCompute _ (one_of (shape.Word word.Compute ∷ [])) (sym c.stands.ensures ∙ c.if-not-stands.false) (end-without (shape.Word word.Compute ∷ [])))
    (λ m ends. ends) c.in_ok-compute.ensures
