use Rattle.std.proofs.Common.{sym, ◌∙◌, [], ◌∷◌}
use Rattle.hw_text.specs.Language.{One}
use Rattle.gumbo_parse.specs.declared.shape.Shape.TheVariants as shape
use Rattle.gumbo_parse.specs.Values.{one_of, text_of}
use Rattle.hw_reading.proofs.Choices.{absent, present}
use Rattle.gumbo_parse.proofs.ClauseForms.{text-begins}
use Rattle.hw_reading.proofs.Steps.{final, final_halt}
use Rattle.gumbo_parse.proofs.clauses.description.Goals as goal

pub returns-then-not-stands : goal.returns-then-not-stands
returns-then-not-stands c = absent (One text_of) _ (one_of (shape.Text ∷ [])) text-begins (sym c.stands.ensures ∙ c.if-not-stands.true)

pub returns-in_err-text : goal.returns-in_err-text
returns-in_err-text c =
    final_halt _ _ _ (present (One text_of) _ (one_of (shape.Text ∷ [])) (sym c.stands.ensures ∙ c.if-not-stands.false) (λ m ends. ends)) c.from_residual.ensures.1 c.in_err-text.ensures

pub returns : goal.returns
returns c = final (present (One text_of) _ (one_of (shape.Text ∷ [])) (sym c.stands.ensures ∙ c.if-not-stands.false) (λ m ends. ends)) c.in_ok-text.ensures
