use Rattle.std.proofs.Common.{sym, ◌∙◌, [], ◌∷◌}
use Rattle.gumbo_parse.specs.Values.{one_of}
use Rattle.gumbo_parse.specs.declared.shape.Shape.TheVariants as shape
use Rattle.gumbo_parse.specs.declared.mark.Mark.TheVariants as mark
use Rattle.gumbo_parse.specs.Grammar.{Sign}
use Rattle.gumbo_parse.proofs.BoundForms.{sign-begins}
use Rattle.hw_reading.proofs.Choices.{absent, present}
use Rattle.hw_reading.proofs.Steps.{final, final_halt}
use Rattle.gumbo_parse.proofs.bounds.minus.Goals as goal

pub returns-then-not-stands : goal.returns-then-not-stands
returns-then-not-stands c = absent (Sign mark.Minus) _ (one_of (shape.Mark mark.Minus ∷ [])) (sign-begins mark.Minus) (sym c.stands.ensures ∙ c.if-not-stands.true)

pub returns-in_err-place : goal.returns-in_err-place
returns-in_err-place c =
    final_halt _ _ _ (present (Sign mark.Minus) _ (one_of (shape.Mark mark.Minus ∷ [])) (sym c.stands.ensures ∙ c.if-not-stands.false) (λ m follows. follows)) c.from_residual.ensures.1
    c.in_err-place.ensures

pub returns : goal.returns
returns c = final (present (Sign mark.Minus) _ (one_of (shape.Mark mark.Minus ∷ [])) (sym c.stands.ensures ∙ c.if-not-stands.false) (λ m follows. follows)) c.in_ok-place.ensures
