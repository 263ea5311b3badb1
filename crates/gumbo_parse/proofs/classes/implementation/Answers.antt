use Rattle.std.proofs.Common.{sym, ◌∙◌, [], ◌∷◌}
use Rattle.gumbo_parse.specs.Values.{one_of}
use Rattle.gumbo_parse.specs.declared.shape.Shape.TheVariants as shape
use Rattle.gumbo_parse.specs.declared.mark.Mark.TheVariants as mark
use Rattle.gumbo_parse.specs.Classes.{SpellsImplementation}
use Rattle.hw_reading.proofs.Choices.{absent, present}
use Rattle.gumbo_parse.proofs.ClassForms.{dotted-begins}
use Rattle.hw_reading.proofs.Steps.{final, final_halt}
use Rattle.gumbo_parse.proofs.classes.implementation.Goals as goal

pub returns-then-not-stands : goal.returns-then-not-stands
returns-then-not-stands c = absent SpellsImplementation _ (one_of (shape.Mark mark.Dot ∷ [])) dotted-begins (sym c.stands.ensures ∙ c.if-not-stands.true)

pub returns-in_err-name : goal.returns-in_err-name
returns-in_err-name c =
    final_halt _ _ _ (present SpellsImplementation _ (one_of (shape.Mark mark.Dot ∷ [])) (sym c.stands.ensures ∙ c.if-not-stands.false) (λ m ends. ends)) c.from_residual.ensures.1
    c.in_err-name.ensures

pub returns : goal.returns
returns c = final (present SpellsImplementation _ (one_of (shape.Mark mark.Dot ∷ [])) (sym c.stands.ensures ∙ c.if-not-stands.false) (λ m ends. ends)) c.in_ok-name.ensures
