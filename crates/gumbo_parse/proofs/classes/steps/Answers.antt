use Rattle.std.proofs.Common.{◌∙◌, sym, ap, ℕ, List, [], ◌∷◌, ◌++◌, append-nil, append_assoc}
use Rattle.hw_text.specs.Language.{Each}
use Rattle.hw_text.proofs.Reading.{rebuilt}
use Rattle.gumbo_parse.specs.declared.shape.Shape.TheVariants as shape
use Rattle.gumbo_parse.specs.declared.mark.Mark.TheVariants as mark
use Rattle.gumbo_parse.specs.Classes.{SpellsStep}
use Rattle.gumbo_parse.specs.Values.{one_of, Without}
use Rattle.hw_reading.proofs.Choices.{no_member, a_member, no_members, read-shorter}
use Rattle.gumbo_parse.proofs.ClassForms.{step-begins, steps_opening}
use Rattle.hw_reading.proofs.Steps.{then, halt}
use Rattle.gumbo_parse.proofs.classes.steps.Goals as goal

pub names-init : goal.names-init
names-init c = steps_opening _ c.new-names.ensures _

pub returns-in_err-name : goal.returns-in_err-name
returns-in_err-name c =
    halt _ _ _ _ (a_member (one_of (shape.Mark mark.DoubleColon ∷ [])) (sym c.stands.ensures ∙ c.names-test.true) (λ m ends. ends) c.names.invariant) no_members c.from_residual.ensures.1 c.in_err-name.ensures

pub names-smaller : goal.names-smaller
names-smaller c = read-shorter (one_of (shape.Mark mark.DoubleColon ∷ [])) step-begins c.in_ok-name.ensures

pub names-preserved : goal.names-preserved
names-preserved c =
    rebuilt (Each SpellsStep) (Without (shape.Mark mark.DoubleColon ∷ [])) _ _ _ _ (Each SpellsStep)
    (λ later. sym (append_assoc c.names.names (c.in_ok-name.name ∷ []) later) ∙ ap (λ (l : List (List ℕ)). l ++ later) (sym c.in_ok-push.ensures.ok))
    (then (a_member (one_of (shape.Mark mark.DoubleColon ∷ [])) (sym c.stands.ensures ∙ c.names-test.true) (λ m ends. ends) c.names.invariant) c.in_ok-name.ensures)

pub returns : goal.returns
returns c = rw (append-nil c.names.names) at (no_member (one_of (shape.Mark mark.DoubleColon ∷ [])) step-begins (sym c.stands.ensures ∙ c.names-test.false) c.names.invariant)
