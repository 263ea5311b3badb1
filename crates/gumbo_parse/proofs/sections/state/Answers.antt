use Rattle.std.proofs.Common.{sym, ◌∙◌, [], ◌∷◌}
use Rattle.gumbo_parse.specs.declared.shape.Shape.TheVariants as shape
use Rattle.gumbo_parse.specs.declared.word.Word.TheVariants as word
use Rattle.gumbo_parse.specs.Classes.{SpellsVariable}
use Rattle.gumbo_parse.specs.Grammar.{Keyword}
use Rattle.gumbo_parse.specs.Values.{one_of, name_shapes}
use Rattle.gumbo_parse.proofs.BoundForms.{keyword-begins}
use Rattle.hw_reading.proofs.Choices.{no_option, an_option}
use Rattle.gumbo_parse.proofs.SectionForms.{section_opening, section-begins}
use Rattle.gumbo_parse.proofs.SectionSamples.{some_variable}
use Rattle.gumbo_parse.proofs.Shapes.{without-left, without-right}
use Rattle.hw_reading.proofs.Steps.{then, halt, final_before, final_halt_before}
use Rattle.gumbo_parse.proofs.sections.state.Goals as goal

pub returns-then-not-stands : goal.returns-then-not-stands
returns-then-not-stands c =
    rw c.new.ensures (no_option (one_of (shape.Word word.State ∷ [])) (section-begins (Keyword word.State) SpellsVariable (shape.Word word.State ∷ []) (keyword-begins word.State)) (sym c.stands.ensures ∙ c.if-not-stands.true) (section_opening (Keyword word.State) SpellsVariable _ _))

pub returns-in_err-symbol : goal.returns-in_err-symbol
returns-in_err-symbol c =
    let there = an_option (one_of (shape.Word word.State ∷ [])) (sym c.stands.ensures ∙ c.if-not-stands.false) (λ m ends. without-left (shape.Word word.State ∷ []) name_shapes m ends) (section_opening (Keyword word.State) SpellsVariable _ _) in
    halt _ _ _ _ there some_variable c.from_residual.ensures.1 c.in_err-symbol.ensures

pub returns-in_err-variables : goal.returns-in_err-variables
returns-in_err-variables c =
    let there = an_option (one_of (shape.Word word.State ∷ [])) (sym c.stands.ensures ∙ c.if-not-stands.false) (λ m ends. without-left (shape.Word word.State ∷ []) name_shapes m ends) (section_opening (Keyword word.State) SpellsVariable _ _) in
    final_halt_before _ _ _ _ (then there c.in_ok-symbol.ensures) (λ m ends. without-right (shape.Word word.State ∷ []) name_shapes m ends) c.from_residual-in_err-variables.ensures.1 c.in_err-variables.ensures

pub returns : goal.returns
returns c =
    let there = an_option (one_of (shape.Word word.State ∷ [])) (sym c.stands.ensures ∙ c.if-not-stands.false) (λ m ends. without-left (shape.Word word.State ∷ []) name_shapes m ends) (section_opening (Keyword word.State) SpellsVariable _ _) in
    final_before (then there c.in_ok-symbol.ensures) (λ m ends. without-right (shape.Word word.State ∷ []) name_shapes m ends) c.in_ok-variables.ensures
