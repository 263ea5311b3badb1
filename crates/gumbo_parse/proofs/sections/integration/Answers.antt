use Rattle.std.proofs.Common.{sym, ◌∙◌, [], ◌∷◌}
use Rattle.hw_reading.specs.Shapes.{shapes_of}
use Rattle.gumbo_parse.specs.Values.{one_of}
use Rattle.gumbo_parse.specs.declared.shape.Shape.TheVariants as shape
use Rattle.gumbo_parse.specs.declared.word.Word.TheVariants as word
use Rattle.gumbo_parse.specs.Annex.{kinds, SpellsClause}
use Rattle.gumbo_parse.specs.Grammar.{Keyword}
use Rattle.gumbo_parse.proofs.BoundForms.{keyword-begins}
use Rattle.hw_reading.proofs.Choices.{no_option, an_option}
use Rattle.gumbo_parse.proofs.SectionForms.{section_opening, section-begins}
use Rattle.gumbo_parse.proofs.SectionSamples.{some_clause}
use Rattle.gumbo_parse.proofs.Shapes.{without-left, without-right}
use Rattle.hw_reading.proofs.Steps.{then, halt, final_before, final_halt_before}
use Rattle.gumbo_parse.proofs.sections.integration.Goals as goal

pub returns-then-not-stands : goal.returns-then-not-stands
returns-then-not-stands c =
    rw c.new.ensures (no_option (one_of (shape.Word word.Integration ∷ [])) (section-begins (Keyword word.Integration) SpellsClause (shape.Word word.Integration ∷ []) (keyword-begins word.Integration)) (sym c.stands.ensures ∙ c.if-not-stands.true) (section_opening (Keyword word.Integration) SpellsClause _ _))

pub returns-in_err-symbol : goal.returns-in_err-symbol
returns-in_err-symbol c =
    let there = an_option (one_of (shape.Word word.Integration ∷ [])) (sym c.stands.ensures ∙ c.if-not-stands.false) (λ m ends. without-left (shape.Word word.Integration ∷ []) (shapes_of kinds) m ends) (section_opening (Keyword word.Integration) SpellsClause _ _) in
    halt _ _ _ _ there some_clause c.from_residual.ensures.1 c.in_err-symbol.ensures

pub returns-in_err-clauses : goal.returns-in_err-clauses
returns-in_err-clauses c =
    let there = an_option (one_of (shape.Word word.Integration ∷ [])) (sym c.stands.ensures ∙ c.if-not-stands.false) (λ m ends. without-left (shape.Word word.Integration ∷ []) (shapes_of kinds) m ends) (section_opening (Keyword word.Integration) SpellsClause _ _) in
    final_halt_before _ _ _ _ (then there c.in_ok-symbol.ensures) (λ m ends. without-right (shape.Word word.Integration ∷ []) (shapes_of kinds) m ends) c.from_residual-in_err-clauses.ensures.1 c.in_err-clauses.ensures

pub returns : goal.returns
returns c =
    let there = an_option (one_of (shape.Word word.Integration ∷ [])) (sym c.stands.ensures ∙ c.if-not-stands.false) (λ m ends. without-left (shape.Word word.Integration ∷ []) (shapes_of kinds) m ends) (section_opening (Keyword word.Integration) SpellsClause _ _) in
    final_before (then there c.in_ok-symbol.ensures) (λ m ends. without-right (shape.Word word.Integration ∷ []) (shapes_of kinds) m ends) c.in_ok-clauses.ensures
