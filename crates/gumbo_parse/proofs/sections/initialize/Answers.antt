use Rattle.std.proofs.Common.{sym, ◌∙◌}
use Rattle.hw_text.specs.Language.{One}
use Rattle.hw_reading.specs.Shapes.{shapes_of}
use Rattle.gumbo_parse.specs.Annex.{kinds, initial, SpellsClause}
use Rattle.gumbo_parse.specs.Values.{one_of, one_listed}
use Rattle.gumbo_parse.proofs.BoundForms.{listed-begins}
use Rattle.hw_reading.proofs.Choices.{no_option, an_option}
use Rattle.gumbo_parse.proofs.SectionForms.{section_opening, section-begins}
use Rattle.gumbo_parse.proofs.SectionSamples.{some_clause}
use Rattle.gumbo_parse.proofs.Shapes.{without-left, without-right}
use Rattle.hw_reading.proofs.Steps.{then, halt, final_before, final_halt_before}
use Rattle.gumbo_parse.proofs.sections.initialize.Goals as goal

pub returns-then-not-stands_listed : goal.returns-then-not-stands_listed
returns-then-not-stands_listed c =
    rw c.new.ensures (no_option (one_of (shapes_of initial)) (section-begins (One (one_listed initial)) SpellsClause (shapes_of initial) (listed-begins initial)) (sym c.stands_listed.ensures ∙ c.if-not-stands_listed.true) (section_opening (One (one_listed initial)) SpellsClause _ _))

pub returns-in_err-read_listed : goal.returns-in_err-read_listed
returns-in_err-read_listed c =
    let there = an_option (one_of (shapes_of initial)) (sym c.stands_listed.ensures ∙ c.if-not-stands_listed.false) (λ m ends. without-left (shapes_of initial) (shapes_of kinds) m ends) (section_opening (One (one_listed initial)) SpellsClause _ _) in
    halt _ _ _ _ there some_clause c.from_residual.ensures.1 c.in_err-read_listed.ensures

pub returns-in_err-clauses : goal.returns-in_err-clauses
returns-in_err-clauses c =
    let there = an_option (one_of (shapes_of initial)) (sym c.stands_listed.ensures ∙ c.if-not-stands_listed.false) (λ m ends. without-left (shapes_of initial) (shapes_of kinds) m ends) (section_opening (One (one_listed initial)) SpellsClause _ _) in
    final_halt_before _ _ _ _ (then there c.in_ok-read_listed.ensures) (λ m ends. without-right (shapes_of initial) (shapes_of kinds) m ends) c.from_residual-in_err-clauses.ensures.1 c.in_err-clauses.ensures

pub returns : goal.returns
returns c =
    let there = an_option (one_of (shapes_of initial)) (sym c.stands_listed.ensures ∙ c.if-not-stands_listed.false) (λ m ends. without-left (shapes_of initial) (shapes_of kinds) m ends) (section_opening (One (one_listed initial)) SpellsClause _ _) in
    final_before (then there c.in_ok-read_listed.ensures) (λ m ends. without-right (shapes_of initial) (shapes_of kinds) m ends) c.in_ok-clauses.ensures
