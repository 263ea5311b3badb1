use Rattle.hw_text.specs.Language.{One}
use Rattle.gumbo_parse.specs.declared.word.Word.TheVariants as word
use Rattle.gumbo_parse.specs.Annex.{initial, SpellsClause}
use Rattle.gumbo_parse.specs.Grammar.{Keyword}
use Rattle.gumbo_parse.specs.Values.{one_listed}
use Rattle.hw_reading.proofs.Choices.{nothing}
use Rattle.hw_reading.proofs.Choices.{both}
use Rattle.gumbo_parse.proofs.SectionForms.{contract_opening, no_section, state-follows, integration-follows, initialize-follows}
use Rattle.hw_reading.proofs.Steps.{next_before, halt_before, final_before, final_halt_before}
use Rattle.gumbo_parse.proofs.sections.contract.Goals as goal

pub returns-in_err-state : goal.returns-in_err-state
returns-in_err-state c =
    halt_before _ _ _ _ _ (contract_opening _) state-follows (both (no_section (Keyword word.Integration) SpellsClause) (both (no_section (One (one_listed initial)) SpellsClause) nothing))
    c.from_residual.ensures.1 c.in_err-state.ensures

pub returns-in_err-integration : goal.returns-in_err-integration
returns-in_err-integration c =
    halt_before _ _ _ _ _ (next_before (contract_opening _) state-follows c.in_ok-state.ensures) integration-follows (both (no_section (One (one_listed initial)) SpellsClause) nothing)
    c.from_residual-in_err-integration.ensures.1 c.in_err-integration.ensures

pub returns-in_err-initialize : goal.returns-in_err-initialize
returns-in_err-initialize c =
    halt_before _ _ _ _ _ (next_before (next_before (contract_opening _) state-follows c.in_ok-state.ensures) integration-follows c.in_ok-integration.ensures) initialize-follows nothing
    c.from_residual-in_err-initialize.ensures.1 c.in_err-initialize.ensures

pub returns-in_err-compute : goal.returns-in_err-compute
returns-in_err-compute c =
    final_halt_before _ _ _ _
    (next_before (next_before (next_before (contract_opening _) state-follows c.in_ok-state.ensures) integration-follows c.in_ok-integration.ensures) initialize-follows c.in_ok-initialize.ensures)
    (λ m ends. ends) c.from_residual-in_err-compute.ensures.1 c.in_err-compute.ensures

pub returns : goal.returns
returns c =
    final_before
    (next_before (next_before (next_before (contract_opening _) state-follows c.in_ok-state.ensures) integration-follows c.in_ok-integration.ensures) initialize-follows c.in_ok-initialize.ensures)
    (λ m ends. ends) c.in_ok-compute.ensures
