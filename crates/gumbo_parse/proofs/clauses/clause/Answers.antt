use Rattle.gumbo_parse.specs.declared.mark.Mark.TheVariants as mark
use Rattle.hw_reading.proofs.Choices.{nothing}
use Rattle.gumbo_parse.proofs.ClauseForms.{clause_opening, colon-follows, semicolon-ends}
use Rattle.hw_reading.proofs.Choices.{both}
use Rattle.gumbo_parse.proofs.PortForms.{a_sign, a_name}
use Rattle.gumbo_parse.proofs.Samples.{a_started}
use Rattle.hw_reading.proofs.Steps.{then, halt, next_before, halt_before, final, final_halt}
use Rattle.gumbo_parse.proofs.clauses.clause.Goals as goal

pub returns-in_err-kind : goal.returns-in_err-kind
returns-in_err-kind c =
    halt _ _ _ _ (clause_opening _) (both a_name (both nothing (both (a_sign mark.Colon) (both a_started (a_sign mark.Semicolon))))) c.from_residual.ensures.1 c.in_err-kind.ensures

pub returns-in_err-name : goal.returns-in_err-name
returns-in_err-name c =
    let one = then (clause_opening _) c.in_ok-kind.ensures in
    halt _ _ _ _ one (both nothing (both (a_sign mark.Colon) (both a_started (a_sign mark.Semicolon)))) c.from_residual-in_err-name.ensures.1 c.in_err-name.ensures

pub returns-in_err-description : goal.returns-in_err-description
returns-in_err-description c =
    let two = then (then (clause_opening _) c.in_ok-kind.ensures) c.in_ok-name.ensures in
    halt_before _ _ _ _ _ two colon-follows (both (a_sign mark.Colon) (both a_started (a_sign mark.Semicolon))) c.from_residual-in_err-description.ensures.1 c.in_err-description.ensures

pub returns-in_err-symbol : goal.returns-in_err-symbol
returns-in_err-symbol c =
    let three = next_before (then (then (clause_opening _) c.in_ok-kind.ensures) c.in_ok-name.ensures) colon-follows c.in_ok-description.ensures in
    halt _ _ _ _ three (both a_started (a_sign mark.Semicolon)) c.from_residual-in_err-symbol.ensures.1 c.in_err-symbol.ensures

pub returns-in_err-expression_place : goal.returns-in_err-expression_place
returns-in_err-expression_place c =
    let three = next_before (then (then (clause_opening _) c.in_ok-kind.ensures) c.in_ok-name.ensures) colon-follows c.in_ok-description.ensures in
    halt_before _ _ _ _ _ (then three c.in_ok-symbol.ensures) semicolon-ends (a_sign mark.Semicolon) c.from_residual-in_err-expression_place.ensures.1 c.in_err-expression_place.ensures

pub returns-in_err-symbol-2 : goal.returns-in_err-symbol-2
returns-in_err-symbol-2 c =
    let three = next_before (then (then (clause_opening _) c.in_ok-kind.ensures) c.in_ok-name.ensures) colon-follows c.in_ok-description.ensures in
    final_halt _ _ _ (next_before (then three c.in_ok-symbol.ensures) semicolon-ends c.in_ok-expression_place.ensures) c.from_residual-in_err-symbol-2.ensures.1 c.in_err-symbol-2.ensures

pub returns : goal.returns
returns c =
    let three = next_before (then (then (clause_opening _) c.in_ok-kind.ensures) c.in_ok-name.ensures) colon-follows c.in_ok-description.ensures in
    final (next_before (then three c.in_ok-symbol.ensures) semicolon-ends c.in_ok-expression_place.ensures) c.in_ok-symbol-2.ensures
