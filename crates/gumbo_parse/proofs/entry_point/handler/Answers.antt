use Rattle.gumbo_parse.specs.declared.mark.Mark.TheVariants as mark
use Rattle.hw_reading.proofs.Choices.{no_members}
use Rattle.gumbo_parse.proofs.ClauseForms.{a_clause}
use Rattle.hw_reading.proofs.Choices.{both}
use Rattle.gumbo_parse.proofs.PortForms.{a_sign, a_name}
use Rattle.gumbo_parse.proofs.SectionForms.{handler_opening}
use Rattle.hw_reading.proofs.Steps.{then, halt, final_before, final_halt_before}
use Rattle.gumbo_parse.proofs.entry_point.handler.Goals as goal

pub returns-in_err-symbol : goal.returns-in_err-symbol
returns-in_err-symbol c = halt _ _ _ _ (handler_opening _) (both a_name (both (a_sign mark.Colon) (both a_clause no_members))) c.from_residual.ensures.1 c.in_err-symbol.ensures

pub returns-in_err-port : goal.returns-in_err-port
returns-in_err-port c = halt _ _ _ _ (then (handler_opening _) c.in_ok-symbol.ensures) (both (a_sign mark.Colon) (both a_clause no_members)) c.from_residual-in_err-port.ensures.1 c.in_err-port.ensures

pub returns-in_err-symbol-2 : goal.returns-in_err-symbol-2
returns-in_err-symbol-2 c =
    halt _ _ _ _ (then (then (handler_opening _) c.in_ok-symbol.ensures) c.in_ok-port.ensures) (both a_clause no_members) c.from_residual-in_err-symbol-2.ensures.1 c.in_err-symbol-2.ensures

pub returns-in_err-first : goal.returns-in_err-first
returns-in_err-first c =
    halt _ _ _ _ (then (then (then (handler_opening _) c.in_ok-symbol.ensures) c.in_ok-port.ensures) c.in_ok-symbol-2.ensures) no_members c.from_residual-in_err-first.ensures.1 c.in_err-first.ensures

pub returns-in_err-others : goal.returns-in_err-others
returns-in_err-others c =
    let four = then (then (then (then (handler_opening _) c.in_ok-symbol.ensures) c.in_ok-port.ensures) c.in_ok-symbol-2.ensures) c.in_ok-first.ensures in
    final_halt_before _ _ _ _ four (λ m ends. ends) c.from_residual-in_err-others.ensures.1 c.in_err-others.ensures

pub returns : goal.returns
returns c =
    let four = then (then (then (then (handler_opening _) c.in_ok-symbol.ensures) c.in_ok-port.ensures) c.in_ok-symbol-2.ensures) c.in_ok-first.ensures in
    final_before four (λ m ends. ends) c.in_ok-others.ensures
