use Rattle.gumbo_parse.specs.declared.mark.Mark.TheVariants as mark
use Rattle.hw_reading.proofs.Steps.{then, halt, final, final_halt}
use Rattle.hw_reading.proofs.Choices.{both}
use Rattle.gumbo_parse.proofs.PortForms.{a_sign, a_name, port_opening}
use Rattle.gumbo_parse.proofs.ports.port.Goals as goal

pub returns-in_err-symbol : goal.returns-in_err-symbol
returns-in_err-symbol c = halt _ _ _ _ (port_opening _) (both a_name (a_sign mark.CloseParenthesis)) c.from_residual.ensures.1 c.in_err-symbol.ensures

pub returns-in_err-name : goal.returns-in_err-name
returns-in_err-name c = halt _ _ _ _ (then (port_opening _) c.in_ok-symbol.ensures) (a_sign mark.CloseParenthesis) c.from_residual-in_err-name.ensures.1 c.in_err-name.ensures

pub returns-in_err-symbol-2 : goal.returns-in_err-symbol-2
returns-in_err-symbol-2 c = final_halt _ _ _ (then (then (port_opening _) c.in_ok-symbol.ensures) c.in_ok-name.ensures) c.from_residual-in_err-symbol-2.ensures.1 c.in_err-symbol-2.ensures

pub returns : goal.returns
returns c = final (then (then (port_opening _) c.in_ok-symbol.ensures) c.in_ok-name.ensures) c.in_ok-symbol-2.ensures
