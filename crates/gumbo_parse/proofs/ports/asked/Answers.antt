use Rattle.gumbo_parse.specs.declared.mark.Mark.TheVariants as mark
use Rattle.hw_reading.proofs.Steps.{then, halt, final, final_halt}
use Rattle.hw_reading.proofs.Choices.{both}
use Rattle.gumbo_parse.proofs.PortForms.{a_sign, a_name, asked_opening}
use Rattle.gumbo_parse.proofs.ports.asked.Goals as goal

pub returns-in_err-place : goal.returns-in_err-place
returns-in_err-place c = halt _ _ _ _ (asked_opening _) (both (a_sign mark.OpenParenthesis) a_name) c.from_residual.ensures.1 c.in_err-place.ensures

pub returns-in_err-symbol : goal.returns-in_err-symbol
returns-in_err-symbol c = halt _ _ _ _ (then (asked_opening _) c.in_ok-place.ensures) a_name c.from_residual-in_err-symbol.ensures.1 c.in_err-symbol.ensures

pub returns-in_err-named : goal.returns-in_err-named
returns-in_err-named c = final_halt _ _ _ (then (then (asked_opening _) c.in_ok-place.ensures) c.in_ok-symbol.ensures) c.from_residual-in_err-named.ensures.1 c.in_err-named.ensures

pub returns : goal.returns
returns c = final (then (then (asked_opening _) c.in_ok-place.ensures) c.in_ok-symbol.ensures) c.in_ok-named.ensures
