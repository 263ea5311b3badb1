use Rattle.gumbo_parse.proofs.ClassForms.{step_opening}
use Rattle.gumbo_parse.proofs.PortForms.{a_name}
use Rattle.hw_reading.proofs.Steps.{then, halt, final, final_halt}
use Rattle.gumbo_parse.proofs.classes.step.Goals as goal

pub returns-in_err-symbol : goal.returns-in_err-symbol
returns-in_err-symbol c = halt _ _ _ _ (step_opening _) a_name c.from_residual.ensures.1 c.in_err-symbol.ensures

pub returns-in_err-named : goal.returns-in_err-named
returns-in_err-named c = final_halt _ _ _ (then (step_opening _) c.in_ok-symbol.ensures) c.from_residual-in_err-named.ensures.1 c.in_err-named.ensures

pub returns : goal.returns
returns c = final (then (step_opening _) c.in_ok-symbol.ensures) c.in_ok-named.ensures
