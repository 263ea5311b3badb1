use Rattle.gumbo_parse.specs.declared.mark.Mark.TheVariants as mark
use Rattle.gumbo_parse.proofs.ClassForms.{a_base_name, base_opening}
use Rattle.hw_reading.proofs.Choices.{both}
use Rattle.gumbo_parse.proofs.PortForms.{a_sign}
use Rattle.hw_reading.proofs.Steps.{then, halt, final, final_halt}
use Rattle.gumbo_parse.proofs.classes.base.Goals as goal

pub returns-in_err-place : goal.returns-in_err-place
returns-in_err-place c = halt _ _ _ _ (base_opening _) (both (a_sign mark.DoubleColon) a_base_name) c.from_residual.ensures.1 c.in_err-place.ensures

pub returns-in_err-symbol : goal.returns-in_err-symbol
returns-in_err-symbol c = halt _ _ _ _ (then (base_opening _) c.in_ok-place.ensures) a_base_name c.from_residual-in_err-symbol.ensures.1 c.in_err-symbol.ensures

pub returns-in_err-base : goal.returns-in_err-base
returns-in_err-base c = final_halt _ _ _ (then (then (base_opening _) c.in_ok-place.ensures) c.in_ok-symbol.ensures) c.from_residual-in_err-base.ensures.1 c.in_err-base.ensures

pub returns : goal.returns
returns c = final (then (then (base_opening _) c.in_ok-place.ensures) c.in_ok-symbol.ensures) c.in_ok-base.ensures
