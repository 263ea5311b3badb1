use Rattle.gumbo_parse.specs.declared.mark.Mark.TheVariants as mark
use Rattle.gumbo_parse.proofs.ClassForms.{a_class, variable_opening, semicolon-class}
use Rattle.hw_reading.proofs.Choices.{both}
use Rattle.gumbo_parse.proofs.PortForms.{a_sign}
use Rattle.hw_reading.proofs.Steps.{then, halt, next_before, halt_before, final, final_halt}
use Rattle.gumbo_parse.proofs.classes.variable.Goals as goal

pub returns-in_err-name : goal.returns-in_err-name
returns-in_err-name c = halt _ _ _ _ (variable_opening _) (both (a_sign mark.Colon) (both a_class (a_sign mark.Semicolon))) c.from_residual.ensures.1 c.in_err-name.ensures

pub returns-in_err-symbol : goal.returns-in_err-symbol
returns-in_err-symbol c = halt _ _ _ _ (then (variable_opening _) c.in_ok-name.ensures) (both a_class (a_sign mark.Semicolon)) c.from_residual-in_err-symbol.ensures.1 c.in_err-symbol.ensures

pub returns-in_err-class : goal.returns-in_err-class
returns-in_err-class c =
    halt_before _ _ _ _ _ (then (then (variable_opening _) c.in_ok-name.ensures) c.in_ok-symbol.ensures) semicolon-class (a_sign mark.Semicolon) c.from_residual-in_err-class.ensures.1 c.in_err-class.ensures

pub returns-in_err-symbol-2 : goal.returns-in_err-symbol-2
returns-in_err-symbol-2 c =
    final_halt _ _ _ (next_before (then (then (variable_opening _) c.in_ok-name.ensures) c.in_ok-symbol.ensures) semicolon-class c.in_ok-class.ensures) c.from_residual-in_err-symbol-2.ensures.1
    c.in_err-symbol-2.ensures

pub returns : goal.returns
returns c = final (next_before (then (then (variable_opening _) c.in_ok-name.ensures) c.in_ok-symbol.ensures) semicolon-class c.in_ok-class.ensures) c.in_ok-symbol-2.ensures
