use Rattle.c_parse.proofs.Steps.{fails, made, passed, passed_by, stuck_in, stuck_by, stuck_last, done, both}
use Rattle.c_parse.proofs.Leaves.{the_sign}
use Rattle.c_parse.specs.declared.mark.Mark.TheVariants as mark
use Rattle.c_parse.proofs.ItemTexts.{parameters_follow, some_parameters, an_ending}
use Rattle.c_parse.proofs.Steps.{as_value}
use Rattle.c_parse.proofs.functions.function_behind.Goals as goal

pub returns-in_err-sign : goal.returns-in_err-sign
returns-in_err-sign c = fails _ _ c.from_residual.ensures.1 c.in_err-sign.ensures (stuck_in (made _ _ _ _) (both (some_parameters _) (both (the_sign mark.CloseParenthesis) (an_ending _ _))))

pub returns-in_err-parameters : goal.returns-in_err-parameters
returns-in_err-parameters c = fails _ _ c.from_residual-in_err-parameters.ensures.1 c.in_err-parameters.ensures (stuck_by (passed (made _ _ _ _) c.in_ok-sign.ensures) (parameters_follow _) (both (the_sign mark.CloseParenthesis) (an_ending _ _)))

pub returns-in_err-sign-2 : goal.returns-in_err-sign-2
returns-in_err-sign-2 c = fails _ _ c.from_residual-in_err-sign-2.ensures.1 c.in_err-sign-2.ensures (stuck_in (passed_by (passed (made _ _ _ _) c.in_ok-sign.ensures) (parameters_follow _) c.in_ok-parameters.ensures) (an_ending _ _))

pub returns-in_err-body : goal.returns-in_err-body
returns-in_err-body c = fails _ _ c.from_residual-in_err-body.ensures.1 c.in_err-body.ensures (stuck_last (passed (passed_by (passed (made _ _ _ _) c.in_ok-sign.ensures) (parameters_follow _) c.in_ok-parameters.ensures) c.in_ok-sign-2.ensures))

pub returns : goal.returns
returns c = as_value c.function.ensures (done (passed (passed_by (passed (made _ _ _ _) c.in_ok-sign.ensures) (parameters_follow _) c.in_ok-parameters.ensures) c.in_ok-sign-2.ensures) c.in_ok-body.ensures)
