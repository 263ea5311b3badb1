use Rattle.c_parse.proofs.Steps.{fails, made, passed, stuck_in, stuck_last, done}
use Rattle.c_parse.proofs.ParameterTexts.{a_parameter}
use Rattle.c_parse.proofs.parameter_list.next_parameter.Goals as goal

pub returns-in_err-sign : goal.returns-in_err-sign
returns-in_err-sign c = fails _ _ c.from_residual.ensures.1 c.in_err-sign.ensures (stuck_in (made _ _ _ _) (a_parameter _))

pub returns-in_err-next : goal.returns-in_err-next
returns-in_err-next c = fails _ _ c.from_residual-in_err-next.ensures.1 c.in_err-next.ensures (stuck_last (passed (made _ _ _ _) c.in_ok-sign.ensures))

pub returns : goal.returns
returns c = done (passed (made _ _ _ _) c.in_ok-sign.ensures) c.in_ok-next.ensures
