use Rattle.c_parse.proofs.Steps.{fails, made, stuck_last, done}
use Rattle.c_parse.proofs.bases.number.Goals as goal

pub returns-in_err-literal : goal.returns-in_err-literal
returns-in_err-literal c = fails _ _ c.from_residual.ensures.1 c.in_err-literal.ensures (stuck_last (made _ _ _ _))

pub returns : goal.returns
returns c = done (made _ _ _ _) c.in_ok-literal.ensures
