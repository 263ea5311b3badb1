use Rattle.c_parse.proofs.Steps.{fails, made, stuck_last, done}
use Rattle.c_parse.proofs.bases.truth.Goals as goal

pub returns-in_err-start : goal.returns-in_err-start
returns-in_err-start c = fails _ _ c.from_residual.ensures.1 c.in_err-start.ensures (stuck_last (made _ _ _ _))

pub returns : goal.returns
returns c = done (made _ _ _ _) c.in_ok-start.ensures
