use Rattle.c_parse.proofs.Steps.{fails, made, passed, stuck_in, stuck_last, done}
use Rattle.c_parse.proofs.BaseTexts.{a_pointed}
use Rattle.c_parse.proofs.bases.pointed_base.Goals as goal

pub returns-in_err-start : goal.returns-in_err-start
returns-in_err-start c = fails _ _ c.from_residual.ensures.1 c.in_err-start.ensures (stuck_in (made _ _ _ _) a_pointed)

pub returns-in_err-pointer : goal.returns-in_err-pointer
returns-in_err-pointer c = fails _ _ c.from_residual-in_err-pointer.ensures.1 c.in_err-pointer.ensures (stuck_last (passed (made _ _ _ _) c.in_ok-start.ensures))

pub returns : goal.returns
returns c = done (passed (made _ _ _ _) c.in_ok-start.ensures) c.in_ok-pointer.ensures
