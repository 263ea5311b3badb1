use Rattle.c_parse.proofs.Steps.{fails, made, passed, stuck_in, stuck_last, done}
use Rattle.c_parse.proofs.Leaves.{the_name}
use Rattle.c_parse.proofs.typedefs.next_name.Goals as goal

pub returns-in_err-sign : goal.returns-in_err-sign
returns-in_err-sign c = fails _ _ c.from_residual.ensures.1 c.in_err-sign.ensures (stuck_in (made _ _ _ _) the_name)

pub returns-in_err-name : goal.returns-in_err-name
returns-in_err-name c = fails _ _ c.from_residual-in_err-name.ensures.1 c.in_err-name.ensures (stuck_last (passed (made _ _ _ _) c.in_ok-sign.ensures))

pub returns : goal.returns
returns c = done (passed (made _ _ _ _) c.in_ok-sign.ensures) c.in_ok-name.ensures
