use Rattle.c_parse.proofs.Steps.{fails, made, passed, stuck_in, stuck_last_by, done_by}
use Rattle.c_parse.proofs.CallTexts.{an_argument}
use Rattle.c_parse.proofs.calls.next_argument.Goals as goal

pub returns-in_err-sign : goal.returns-in_err-sign
returns-in_err-sign c = fails _ _ c.from_residual.ensures.1 c.in_err-sign.ensures (stuck_in (made _ _ _ _) (an_argument _))

pub returns-in_err-next : goal.returns-in_err-next
returns-in_err-next c = fails _ _ c.from_residual-in_err-next.ensures.1 c.in_err-next.ensures (stuck_last_by (passed (made _ _ _ _) c.in_ok-sign.ensures) (λ m follows. follows))

pub returns : goal.returns
returns c = done_by (passed (made _ _ _ _) c.in_ok-sign.ensures) (λ m follows. follows) c.in_ok-next.ensures
