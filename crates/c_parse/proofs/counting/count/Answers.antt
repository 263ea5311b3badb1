use Rattle.c_parse.proofs.Steps.{fails, stuck_last, done}
use Rattle.c_parse.proofs.CountTexts.{start_stuck, start_read}
use Rattle.c_parse.proofs.counting.count.Goals as goal

pub returns-in_err-start : goal.returns-in_err-start
returns-in_err-start c = fails _ _ c.from_residual.ensures.1 c.in_err-start.ensures (start_stuck _ _)

pub returns-in_err-end : goal.returns-in_err-end
returns-in_err-end c = fails _ _ c.from_residual-in_err-end.ensures.1 c.in_err-end.ensures (stuck_last (start_read _ _ _ c.in_ok-start.ensures))

pub returns : goal.returns
returns c = done (start_read _ _ _ c.in_ok-start.ensures) c.in_ok-end.ensures
