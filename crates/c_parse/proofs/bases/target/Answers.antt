use Rattle.c_parse.specs.declared.mark.Mark.TheVariants as mark
use Rattle.c_parse.proofs.Steps.{fails, made, passed, stuck_in, stuck_last, done}
use Rattle.c_parse.proofs.Leaves.{the_sign}
use Rattle.c_parse.proofs.bases.target.Goals as goal

pub returns-in_err-class : goal.returns-in_err-class
returns-in_err-class c = fails _ _ c.from_residual.ensures.1 c.in_err-class.ensures (stuck_in (made _ _ _ _) (the_sign mark.CloseParenthesis))

pub returns-in_err-sign : goal.returns-in_err-sign
returns-in_err-sign c = fails _ _ c.from_residual-in_err-sign.ensures.1 c.in_err-sign.ensures (stuck_last (passed (made _ _ _ _) c.in_ok-class.ensures))

pub returns : goal.returns
returns c = done (passed (made _ _ _ _) c.in_ok-class.ensures) c.in_ok-sign.ensures
