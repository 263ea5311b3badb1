use Rattle.c_parse.proofs.Steps.{fails, made, passed, stuck_in, stuck_last, done, both}
use Rattle.c_parse.proofs.Leaves.{the_sign, the_zero}
use Rattle.c_parse.specs.declared.mark.Mark.TheVariants as mark
use Rattle.c_parse.proofs.initials.zeros.Goals as goal

pub returns-in_err-sign : goal.returns-in_err-sign
returns-in_err-sign c = fails _ _ c.from_residual.ensures.1 c.in_err-sign.ensures (stuck_in (made _ _ _ _) (both the_zero (the_sign mark.CloseBrace)))

pub returns-in_err-read_one : goal.returns-in_err-read_one
returns-in_err-read_one c = fails _ _ c.from_residual-in_err-read_one.ensures.1 c.in_err-read_one.ensures (stuck_in (passed (made _ _ _ _) c.in_ok-sign.ensures) (the_sign mark.CloseBrace))

pub returns-in_err-sign-2 : goal.returns-in_err-sign-2
returns-in_err-sign-2 c = fails _ _ c.from_residual-in_err-sign-2.ensures.1 c.in_err-sign-2.ensures (stuck_last (passed (passed (made _ _ _ _) c.in_ok-sign.ensures) c.in_ok-read_one.ensures))

pub returns : goal.returns
returns c = done (passed (passed (made _ _ _ _) c.in_ok-sign.ensures) c.in_ok-read_one.ensures) c.in_ok-sign-2.ensures
