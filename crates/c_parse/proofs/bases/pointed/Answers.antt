use Rattle.c_parse.specs.declared.mark.Mark.TheVariants as mark
use Rattle.c_parse.proofs.Steps.{fails, made, passed, stuck_in, stuck_last, done, both}
use Rattle.c_parse.proofs.Leaves.{the_sign, the_name}
use Rattle.c_parse.proofs.bases.pointed.Goals as goal

pub returns-in_err-sign : goal.returns-in_err-sign
returns-in_err-sign c = fails _ _ c.from_residual.ensures.1 c.in_err-sign.ensures (stuck_in (made _ _ _ _) (both the_name (the_sign mark.CloseParenthesis)))

pub returns-in_err-pointer : goal.returns-in_err-pointer
returns-in_err-pointer c = fails _ _ c.from_residual-in_err-pointer.ensures.1 c.in_err-pointer.ensures (stuck_in (passed (made _ _ _ _) c.in_ok-sign.ensures) (the_sign mark.CloseParenthesis))

pub returns-in_err-sign-2 : goal.returns-in_err-sign-2
returns-in_err-sign-2 c = fails _ _ c.from_residual-in_err-sign-2.ensures.1 c.in_err-sign-2.ensures (stuck_last (passed (passed (made _ _ _ _) c.in_ok-sign.ensures) c.in_ok-pointer.ensures))

pub returns : goal.returns
returns c = done (passed (passed (made _ _ _ _) c.in_ok-sign.ensures) c.in_ok-pointer.ensures) c.in_ok-sign-2.ensures
