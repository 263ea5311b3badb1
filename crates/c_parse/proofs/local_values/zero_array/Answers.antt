use Rattle.c_parse.proofs.Steps.{fails, made, passed, stuck_in, stuck_last, done, both}
use Rattle.c_parse.proofs.Leaves.{the_sign, the_literal}
use Rattle.c_parse.specs.declared.mark.Mark.TheVariants as mark
use Rattle.c_parse.proofs.LocalTexts.{a_zeros}
use Rattle.c_parse.proofs.local_values.zero_array.Goals as goal

pub returns-in_err-sign : goal.returns-in_err-sign
returns-in_err-sign c = fails _ _ c.from_residual.ensures.1 c.in_err-sign.ensures (stuck_in (made _ _ _ _) (both the_literal (both (the_sign mark.CloseBracket) (both (the_sign mark.Assign) a_zeros))))

pub returns-in_err-length : goal.returns-in_err-length
returns-in_err-length c = fails _ _ c.from_residual-in_err-length.ensures.1 c.in_err-length.ensures (stuck_in (passed (made _ _ _ _) c.in_ok-sign.ensures) (both (the_sign mark.CloseBracket) (both (the_sign mark.Assign) a_zeros)))

pub returns-in_err-sign-2 : goal.returns-in_err-sign-2
returns-in_err-sign-2 c = fails _ _ c.from_residual-in_err-sign-2.ensures.1 c.in_err-sign-2.ensures (stuck_in (passed (passed (made _ _ _ _) c.in_ok-sign.ensures) c.in_ok-length.ensures) (both (the_sign mark.Assign) a_zeros))

pub returns-in_err-sign-3 : goal.returns-in_err-sign-3
returns-in_err-sign-3 c = fails _ _ c.from_residual-in_err-sign-3.ensures.1 c.in_err-sign-3.ensures (stuck_in (passed (passed (passed (made _ _ _ _) c.in_ok-sign.ensures) c.in_ok-length.ensures) c.in_ok-sign-2.ensures) a_zeros)

pub returns-in_err-zeros : goal.returns-in_err-zeros
returns-in_err-zeros c = fails _ _ c.from_residual-in_err-zeros.ensures.1 c.in_err-zeros.ensures (stuck_last (passed (passed (passed (passed (made _ _ _ _) c.in_ok-sign.ensures) c.in_ok-length.ensures) c.in_ok-sign-2.ensures) c.in_ok-sign-3.ensures))

pub returns : goal.returns
returns c = done (passed (passed (passed (passed (made _ _ _ _) c.in_ok-sign.ensures) c.in_ok-length.ensures) c.in_ok-sign-2.ensures) c.in_ok-sign-3.ensures) c.in_ok-zeros.ensures
