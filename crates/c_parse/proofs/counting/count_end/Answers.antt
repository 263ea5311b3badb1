use Rattle.c_parse.proofs.Steps.{fails, made, passed, stuck_in, stuck_last, done, both}
use Rattle.c_parse.proofs.Leaves.{the_sign}
use Rattle.c_parse.specs.declared.mark.Mark.TheVariants as mark
use Rattle.c_parse.proofs.CountTexts.{a_signed, this_again}
use Rattle.c_parse.proofs.counting.count_end.Goals as goal

pub returns-in_err-again : goal.returns-in_err-again
returns-in_err-again c = fails _ _ c.from_residual.ensures.1 c.in_err-again.ensures (stuck_in (made _ _ _ _) (both (the_sign mark.Less) (both a_signed (both (the_sign mark.Semicolon) (both (this_again c.args.name.now) (both (the_sign mark.Increment) (the_sign mark.CloseParenthesis)))))))

pub returns-in_err-place : goal.returns-in_err-place
returns-in_err-place c = fails _ _ c.from_residual-in_err-place.ensures.1 c.in_err-place.ensures (stuck_in (passed (made _ _ _ _) c.in_ok-again.ensures) (both a_signed (both (the_sign mark.Semicolon) (both (this_again c.args.name.now) (both (the_sign mark.Increment) (the_sign mark.CloseParenthesis))))))

pub returns-in_err-below : goal.returns-in_err-below
returns-in_err-below c = fails _ _ c.from_residual-in_err-below.ensures.1 c.in_err-below.ensures (stuck_in (passed (passed (made _ _ _ _) c.in_ok-again.ensures) c.in_ok-place.ensures) (both (the_sign mark.Semicolon) (both (this_again c.args.name.now) (both (the_sign mark.Increment) (the_sign mark.CloseParenthesis)))))

pub returns-in_err-sign : goal.returns-in_err-sign
returns-in_err-sign c = fails _ _ c.from_residual-in_err-sign.ensures.1 c.in_err-sign.ensures (stuck_in (passed (passed (passed (made _ _ _ _) c.in_ok-again.ensures) c.in_ok-place.ensures) c.in_ok-below.ensures) (both (this_again c.args.name.now) (both (the_sign mark.Increment) (the_sign mark.CloseParenthesis))))

pub returns-in_err-again-2 : goal.returns-in_err-again-2
returns-in_err-again-2 c = fails _ _ c.from_residual-in_err-again-2.ensures.1 c.in_err-again-2.ensures (stuck_in (passed (passed (passed (passed (made _ _ _ _) c.in_ok-again.ensures) c.in_ok-place.ensures) c.in_ok-below.ensures) c.in_ok-sign.ensures) (both (the_sign mark.Increment) (the_sign mark.CloseParenthesis)))

pub returns-in_err-sign-2 : goal.returns-in_err-sign-2
returns-in_err-sign-2 c = fails _ _ c.from_residual-in_err-sign-2.ensures.1 c.in_err-sign-2.ensures (stuck_in (passed (passed (passed (passed (passed (made _ _ _ _) c.in_ok-again.ensures) c.in_ok-place.ensures) c.in_ok-below.ensures) c.in_ok-sign.ensures) c.in_ok-again-2.ensures) (the_sign mark.CloseParenthesis))

pub returns-in_err-sign-3 : goal.returns-in_err-sign-3
returns-in_err-sign-3 c = fails _ _ c.from_residual-in_err-sign-3.ensures.1 c.in_err-sign-3.ensures (stuck_last (passed (passed (passed (passed (passed (passed (made _ _ _ _) c.in_ok-again.ensures) c.in_ok-place.ensures) c.in_ok-below.ensures) c.in_ok-sign.ensures) c.in_ok-again-2.ensures) c.in_ok-sign-2.ensures))

pub returns : goal.returns
returns c = done (passed (passed (passed (passed (passed (passed (made _ _ _ _) c.in_ok-again.ensures) c.in_ok-place.ensures) c.in_ok-below.ensures) c.in_ok-sign.ensures) c.in_ok-again-2.ensures) c.in_ok-sign-2.ensures) c.in_ok-sign-3.ensures
