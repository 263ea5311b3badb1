use Rattle.c_parse.specs.declared.mark.Mark.TheVariants as mark
use Rattle.c_parse.proofs.Steps.{fails, made, passed, passed_by, stuck_in, stuck_by, stuck_last, done, both}
use Rattle.c_parse.proofs.Leaves.{the_sign}
use Rattle.c_parse.proofs.CallTexts.{no_arguments, close-closes, name_read}
use Rattle.c_parse.proofs.calls.call_behind.Goals as goal

pub returns-in_err-sign : goal.returns-in_err-sign
returns-in_err-sign c =
    fails _ _ c.from_residual.ensures.1 c.in_err-sign.ensures (stuck_in (passed (made _ _ _ _) (name_read _ _)) (both (no_arguments _) (the_sign mark.CloseParenthesis)))

pub returns-in_err-arguments : goal.returns-in_err-arguments
returns-in_err-arguments c =
    fails _ _ c.from_residual-in_err-arguments.ensures.1 c.in_err-arguments.ensures
    (stuck_by (passed (passed (made _ _ _ _) (name_read _ _)) c.in_ok-sign.ensures) (close-closes _) (the_sign mark.CloseParenthesis))

pub returns-in_err-sign-2 : goal.returns-in_err-sign-2
returns-in_err-sign-2 c =
    fails _ _ c.from_residual-in_err-sign-2.ensures.1 c.in_err-sign-2.ensures
    (stuck_last (passed_by (passed (passed (made _ _ _ _) (name_read _ _)) c.in_ok-sign.ensures) (close-closes _) c.in_ok-arguments.ensures))

pub returns : goal.returns
returns c = done (passed_by (passed (passed (made _ _ _ _) (name_read _ _)) c.in_ok-sign.ensures) (close-closes _) c.in_ok-arguments.ensures) c.in_ok-sign-2.ensures
