use Rattle.c_parse.proofs.Steps.{fails, made, passed, passed_by, stuck_in, stuck_by, stuck_last, done, both}
use Rattle.c_parse.proofs.Leaves.{the_sign}
use Rattle.c_parse.specs.declared.mark.Mark.TheVariants as mark
use Rattle.c_parse.proofs.LocalTexts.{right-close}
use Rattle.c_parse.proofs.CallTexts.{a_right}
use Rattle.c_parse.proofs.local_values.condition.Goals as goal

pub returns-in_err-sign : goal.returns-in_err-sign
returns-in_err-sign c = fails _ _ c.from_residual.ensures.1 c.in_err-sign.ensures (stuck_in (made _ _ _ _) (both (a_right _) (the_sign mark.CloseParenthesis)))

pub returns-in_err-condition : goal.returns-in_err-condition
returns-in_err-condition c = fails _ _ c.from_residual-in_err-condition.ensures.1 c.in_err-condition.ensures (stuck_by (passed (made _ _ _ _) c.in_ok-sign.ensures) (right-close _) (the_sign mark.CloseParenthesis))

pub returns-in_err-sign-2 : goal.returns-in_err-sign-2
returns-in_err-sign-2 c = fails _ _ c.from_residual-in_err-sign-2.ensures.1 c.in_err-sign-2.ensures (stuck_last (passed_by (passed (made _ _ _ _) c.in_ok-sign.ensures) (right-close _) c.in_ok-condition.ensures))

pub returns : goal.returns
returns c = done (passed_by (passed (made _ _ _ _) c.in_ok-sign.ensures) (right-close _) c.in_ok-condition.ensures) c.in_ok-sign-2.ensures
