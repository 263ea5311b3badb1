use Rattle.c_parse.proofs.Steps.{fails, passed, passed_by, stuck_in, stuck_by, stuck_last, done, both}
use Rattle.c_parse.proofs.Leaves.{the_sign}
use Rattle.c_parse.specs.declared.mark.Mark.TheVariants as mark
use Rattle.c_parse.proofs.ItemTexts.{body_stuck, no_return_left, return_left, right-semicolon-close}
use Rattle.std.proofs.Common.{ap}
use Rattle.std.specs.Prelude.{is_some}
use Rattle.c_parse.proofs.CallTexts.{a_right}
use Rattle.c_parse.proofs.functions.body.Goals as goal

pub returns-in_err-all : goal.returns-in_err-all
returns-in_err-all c = fails _ _ c.from_residual.ensures.1 c.in_err-all.ensures (body_stuck _ _ _)

pub returns-in_err-sign : goal.returns-in_err-sign
returns-in_err-sign c = fails _ _ c.from_residual-in_err-sign.ensures.1 c.in_err-sign.ensures (stuck_last ((no_return_left _ _ _ (ap is_some c.in_default.is) c.in_ok-all.ensures)))

pub returns-in_default : goal.returns-in_default
returns-in_default c = done ((no_return_left _ _ _ (ap is_some c.in_default.is) c.in_ok-all.ensures)) c.in_ok-sign.ensures

pub returns-in_err-word : goal.returns-in_err-word
returns-in_err-word c = fails _ _ c.from_residual-in_err-word.ensures.1 c.in_err-word.ensures (stuck_in ((return_left _ _ _ (ap is_some c.in-Some.is) c.in_ok-all.ensures)) (both ((a_right _)) (both (the_sign mark.Semicolon) (the_sign mark.CloseBrace))))

pub returns-in_err-value : goal.returns-in_err-value
returns-in_err-value c = fails _ _ c.from_residual-in_err-value.ensures.1 c.in_err-value.ensures (stuck_by (passed ((return_left _ _ _ (ap is_some c.in-Some.is) c.in_ok-all.ensures)) c.in_ok-word.ensures) (right-semicolon-close _) (both (the_sign mark.Semicolon) (the_sign mark.CloseBrace)))

pub returns-in_err-sign-2 : goal.returns-in_err-sign-2
returns-in_err-sign-2 c = fails _ _ c.from_residual-in_err-sign-2.ensures.1 c.in_err-sign-2.ensures (stuck_in (passed_by (passed ((return_left _ _ _ (ap is_some c.in-Some.is) c.in_ok-all.ensures)) c.in_ok-word.ensures) (right-semicolon-close _) c.in_ok-value.ensures) (the_sign mark.CloseBrace))

pub returns-in_err-sign-3 : goal.returns-in_err-sign-3
returns-in_err-sign-3 c = fails _ _ c.from_residual-in_err-sign-3.ensures.1 c.in_err-sign-3.ensures (stuck_last (passed (passed_by (passed ((return_left _ _ _ (ap is_some c.in-Some.is) c.in_ok-all.ensures)) c.in_ok-word.ensures) (right-semicolon-close _) c.in_ok-value.ensures) c.in_ok-sign-2.ensures))

pub returns : goal.returns
returns c = done (passed (passed_by (passed ((return_left _ _ _ (ap is_some c.in-Some.is) c.in_ok-all.ensures)) c.in_ok-word.ensures) (right-semicolon-close _) c.in_ok-value.ensures) c.in_ok-sign-2.ensures) c.in_ok-sign-3.ensures
