use Rattle.c_parse.proofs.Steps.{fails, made, passed_by, stuck_by, stuck_last, done, both, nothing_there}
use Rattle.c_parse.proofs.Leaves.{the_sign}
use Rattle.c_parse.specs.declared.mark.Mark.TheVariants as mark
use Rattle.c_parse.proofs.ItemTexts.{length_follow, given_follow}
use Rattle.c_parse.proofs.variables.variable_behind.Goals as goal

pub returns-in_err-length : goal.returns-in_err-length
returns-in_err-length c = fails _ _ c.from_residual.ensures.1 c.in_err-length.ensures (stuck_by (made _ _ _ _) length_follow (both (nothing_there _) (the_sign mark.Semicolon)))

pub returns-in_err-initial : goal.returns-in_err-initial
returns-in_err-initial c = fails _ _ c.from_residual-in_err-initial.ensures.1 c.in_err-initial.ensures (stuck_by (passed_by (made _ _ _ _) length_follow c.in_ok-length.ensures) given_follow (the_sign mark.Semicolon))

pub returns-in_err-sign : goal.returns-in_err-sign
returns-in_err-sign c = fails _ _ c.from_residual-in_err-sign.ensures.1 c.in_err-sign.ensures (stuck_last (passed_by (passed_by (made _ _ _ _) length_follow c.in_ok-length.ensures) given_follow c.in_ok-initial.ensures))

pub returns : goal.returns
returns c = done (passed_by (passed_by (made _ _ _ _) length_follow c.in_ok-length.ensures) given_follow c.in_ok-initial.ensures) c.in_ok-sign.ensures
