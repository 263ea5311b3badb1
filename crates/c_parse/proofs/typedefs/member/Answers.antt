use Rattle.c_parse.proofs.Steps.{fails, made, passed, passed_by, stuck_in, stuck_by, stuck_last, done, both, nothing_there}
use Rattle.c_parse.proofs.Leaves.{the_sign, the_name}
use Rattle.c_parse.specs.declared.mark.Mark.TheVariants as mark
use Rattle.c_parse.proofs.TypedefTexts.{length-follow}
use Rattle.c_parse.proofs.typedefs.member.Goals as goal

pub returns-in_err-class : goal.returns-in_err-class
returns-in_err-class c = fails _ _ c.from_residual.ensures.1 c.in_err-class.ensures (stuck_in (made _ _ _ _) (both the_name (both (nothing_there _) (the_sign mark.Semicolon))))

pub returns-in_err-name : goal.returns-in_err-name
returns-in_err-name c = fails _ _ c.from_residual-in_err-name.ensures.1 c.in_err-name.ensures (stuck_in (passed (made _ _ _ _) c.in_ok-class.ensures) (both (nothing_there _) (the_sign mark.Semicolon)))

pub returns-in_err-length : goal.returns-in_err-length
returns-in_err-length c = fails _ _ c.from_residual-in_err-length.ensures.1 c.in_err-length.ensures (stuck_by (passed (passed (made _ _ _ _) c.in_ok-class.ensures) c.in_ok-name.ensures) (length-follow _) (the_sign mark.Semicolon))

pub returns-in_err-sign : goal.returns-in_err-sign
returns-in_err-sign c = fails _ _ c.from_residual-in_err-sign.ensures.1 c.in_err-sign.ensures (stuck_last (passed_by (passed (passed (made _ _ _ _) c.in_ok-class.ensures) c.in_ok-name.ensures) (length-follow _) c.in_ok-length.ensures))

pub returns : goal.returns
returns c = done (passed_by (passed (passed (made _ _ _ _) c.in_ok-class.ensures) c.in_ok-name.ensures) (length-follow _) c.in_ok-length.ensures) c.in_ok-sign.ensures
