use Rattle.c_parse.proofs.Steps.{fails, made, passed, stuck_in, stuck_last, done, both}
use Rattle.c_parse.proofs.Leaves.{the_sign, the_name}
use Rattle.c_parse.specs.declared.mark.Mark.TheVariants as mark
use Rattle.c_parse.proofs.externals.pointer.Goals as goal

pub returns-in_err-word : goal.returns-in_err-word
returns-in_err-word c = fails _ _ c.from_residual.ensures.1 c.in_err-word.ensures (stuck_in (made _ _ _ _) (both the_name (both (the_sign mark.Star) (both the_name (the_sign mark.Semicolon)))))

pub returns-in_err-class : goal.returns-in_err-class
returns-in_err-class c = fails _ _ c.from_residual-in_err-class.ensures.1 c.in_err-class.ensures (stuck_in (passed (made _ _ _ _) c.in_ok-word.ensures) (both (the_sign mark.Star) (both the_name (the_sign mark.Semicolon))))

pub returns-in_err-sign : goal.returns-in_err-sign
returns-in_err-sign c = fails _ _ c.from_residual-in_err-sign.ensures.1 c.in_err-sign.ensures (stuck_in (passed (passed (made _ _ _ _) c.in_ok-word.ensures) c.in_ok-class.ensures) (both the_name (the_sign mark.Semicolon)))

pub returns-in_err-name : goal.returns-in_err-name
returns-in_err-name c = fails _ _ c.from_residual-in_err-name.ensures.1 c.in_err-name.ensures (stuck_in (passed (passed (passed (made _ _ _ _) c.in_ok-word.ensures) c.in_ok-class.ensures) c.in_ok-sign.ensures) (the_sign mark.Semicolon))

pub returns-in_err-sign-2 : goal.returns-in_err-sign-2
returns-in_err-sign-2 c = fails _ _ c.from_residual-in_err-sign-2.ensures.1 c.in_err-sign-2.ensures (stuck_last (passed (passed (passed (passed (made _ _ _ _) c.in_ok-word.ensures) c.in_ok-class.ensures) c.in_ok-sign.ensures) c.in_ok-name.ensures))

pub returns : goal.returns
returns c = done (passed (passed (passed (passed (made _ _ _ _) c.in_ok-word.ensures) c.in_ok-class.ensures) c.in_ok-sign.ensures) c.in_ok-name.ensures) c.in_ok-sign-2.ensures
