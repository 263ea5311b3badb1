use Rattle.c_parse.proofs.Steps.{fails, made, passed, stuck_in, stuck_last, done}
use Rattle.c_parse.proofs.Leaves.{the_sign}
use Rattle.c_parse.specs.declared.mark.Mark.TheVariants as mark
use Rattle.c_parse.proofs.typedefs.opening.Goals as goal

pub returns-in_err-word : goal.returns-in_err-word
returns-in_err-word c = fails _ _ c.from_residual.ensures.1 c.in_err-word.ensures (stuck_in (made _ _ _ _) (the_sign mark.OpenBrace))

pub returns-in_err-sign : goal.returns-in_err-sign
returns-in_err-sign c = fails _ _ c.from_residual-in_err-sign.ensures.1 c.in_err-sign.ensures (stuck_last (passed (made _ _ _ _) c.in_ok-word.ensures))

pub returns : goal.returns
returns c = done (passed (made _ _ _ _) c.in_ok-word.ensures) c.in_ok-sign.ensures
