use Rattle.c_parse.proofs.Steps.{fails, made, passed, stuck_in, both}
use Rattle.c_parse.proofs.Leaves.{the_sign, the_name}
use Rattle.c_parse.specs.declared.mark.Mark.TheVariants as mark
use Rattle.c_parse.proofs.LocalTexts.{a_local_value}
use Rattle.c_parse.proofs.Steps.{remake, handed}
use Rattle.c_parse.proofs.locals.local.Goals as goal

pub returns-in_err-class : goal.returns-in_err-class
returns-in_err-class c = fails _ _ c.from_residual.ensures.1 c.in_err-class.ensures (stuck_in (made _ _ _ _) (both the_name (both (a_local_value _) (the_sign mark.Semicolon))))

pub returns : goal.returns
returns c = handed (remake (passed (made _ _ _ _) c.in_ok-class.ensures)) (λ m follows. tt) _ _ c.local_behind.ensures
