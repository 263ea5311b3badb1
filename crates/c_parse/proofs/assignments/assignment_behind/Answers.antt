use Rattle.c_parse.proofs.Steps.{fails, made, passed_by, stuck_by, both}
use Rattle.c_parse.proofs.Leaves.{the_sign}
use Rattle.c_parse.specs.declared.mark.Mark.TheVariants as mark
use Rattle.c_parse.proofs.CallTexts.{a_right}
use Rattle.c_parse.proofs.Steps.{remake, handed}
use Rattle.c_parse.proofs.PlainTexts.{lvalue-assign}
use Rattle.c_parse.proofs.assignments.assignment_behind.Goals as goal

pub returns-in_err-target : goal.returns-in_err-target
returns-in_err-target c = fails _ _ c.from_residual.ensures.1 c.in_err-target.ensures (stuck_by (made _ _ _ _) lvalue-assign (both (the_sign mark.Assign) (both (a_right _) (the_sign mark.Semicolon))))

pub returns : goal.returns
returns c = handed (remake (passed_by (made _ _ _ _) lvalue-assign c.in_ok-target.ensures)) (λ m follows. tt) _ _ c.assigned_behind.ensures
