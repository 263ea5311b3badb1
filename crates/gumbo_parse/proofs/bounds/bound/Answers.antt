use Rattle.gumbo_parse.proofs.BoundForms.{a_number, bound_opening, number-follows}
use Rattle.hw_reading.proofs.Steps.{next_before, halt_before, final, final_halt}
use Rattle.gumbo_parse.proofs.bounds.bound.Goals as goal

pub returns-in_err-minus : goal.returns-in_err-minus
returns-in_err-minus c = halt_before _ _ _ _ _ (bound_opening _) number-follows a_number c.from_residual.ensures.1 c.in_err-minus.ensures

pub returns-in_err-place : goal.returns-in_err-place
returns-in_err-place c = final_halt _ _ _ (next_before (bound_opening _) number-follows c.in_ok-minus.ensures) c.from_residual-in_err-place.ensures.1 c.in_err-place.ensures

pub returns : goal.returns
returns c =
    let so = final (next_before (bound_opening _) number-follows c.in_ok-minus.ensures) c.in_ok-place.ensures in
    rw c.is_some.ensures so
