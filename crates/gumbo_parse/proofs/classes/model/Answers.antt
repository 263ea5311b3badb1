use Rattle.hw_reading.proofs.Choices.{no_members, nothing}
use Rattle.gumbo_parse.proofs.ClassForms.{model_opening, path-ends, dot-ends}
use Rattle.hw_reading.proofs.Choices.{both}
use Rattle.hw_reading.proofs.Steps.{then, halt, next_before, halt_before, final_before, final_halt_before}
use Rattle.gumbo_parse.proofs.classes.model.Goals as goal

pub returns-in_err-first : goal.returns-in_err-first
returns-in_err-first c = halt _ _ _ _ (model_opening _) (both no_members nothing) c.from_residual.ensures.1 c.in_err-first.ensures

pub returns-in_err-others : goal.returns-in_err-others
returns-in_err-others c = halt_before _ _ _ _ _ (then (model_opening _) c.in_ok-first.ensures) path-ends nothing c.from_residual-in_err-others.ensures.1 c.in_err-others.ensures

pub returns-in_err-implementation : goal.returns-in_err-implementation
returns-in_err-implementation c =
    final_halt_before _ _ _ _ (next_before (then (model_opening _) c.in_ok-first.ensures) path-ends c.in_ok-others.ensures) dot-ends c.from_residual-in_err-implementation.ensures.1
    c.in_err-implementation.ensures

pub returns : goal.returns
returns c = final_before (next_before (then (model_opening _) c.in_ok-first.ensures) path-ends c.in_ok-others.ensures) dot-ends c.in_ok-implementation.ensures
