use Rattle.std.proofs.Common.{refl, []}
use Rattle.aadl_parse.proofs.Steps.{opening, and_then, halt_by, final, final_halt}
use Rattle.aadl_parse.proofs.names.path.Goals as goal

pub returns-in_err-first : goal.returns-in_err-first
returns-in_err-first c = halt_by _ ([], [], refl) opening _ _ _ c.from_residual.ensures.1 c.in_err-first.ensures

pub returns-in_err-others : goal.returns-in_err-others
returns-in_err-others c = final_halt (λ m f. f) (and_then opening c.in_ok-first.ensures) _ _ _ c.from_residual-in_err-others.ensures.1 c.in_err-others.ensures

pub returns : goal.returns
returns c = final (λ m f. f) (and_then opening c.in_ok-first.ensures) c.in_ok-others.ensures
