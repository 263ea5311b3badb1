use Rattle.std.proofs.Common.{refl, [], None}
use Rattle.aadl_parse.proofs.Steps.{opening, and_then, halt_by, final, final_halt}
use Rattle.aadl_parse.proofs.connections.tip.Goals as goal

pub returns-in_err-first : goal.returns-in_err-first
returns-in_err-first c = halt_by _ (None, [], refl) opening _ _ _ c.from_residual.ensures.1 c.in_err-first.ensures

pub returns-in_err-port : goal.returns-in_err-port
returns-in_err-port c = final_halt (λ m f. f) (and_then opening c.in_ok-first.ensures) _ _ _ c.from_residual-in_err-port.ensures.1 c.in_err-port.ensures

pub returns : goal.returns
returns c = final (λ m f. f) (and_then opening c.in_ok-first.ensures) c.in_ok-port.ensures
