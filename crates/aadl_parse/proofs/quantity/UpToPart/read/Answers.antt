use Rattle.std.proofs.Common.{refl, [], ◌∷◌, ◌++◌, codes, sym}
use Rattle.aadl_parse.specs.ValueParts.{a_quantity}
use Rattle.aadl_parse.specs.Starts.{}
use Rattle.aadl_parse.proofs.Steps.{beginning, and_then, halt, final, final_halt}
use Rattle.aadl_parse.proofs.quantity.UpToPart.read.Goals as goal

pub returns-in_err-sign : goal.returns-in_err-sign
returns-in_err-sign c = halt _ [] a_quantity refl beginning _ _ _ c.from_residual.ensures.1 c.in_err-sign.ensures

pub returns-in_err-to : goal.returns-in_err-to
returns-in_err-to c = final_halt (λ m f. f) (and_then beginning c.in_ok-sign.ensures) _ _ _ c.from_residual-in_err-to.ensures.1 c.in_err-to.ensures

pub returns : goal.returns
returns c = final (λ m f. f) (and_then beginning c.in_ok-sign.ensures) c.in_ok-to.ensures
