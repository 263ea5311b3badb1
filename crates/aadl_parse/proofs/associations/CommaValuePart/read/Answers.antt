use Rattle.std.proofs.Common.{refl, [], ◌∷◌, ◌++◌, codes, sym}
use Rattle.aadl_parse.specs.Parts.{a_value}
use Rattle.aadl_parse.specs.Starts.{}
use Rattle.aadl_parse.proofs.Steps.{opening, and_then, halt, final, final_halt}
use Rattle.aadl_parse.proofs.associations.CommaValuePart.read.Goals as goal

pub returns-in_err-sign : goal.returns-in_err-sign
returns-in_err-sign c = halt _ [] a_value refl opening _ _ _ c.from_residual.ensures.1 c.in_err-sign.ensures

pub returns-in_err-value : goal.returns-in_err-value
returns-in_err-value c = final_halt (λ m f. f) (and_then opening c.in_ok-sign.ensures) _ _ _ c.from_residual-in_err-value.ensures.1 c.in_err-value.ensures

pub returns : goal.returns
returns c = final (λ m f. f) (and_then opening c.in_ok-sign.ensures) c.in_ok-value.ensures
