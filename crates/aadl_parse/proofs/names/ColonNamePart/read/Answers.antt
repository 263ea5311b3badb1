use Rattle.std.proofs.Common.{refl, [], ◌∷◌, ◌++◌, codes, sym}
use Rattle.aadl_parse.specs.Laws.{without-none}
use Rattle.aadl_parse.specs.Parts.{a_bare_name}
use Rattle.aadl_parse.specs.Starts.{}
use Rattle.aadl_parse.proofs.Steps.{opening, and_then, halt, final, final_halt}
use Rattle.aadl_parse.proofs.names.ColonNamePart.read.Goals as goal

pub returns-in_err-sign : goal.returns-in_err-sign
returns-in_err-sign c = halt _ [] a_bare_name refl opening _ _ _ c.from_residual.ensures.1 c.in_err-sign.ensures

pub returns-in_err-name : goal.returns-in_err-name
returns-in_err-name c = final_halt (λ m f. without-none m) (and_then opening c.in_ok-sign.ensures) _ _ _ c.from_residual-in_err-name.ensures.1 c.in_err-name.ensures

pub returns : goal.returns
returns c = final (λ m f. without-none m) (and_then opening c.in_ok-sign.ensures) c.in_ok-name.ensures
