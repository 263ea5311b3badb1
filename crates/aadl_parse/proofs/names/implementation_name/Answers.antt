use Rattle.std.proofs.Common.{refl, [], ◌∷◌, ◌++◌, codes, sym}
use Rattle.aadl_parse.specs.Laws.{without-none}
use Rattle.aadl_parse.specs.Parts.{a_dotted}
use Rattle.aadl_parse.specs.Starts.{}
use Rattle.aadl_parse.proofs.Steps.{opening, and_then, halt, final, final_halt}
use Rattle.aadl_parse.proofs.names.implementation_name.Goals as goal

pub returns-in_err-component_type : goal.returns-in_err-component_type
returns-in_err-component_type c = halt _ [] a_dotted refl opening _ _ _ c.from_residual.ensures.1 c.in_err-component_type.ensures

pub returns-in_err-name : goal.returns-in_err-name
returns-in_err-name c = final_halt (λ m f. without-none m) (and_then opening c.in_ok-component_type.ensures) _ _ _ c.from_residual-in_err-name.ensures.1 c.in_err-name.ensures

pub returns : goal.returns
returns c = final (λ m f. without-none m) (and_then opening c.in_ok-component_type.ensures) c.in_ok-name.ensures
