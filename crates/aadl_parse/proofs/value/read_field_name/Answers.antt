use Rattle.std.proofs.Common.{refl, [], ◌∷◌, ◌++◌, codes, sym}
use Rattle.aadl_tree.specs.declared.mark.Mark.TheVariants as mark
use Rattle.aadl_parse.specs.Laws.{without-none}
use Rattle.aadl_parse.specs.Starts.{a_mark}
use Rattle.aadl_parse.proofs.Steps.{opening, and_then, halt, final, final_halt}
use Rattle.aadl_parse.proofs.value.read_field_name.Goals as goal

pub returns-in_err-name : goal.returns-in_err-name
returns-in_err-name c = halt _ [] (a_mark mark.Association) refl opening _ _ _ c.from_residual.ensures.1 c.in_err-name.ensures

pub returns-in_err-sign : goal.returns-in_err-sign
returns-in_err-sign c = final_halt (λ m f. without-none m) (and_then opening c.in_ok-name.ensures) _ _ _ c.from_residual-in_err-sign.ensures.1 c.in_err-sign.ensures

pub returns : goal.returns
returns c = final (λ m f. without-none m) (and_then opening c.in_ok-name.ensures) c.in_ok-sign.ensures
