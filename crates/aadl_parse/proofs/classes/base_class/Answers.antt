use Rattle.std.proofs.Common.{refl, [], ◌∷◌, ◌++◌, codes, sym}
use Rattle.aadl_tree.specs.declared.mark.Mark.TheVariants as mark
use Rattle.aadl_parse.specs.Laws.{without-none}
use Rattle.aadl_parse.specs.Parts.{a_base_name}
use Rattle.aadl_parse.specs.Starts.{a_mark, before}
use Rattle.aadl_parse.proofs.Steps.{opening, and_then, halt, final, final_halt}
use Rattle.aadl_parse.proofs.classes.base_class.Goals as goal

pub returns-in_err-place : goal.returns-in_err-place
returns-in_err-place c = halt _ [] (before (a_mark mark.DoubleColon) a_base_name) refl opening _ _ _ c.from_residual.ensures.1 c.in_err-place.ensures

pub returns-in_err-sign : goal.returns-in_err-sign
returns-in_err-sign c = halt _ [] a_base_name refl (and_then opening c.in_ok-place.ensures) _ _ _ c.from_residual-in_err-sign.ensures.1 c.in_err-sign.ensures

pub returns-in_err-base : goal.returns-in_err-base
returns-in_err-base c = final_halt (λ m f. without-none m) (and_then (and_then opening c.in_ok-place.ensures) c.in_ok-sign.ensures) _ _ _ c.from_residual-in_err-base.ensures.1 c.in_err-base.ensures

pub returns : goal.returns
returns c = final (λ m f. without-none m) (and_then (and_then opening c.in_ok-place.ensures) c.in_ok-sign.ensures) c.in_ok-base.ensures
