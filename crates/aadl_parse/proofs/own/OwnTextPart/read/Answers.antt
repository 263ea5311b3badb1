use Rattle.std.proofs.Common.{refl, [], ◌∷◌, ◌++◌, codes, sym}
use Rattle.aadl_tree.specs.declared.mark.Mark.TheVariants as mark
use Rattle.aadl_parse.specs.Laws.{without-none}
use Rattle.aadl_parse.specs.Parts.{an_association}
use Rattle.aadl_parse.specs.Starts.{a_mark, each_before}
use Rattle.aadl_parse.specs.Terminals.{name_shapes}
use Rattle.aadl_parse.proofs.Steps.{opening, then, and_then, halt, final, final_halt}
use Rattle.aadl_parse.proofs.own.OwnTextPart.read.Goals as goal

pub returns-in_err-sign : goal.returns-in_err-sign
returns-in_err-sign c = halt _ [] (each_before an_association (a_mark mark.CloseBrace)) refl opening _ _ _ c.from_residual.ensures.1 c.in_err-sign.ensures

pub returns-in_err-associations : goal.returns-in_err-associations
returns-in_err-associations c = halt _ name_shapes (a_mark mark.CloseBrace) refl (and_then opening c.in_ok-sign.ensures) _ _ _ c.from_residual-in_err-associations.ensures.1 c.in_err-associations.ensures

pub returns-in_err-sign-2 : goal.returns-in_err-sign-2
returns-in_err-sign-2 c = final_halt (λ m f. without-none m) (then name_shapes (a_mark mark.CloseBrace) refl (and_then opening c.in_ok-sign.ensures) c.in_ok-associations.ensures) _ _ _ c.from_residual-in_err-sign-2.ensures.1 c.in_err-sign-2.ensures

pub returns : goal.returns
returns c = final (λ m f. without-none m) (then name_shapes (a_mark mark.CloseBrace) refl (and_then opening c.in_ok-sign.ensures) c.in_ok-associations.ensures) c.in_ok-sign-2.ensures
