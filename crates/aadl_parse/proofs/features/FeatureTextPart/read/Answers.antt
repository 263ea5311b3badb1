use Rattle.std.proofs.Common.{refl, [], ◌∷◌, ◌++◌, codes, sym}
use Rattle.aadl_tree.specs.declared.mark.Mark.TheVariants as mark
use Rattle.aadl_parse.specs.Laws.{without-none}
use Rattle.aadl_parse.specs.Parts.{a_direction, an_ending, a_kind}
use Rattle.aadl_parse.specs.Starts.{a_mark, before}
use Rattle.aadl_parse.specs.Parts.{class_goes_on}
use Rattle.aadl_parse.proofs.Steps.{opening, then, and_then, halt, final, final_halt}
use Rattle.aadl_parse.proofs.features.FeatureTextPart.read.Goals as goal

pub returns-in_err-name : goal.returns-in_err-name
returns-in_err-name c = halt _ [] (before (a_mark mark.Colon) (before a_direction (before a_kind an_ending))) refl opening _ _ _ c.from_residual.ensures.1 c.in_err-name.ensures

pub returns-in_err-sign : goal.returns-in_err-sign
returns-in_err-sign c = halt _ [] (before a_direction (before a_kind an_ending)) refl (and_then opening c.in_ok-name.ensures) _ _ _ c.from_residual-in_err-sign.ensures.1 c.in_err-sign.ensures

pub returns-in_err-direction : goal.returns-in_err-direction
returns-in_err-direction c = halt _ [] (before a_kind an_ending) refl (and_then (and_then opening c.in_ok-name.ensures) c.in_ok-sign.ensures) _ _ _ c.from_residual-in_err-direction.ensures.1 c.in_err-direction.ensures

pub returns-in_err-kind : goal.returns-in_err-kind
returns-in_err-kind c = halt _ class_goes_on an_ending refl (and_then (and_then (and_then opening c.in_ok-name.ensures) c.in_ok-sign.ensures) c.in_ok-direction.ensures) _ _ _ c.from_residual-in_err-kind.ensures.1 c.in_err-kind.ensures

pub returns-in_err-own : goal.returns-in_err-own
returns-in_err-own c = final_halt (λ m f. without-none m) (then class_goes_on an_ending refl (and_then (and_then (and_then opening c.in_ok-name.ensures) c.in_ok-sign.ensures) c.in_ok-direction.ensures) c.in_ok-kind.ensures) _ _ _ c.from_residual-in_err-own.ensures.1 c.in_err-own.ensures

pub returns : goal.returns
returns c = final (λ m f. without-none m) (then class_goes_on an_ending refl (and_then (and_then (and_then opening c.in_ok-name.ensures) c.in_ok-sign.ensures) c.in_ok-direction.ensures) c.in_ok-kind.ensures) c.in_ok-own.ensures
