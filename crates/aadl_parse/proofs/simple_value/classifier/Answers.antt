use Rattle.std.proofs.Common.{refl, [], ◌∷◌, ◌++◌, codes, sym}
use Rattle.aadl_tree.specs.declared.mark.Mark.TheVariants as mark
use Rattle.aadl_tree.specs.declared.word.Word.TheVariants as word
use Rattle.aadl_parse.specs.Laws.{without-none}
use Rattle.aadl_parse.specs.Parts.{a_class}
use Rattle.aadl_parse.specs.Starts.{a_mark, before}
use Rattle.aadl_parse.specs.Parts.{class_goes_on}
use Rattle.aadl_parse.proofs.Steps.{opening, then, and_then, halt, final, final_halt}
use Rattle.aadl_parse.proofs.simple_value.classifier.Goals as goal

pub returns-in_err-keyword : goal.returns-in_err-keyword
returns-in_err-keyword c = halt _ [] (before (a_mark mark.OpenParenthesis) (before a_class (a_mark mark.CloseParenthesis))) refl opening _ _ _ c.from_residual.ensures.1 c.in_err-keyword.ensures

pub returns-in_err-sign : goal.returns-in_err-sign
returns-in_err-sign c = halt _ [] (before a_class (a_mark mark.CloseParenthesis)) refl (and_then opening c.in_ok-keyword.ensures) _ _ _ c.from_residual-in_err-sign.ensures.1 c.in_err-sign.ensures

pub returns-in_err-class : goal.returns-in_err-class
returns-in_err-class c = halt _ class_goes_on (a_mark mark.CloseParenthesis) refl (and_then (and_then opening c.in_ok-keyword.ensures) c.in_ok-sign.ensures) _ _ _ c.from_residual-in_err-class.ensures.1 c.in_err-class.ensures

pub returns-in_err-sign-2 : goal.returns-in_err-sign-2
returns-in_err-sign-2 c = final_halt (λ m f. without-none m) (then class_goes_on (a_mark mark.CloseParenthesis) refl (and_then (and_then opening c.in_ok-keyword.ensures) c.in_ok-sign.ensures) c.in_ok-class.ensures) _ _ _ c.from_residual-in_err-sign-2.ensures.1 c.in_err-sign-2.ensures

pub returns : goal.returns
returns c = final (λ m f. without-none m) (then class_goes_on (a_mark mark.CloseParenthesis) refl (and_then (and_then opening c.in_ok-keyword.ensures) c.in_ok-sign.ensures) c.in_ok-class.ensures) c.in_ok-sign-2.ensures
