use Rattle.std.proofs.Common.{refl, [], ◌∷◌, ◌++◌, codes, sym}
use Rattle.aadl_tree.specs.declared.mark.Mark.TheVariants as mark
use Rattle.aadl_tree.specs.declared.word.Word.TheVariants as word
use Rattle.aadl_parse.specs.Laws.{without-none}
use Rattle.aadl_parse.specs.Parts.{a_name, an_annex_body}
use Rattle.aadl_parse.specs.Starts.{a_mark, before}
use Rattle.aadl_parse.proofs.Steps.{opening, and_then, halt, final, final_halt}
use Rattle.aadl_parse.proofs.annex.AnnexesPart.read.Goals as goal

pub returns-in_err-keyword : goal.returns-in_err-keyword
returns-in_err-keyword c = halt _ [] (before a_name (before an_annex_body (a_mark mark.Semicolon))) refl opening _ _ _ c.from_residual.ensures.1 c.in_err-keyword.ensures

pub returns-in_err-name : goal.returns-in_err-name
returns-in_err-name c = halt _ [] (before an_annex_body (a_mark mark.Semicolon)) refl (and_then opening c.in_ok-keyword.ensures) _ _ _ c.from_residual-in_err-name.ensures.1 c.in_err-name.ensures

pub returns-in_err-body : goal.returns-in_err-body
returns-in_err-body c = halt _ [] (a_mark mark.Semicolon) refl (and_then (and_then opening c.in_ok-keyword.ensures) c.in_ok-name.ensures) _ _ _ c.from_residual-in_err-body.ensures.1 c.in_err-body.ensures

pub returns-in_err-sign : goal.returns-in_err-sign
returns-in_err-sign c = final_halt (λ m f. without-none m) (and_then (and_then (and_then opening c.in_ok-keyword.ensures) c.in_ok-name.ensures) c.in_ok-body.ensures) _ _ _ c.from_residual-in_err-sign.ensures.1 c.in_err-sign.ensures

pub returns : goal.returns
returns c = final (λ m f. without-none m) (and_then (and_then (and_then opening c.in_ok-keyword.ensures) c.in_ok-name.ensures) c.in_ok-body.ensures) c.in_ok-sign.ensures
