use Rattle.std.proofs.Common.{refl, [], ◌∷◌, ◌++◌, codes, sym}
use Rattle.aadl_tree.specs.declared.mark.Mark.TheVariants as mark
use Rattle.aadl_tree.specs.declared.word.Word.TheVariants as word
use Rattle.aadl_parse.specs.Laws.{without-none}
use Rattle.aadl_parse.specs.Parts.{behind_comma, a_qualified}
use Rattle.aadl_parse.specs.Starts.{a_mark, before, each_before}
use Rattle.aadl_parse.proofs.Steps.{opening, then, and_then, halt, final, final_halt}
use Rattle.aadl_parse.proofs.imports.ImportTextPart.read.Goals as goal

pub returns-in_err-keyword : goal.returns-in_err-keyword
returns-in_err-keyword c = halt _ [] (before a_qualified (each_before (behind_comma a_qualified) (a_mark mark.Semicolon))) refl opening _ _ _ c.from_residual.ensures.1 c.in_err-keyword.ensures

pub returns-in_err-first : goal.returns-in_err-first
returns-in_err-first c = halt _ (codes "::" ∷ []) (each_before (behind_comma a_qualified) (a_mark mark.Semicolon)) refl (and_then opening c.in_ok-keyword.ensures) _ _ _ c.from_residual-in_err-first.ensures.1 c.in_err-first.ensures

pub returns-in_err-others : goal.returns-in_err-others
returns-in_err-others c = halt _ (codes "," ∷ codes "::" ∷ []) (a_mark mark.Semicolon) refl (then (codes "::" ∷ []) (each_before (behind_comma a_qualified) (a_mark mark.Semicolon)) refl (and_then opening c.in_ok-keyword.ensures) c.in_ok-first.ensures) _ _ _ c.from_residual-in_err-others.ensures.1 c.in_err-others.ensures

pub returns-in_err-sign : goal.returns-in_err-sign
returns-in_err-sign c = final_halt (λ m f. without-none m) (then (codes "," ∷ codes "::" ∷ []) (a_mark mark.Semicolon) refl (then (codes "::" ∷ []) (each_before (behind_comma a_qualified) (a_mark mark.Semicolon)) refl (and_then opening c.in_ok-keyword.ensures) c.in_ok-first.ensures) c.in_ok-others.ensures) _ _ _ c.from_residual-in_err-sign.ensures.1 c.in_err-sign.ensures

pub returns : goal.returns
returns c = final (λ m f. without-none m) (then (codes "," ∷ codes "::" ∷ []) (a_mark mark.Semicolon) refl (then (codes "::" ∷ []) (each_before (behind_comma a_qualified) (a_mark mark.Semicolon)) refl (and_then opening c.in_ok-keyword.ensures) c.in_ok-first.ensures) c.in_ok-others.ensures) c.in_ok-sign.ensures
