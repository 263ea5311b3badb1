use Rattle.std.proofs.Common.{refl, [], ◌∷◌, ◌++◌, codes, sym}
use Rattle.aadl_tree.specs.declared.mark.Mark.TheVariants as mark
use Rattle.aadl_tree.specs.declared.word.Word.TheVariants as word
use Rattle.aadl_parse.specs.Laws.{without-none}
use Rattle.aadl_parse.specs.Parts.{an_ending, a_tip}
use Rattle.aadl_parse.specs.Starts.{a_word, a_mark, before}
use Rattle.aadl_parse.proofs.Steps.{opening, then, and_then, halt, final, final_halt}
use Rattle.aadl_parse.proofs.connections.ConnectionTextPart.read.Goals as goal

pub returns-in_err-name : goal.returns-in_err-name
returns-in_err-name c = halt _ [] (before (a_mark mark.Colon) (before (a_word word.Port) (before a_tip (before (a_mark mark.Arrow) (before a_tip an_ending))))) refl opening _ _ _ c.from_residual.ensures.1 c.in_err-name.ensures

pub returns-in_err-sign : goal.returns-in_err-sign
returns-in_err-sign c = halt _ [] (before (a_word word.Port) (before a_tip (before (a_mark mark.Arrow) (before a_tip an_ending)))) refl (and_then opening c.in_ok-name.ensures) _ _ _ c.from_residual-in_err-sign.ensures.1 c.in_err-sign.ensures

pub returns-in_err-keyword : goal.returns-in_err-keyword
returns-in_err-keyword c = halt _ [] (before a_tip (before (a_mark mark.Arrow) (before a_tip an_ending))) refl (and_then (and_then opening c.in_ok-name.ensures) c.in_ok-sign.ensures) _ _ _ c.from_residual-in_err-keyword.ensures.1 c.in_err-keyword.ensures

pub returns-in_err-from : goal.returns-in_err-from
returns-in_err-from c = halt _ (codes "." ∷ []) (before (a_mark mark.Arrow) (before a_tip an_ending)) refl (and_then (and_then (and_then opening c.in_ok-name.ensures) c.in_ok-sign.ensures) c.in_ok-keyword.ensures) _ _ _ c.from_residual-in_err-from.ensures.1 c.in_err-from.ensures

pub returns-in_err-sign-2 : goal.returns-in_err-sign-2
returns-in_err-sign-2 c = halt _ [] (before a_tip an_ending) refl (then (codes "." ∷ []) (before (a_mark mark.Arrow) (before a_tip an_ending)) refl (and_then (and_then (and_then opening c.in_ok-name.ensures) c.in_ok-sign.ensures) c.in_ok-keyword.ensures) c.in_ok-from.ensures) _ _ _ c.from_residual-in_err-sign-2.ensures.1 c.in_err-sign-2.ensures

pub returns-in_err-to : goal.returns-in_err-to
returns-in_err-to c = halt _ (codes "." ∷ []) an_ending refl (and_then (then (codes "." ∷ []) (before (a_mark mark.Arrow) (before a_tip an_ending)) refl (and_then (and_then (and_then opening c.in_ok-name.ensures) c.in_ok-sign.ensures) c.in_ok-keyword.ensures) c.in_ok-from.ensures) c.in_ok-sign-2.ensures) _ _ _ c.from_residual-in_err-to.ensures.1 c.in_err-to.ensures

pub returns-in_err-own : goal.returns-in_err-own
returns-in_err-own c = final_halt (λ m f. without-none m) (then (codes "." ∷ []) an_ending refl (and_then (then (codes "." ∷ []) (before (a_mark mark.Arrow) (before a_tip an_ending)) refl (and_then (and_then (and_then opening c.in_ok-name.ensures) c.in_ok-sign.ensures) c.in_ok-keyword.ensures) c.in_ok-from.ensures) c.in_ok-sign-2.ensures) c.in_ok-to.ensures) _ _ _ c.from_residual-in_err-own.ensures.1 c.in_err-own.ensures

pub returns : goal.returns
returns c = final (λ m f. without-none m) (then (codes "." ∷ []) an_ending refl (and_then (then (codes "." ∷ []) (before (a_mark mark.Arrow) (before a_tip an_ending)) refl (and_then (and_then (and_then opening c.in_ok-name.ensures) c.in_ok-sign.ensures) c.in_ok-keyword.ensures) c.in_ok-from.ensures) c.in_ok-sign-2.ensures) c.in_ok-to.ensures) c.in_ok-own.ensures
