use Rattle.std.proofs.Common.{refl, [], ◌∷◌, ◌++◌, codes, sym}
use Rattle.aadl_tree.specs.declared.word.Word.TheVariants as word
use Rattle.aadl_parse.specs.Parts.{a_class}
use Rattle.aadl_parse.specs.Starts.{a_word, before}
use Rattle.aadl_parse.proofs.Steps.{opening, and_then, halt, final, final_halt}
use Rattle.aadl_parse.proofs.port_kinds.data_class.Goals as goal

pub returns-in_err-keyword : goal.returns-in_err-keyword
returns-in_err-keyword c = halt _ [] (before (a_word word.Port) a_class) refl opening _ _ _ c.from_residual.ensures.1 c.in_err-keyword.ensures

pub returns-in_err-keyword-2 : goal.returns-in_err-keyword-2
returns-in_err-keyword-2 c = halt _ [] a_class refl (and_then opening c.in_ok-keyword.ensures) _ _ _ c.from_residual-in_err-keyword-2.ensures.1 c.in_err-keyword-2.ensures

pub returns-in_err-class : goal.returns-in_err-class
returns-in_err-class c = final_halt (λ m f. f) (and_then (and_then opening c.in_ok-keyword.ensures) c.in_ok-keyword-2.ensures) _ _ _ c.from_residual-in_err-class.ensures.1 c.in_err-class.ensures

pub returns : goal.returns
returns c = final (λ m f. f) (and_then (and_then opening c.in_ok-keyword.ensures) c.in_ok-keyword-2.ensures) c.in_ok-class.ensures
