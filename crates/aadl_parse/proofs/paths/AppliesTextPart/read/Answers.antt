use Rattle.std.proofs.Common.{refl, [], ◌∷◌, ◌++◌, codes, sym}
use Rattle.aadl_tree.specs.declared.word.Word.TheVariants as word
use Rattle.aadl_parse.specs.Builds.{listed}
use Rattle.aadl_parse.specs.Parts.{a_path}
use Rattle.aadl_parse.specs.Starts.{a_word, before, before_each, made}
use Rattle.aadl_parse.proofs.Steps.{opening, and_then, halt, final, final_halt}
use Rattle.aadl_parse.proofs.paths.AppliesTextPart.read.Goals as goal

pub returns-in_err-keyword : goal.returns-in_err-keyword
returns-in_err-keyword c = halt _ [] (before (a_word word.To) (made listed (before_each a_path))) refl opening _ _ _ c.from_residual.ensures.1 c.in_err-keyword.ensures

pub returns-in_err-keyword-2 : goal.returns-in_err-keyword-2
returns-in_err-keyword-2 c = halt _ [] (made listed (before_each a_path)) refl (and_then opening c.in_ok-keyword.ensures) _ _ _ c.from_residual-in_err-keyword-2.ensures.1 c.in_err-keyword-2.ensures

pub returns-in_err-paths : goal.returns-in_err-paths
returns-in_err-paths c = final_halt (λ m f. f) (and_then (and_then opening c.in_ok-keyword.ensures) c.in_ok-keyword-2.ensures) _ _ _ c.from_residual-in_err-paths.ensures.1 c.in_err-paths.ensures

pub returns : goal.returns
returns c = final (λ m f. f) (and_then (and_then opening c.in_ok-keyword.ensures) c.in_ok-keyword-2.ensures) c.in_ok-paths.ensures
