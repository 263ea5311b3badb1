use Rattle.std.proofs.Common.{refl, [], ◌∷◌, ◌++◌, codes, sym}
use Rattle.aadl_tree.specs.declared.mark.Mark.TheVariants as mark
use Rattle.aadl_parse.specs.Laws.{without-none}
use Rattle.aadl_parse.specs.Starts.{a_mark}
use Rattle.aadl_parse.proofs.Steps.{opening, then, halt, final, final_halt}
use Rattle.aadl_parse.proofs.own.ending.Goals as goal

pub returns-in_err-own : goal.returns-in_err-own
returns-in_err-own c = halt _ (codes "{" ∷ []) (a_mark mark.Semicolon) refl opening _ _ _ c.from_residual.ensures.1 c.in_err-own.ensures

pub returns-in_err-sign : goal.returns-in_err-sign
returns-in_err-sign c = final_halt (λ m f. without-none m) (then (codes "{" ∷ []) (a_mark mark.Semicolon) refl opening c.in_ok-own.ensures) _ _ _ c.from_residual-in_err-sign.ensures.1 c.in_err-sign.ensures

pub returns : goal.returns
returns c = final (λ m f. without-none m) (then (codes "{" ∷ []) (a_mark mark.Semicolon) refl opening c.in_ok-own.ensures) c.in_ok-sign.ensures
