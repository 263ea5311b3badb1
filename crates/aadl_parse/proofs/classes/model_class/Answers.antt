use Rattle.std.proofs.Common.{refl, [], ◌∷◌, codes, None}
use Rattle.aadl_parse.specs.Parts.{a_dotted}
use Rattle.aadl_parse.proofs.Sequences.{maybe-follows, rest-ends}
use Rattle.aadl_parse.proofs.Steps.{opening, then_before, halt_before, final, final_halt}
use Rattle.aadl_parse.proofs.classes.model_class.Goals as goal

pub returns-in_err-names : goal.returns-in_err-names
returns-in_err-names c = halt_before _ (codes "::" ∷ []) (maybe-follows _ (codes "::" ∷ []) (codes "." ∷ []) [] refl a_dotted.begins) (None, [], refl) opening _ _ _ c.from_residual.ensures.1 c.in_err-names.ensures

pub returns-in_err-implementation : goal.returns-in_err-implementation
returns-in_err-implementation c = final_halt (rest-ends _ (codes "::" ∷ []) (codes "." ∷ []) [] refl a_dotted.begins) (then_before (codes "::" ∷ []) (maybe-follows _ (codes "::" ∷ []) (codes "." ∷ []) [] refl a_dotted.begins) opening c.in_ok-names.ensures) _ _ _ c.from_residual-in_err-implementation.ensures.1 c.in_err-implementation.ensures

pub returns : goal.returns
returns c = (final (rest-ends _ (codes "::" ∷ []) (codes "." ∷ []) [] refl a_dotted.begins) (then_before (codes "::" ∷ []) (maybe-follows _ (codes "::" ∷ []) (codes "." ∷ []) [] refl a_dotted.begins) opening c.in_ok-names.ensures) c.in_ok-implementation.ensures)
