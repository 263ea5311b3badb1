use Rattle.std.proofs.Common.{refl, sym, ◌∙◌}
use Rattle.aadl_parse.specs.Laws.{without-none}
use Rattle.aadl_parse.specs.Parts.{a_base_class, a_model_class}
use Rattle.aadl_parse.proofs.Steps.{opening, first_case, second_case, final, final_halt}
use Rattle.aadl_parse.proofs.classes.class.Goals as goal

pub returns-in_err-base : goal.returns-in_err-base
returns-in_err-base c = final_halt (λ m f. without-none m) (first_case a_base_class opening a_model_class refl (sym c.stands.ensures ∙ c.if-stands.true)) _ _ _ c.from_residual.ensures.1 c.in_err-base.ensures

pub returns-then-stands : goal.returns-then-stands
returns-then-stands c = final (λ m f. without-none m) (first_case a_base_class opening a_model_class refl (sym c.stands.ensures ∙ c.if-stands.true)) c.in_ok-base.ensures

pub returns-in_err-model : goal.returns-in_err-model
returns-in_err-model c = final_halt (λ m f. f) (second_case a_base_class opening (sym c.stands.ensures ∙ c.if-stands.false)) _ _ _ c.from_residual-in_err-model.ensures.1 c.in_err-model.ensures

pub returns : goal.returns
returns c = final (λ m f. f) (second_case a_base_class opening (sym c.stands.ensures ∙ c.if-stands.false)) c.in_ok-model.ensures
