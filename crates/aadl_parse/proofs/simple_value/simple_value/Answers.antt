use Rattle.std.proofs.Common.{refl, sym, ◌∙◌}
use Rattle.aadl_parse.specs.Laws.{without-none, without-left, without-right}
use Rattle.aadl_parse.specs.SimpleValue.{range_goes_on, naming_goes_on}
use Rattle.aadl_parse.specs.ValueParts.{a_range, a_quoting, a_text, a_telling, a_truth, a_naming, a_name_value, a_referring, a_classifier, a_reference}
use Rattle.aadl_parse.proofs.Steps.{opening, opened, first_case, second_case, final, final_halt}
use Rattle.aadl_parse.proofs.simple_value.simple_value.Goals as goal

pub returns-in_err-range : goal.returns-in_err-range
returns-in_err-range c = final_halt (λ m f. without-left range_goes_on naming_goes_on m f) (first_case a_range opening a_quoting refl (sym c.quantity_stands.ensures ∙ c.if-quantity_stands.true)) _ _ _ c.from_residual.ensures.1 c.in_err-range.ensures

pub returns-then-quantity_stands : goal.returns-then-quantity_stands
returns-then-quantity_stands c = final (λ m f. without-left range_goes_on naming_goes_on m f) (first_case a_range opening a_quoting refl (sym c.quantity_stands.ensures ∙ c.if-quantity_stands.true)) c.in_ok-range.ensures

pub returns-in_err-text : goal.returns-in_err-text
returns-in_err-text c = final_halt (λ m f. without-none m) (first_case a_text (opened (second_case a_range opening (sym c.quantity_stands.ensures ∙ c.if-quantity_stands.false))) a_telling refl (sym c.stands.ensures ∙ c.if-stands.true)) _ _ _ c.from_residual-in_err-text.ensures.1 c.in_err-text.ensures

pub returns-then-stands : goal.returns-then-stands
returns-then-stands c = final (λ m f. without-none m) (first_case a_text (opened (second_case a_range opening (sym c.quantity_stands.ensures ∙ c.if-quantity_stands.false))) a_telling refl (sym c.stands.ensures ∙ c.if-stands.true)) c.in_ok-text.ensures

pub returns-in_err-truth : goal.returns-in_err-truth
returns-in_err-truth c = final_halt (λ m f. without-none m) (opened (first_case a_truth (opened (second_case a_text (opened (second_case a_range opening (sym c.quantity_stands.ensures ∙ c.if-quantity_stands.false))) (sym c.stands.ensures ∙ c.if-stands.false))) a_naming refl (sym c.stands-2.ensures ∙ c.if-stands-2.true))) _ _ _ c.from_residual-in_err-truth.ensures.1 c.in_err-truth.ensures

pub returns-then-stands-2 : goal.returns-then-stands-2
returns-then-stands-2 c = final (λ m f. without-none m) (opened (first_case a_truth (opened (second_case a_text (opened (second_case a_range opening (sym c.quantity_stands.ensures ∙ c.if-quantity_stands.false))) (sym c.stands.ensures ∙ c.if-stands.false))) a_naming refl (sym c.stands-2.ensures ∙ c.if-stands-2.true))) c.in_ok-truth.ensures

pub returns-in_err-name : goal.returns-in_err-name
returns-in_err-name c = final_halt (λ m f. without-right range_goes_on naming_goes_on m f) (opened (first_case a_name_value (opened (second_case a_truth (opened (second_case a_text (opened (second_case a_range opening (sym c.quantity_stands.ensures ∙ c.if-quantity_stands.false))) (sym c.stands.ensures ∙ c.if-stands.false))) (sym c.stands-2.ensures ∙ c.if-stands-2.false))) a_referring refl (sym c.stands-3.ensures ∙ c.if-stands-3.true))) _ _ _ c.from_residual-in_err-name.ensures.1 c.in_err-name.ensures

pub returns-then-stands-3 : goal.returns-then-stands-3
returns-then-stands-3 c = final (λ m f. without-right range_goes_on naming_goes_on m f) (opened (first_case a_name_value (opened (second_case a_truth (opened (second_case a_text (opened (second_case a_range opening (sym c.quantity_stands.ensures ∙ c.if-quantity_stands.false))) (sym c.stands.ensures ∙ c.if-stands.false))) (sym c.stands-2.ensures ∙ c.if-stands-2.false))) a_referring refl (sym c.stands-3.ensures ∙ c.if-stands-3.true))) c.in_ok-name.ensures

pub returns-in_err-classifier : goal.returns-in_err-classifier
returns-in_err-classifier c = final_halt (λ m f. without-none m) (first_case a_classifier (opened (second_case a_name_value (opened (second_case a_truth (opened (second_case a_text (opened (second_case a_range opening (sym c.quantity_stands.ensures ∙ c.if-quantity_stands.false))) (sym c.stands.ensures ∙ c.if-stands.false))) (sym c.stands-2.ensures ∙ c.if-stands-2.false))) (sym c.stands-3.ensures ∙ c.if-stands-3.false))) a_reference refl (sym c.stands_word.ensures ∙ c.if-stands_word.true)) _ _ _ c.from_residual-in_err-classifier.ensures.1 c.in_err-classifier.ensures

pub returns-then-stands_word : goal.returns-then-stands_word
returns-then-stands_word c = final (λ m f. without-none m) (first_case a_classifier (opened (second_case a_name_value (opened (second_case a_truth (opened (second_case a_text (opened (second_case a_range opening (sym c.quantity_stands.ensures ∙ c.if-quantity_stands.false))) (sym c.stands.ensures ∙ c.if-stands.false))) (sym c.stands-2.ensures ∙ c.if-stands-2.false))) (sym c.stands-3.ensures ∙ c.if-stands-3.false))) a_reference refl (sym c.stands_word.ensures ∙ c.if-stands_word.true)) c.in_ok-classifier.ensures

pub returns-in_err-reference : goal.returns-in_err-reference
returns-in_err-reference c = final_halt (λ m f. without-none m) (second_case a_classifier (opened (second_case a_name_value (opened (second_case a_truth (opened (second_case a_text (opened (second_case a_range opening (sym c.quantity_stands.ensures ∙ c.if-quantity_stands.false))) (sym c.stands.ensures ∙ c.if-stands.false))) (sym c.stands-2.ensures ∙ c.if-stands-2.false))) (sym c.stands-3.ensures ∙ c.if-stands-3.false))) (sym c.stands_word.ensures ∙ c.if-stands_word.false)) _ _ _ c.from_residual-in_err-reference.ensures.1 c.in_err-reference.ensures

pub returns : goal.returns
returns c = final (λ m f. without-none m) (second_case a_classifier (opened (second_case a_name_value (opened (second_case a_truth (opened (second_case a_text (opened (second_case a_range opening (sym c.quantity_stands.ensures ∙ c.if-quantity_stands.false))) (sym c.stands.ensures ∙ c.if-stands.false))) (sym c.stands-2.ensures ∙ c.if-stands-2.false))) (sym c.stands-3.ensures ∙ c.if-stands-3.false))) (sym c.stands_word.ensures ∙ c.if-stands_word.false)) c.in_ok-reference.ensures
