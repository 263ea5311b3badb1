use Rattle.std.proofs.Common.{refl, [], ◌∷◌, ◌++◌, codes, sym}
use Rattle.aadl_tree.specs.declared.mark.Mark.TheVariants as mark
use Rattle.aadl_tree.specs.declared.word.Word.TheVariants as word
use Rattle.aadl_parse.specs.SimpleValue.{value_goes_on}
use Rattle.aadl_parse.specs.Laws.{without-none}
use Rattle.aadl_parse.specs.Parts.{an_operator, a_value, behind_comma, an_applies}
use Rattle.aadl_parse.specs.Starts.{a_word, a_mark, before, maybe_before, each_before}
use Rattle.aadl_parse.proofs.Steps.{opening, then, and_then, halt, final, final_halt}
use Rattle.aadl_parse.proofs.associations.AssociationTextPart.read.Goals as goal

pub returns-in_err-property : goal.returns-in_err-property
returns-in_err-property c = halt _ (codes "::" ∷ []) (before an_operator (maybe_before (a_word word.Constant) (before a_value (each_before (behind_comma a_value) (maybe_before an_applies (a_mark mark.Semicolon)))))) refl opening _ _ _ c.from_residual.ensures.1 c.in_err-property.ensures

pub returns-in_err-operator : goal.returns-in_err-operator
returns-in_err-operator c = halt _ [] (maybe_before (a_word word.Constant) (before a_value (each_before (behind_comma a_value) (maybe_before an_applies (a_mark mark.Semicolon))))) refl (then (codes "::" ∷ []) (before an_operator (maybe_before (a_word word.Constant) (before a_value (each_before (behind_comma a_value) (maybe_before an_applies (a_mark mark.Semicolon)))))) refl opening c.in_ok-property.ensures) _ _ _ c.from_residual-in_err-operator.ensures.1 c.in_err-operator.ensures

pub returns-in_err-constant : goal.returns-in_err-constant
returns-in_err-constant c = halt _ (codes "constant" ∷ []) (before a_value (each_before (behind_comma a_value) (maybe_before an_applies (a_mark mark.Semicolon)))) refl (and_then (then (codes "::" ∷ []) (before an_operator (maybe_before (a_word word.Constant) (before a_value (each_before (behind_comma a_value) (maybe_before an_applies (a_mark mark.Semicolon)))))) refl opening c.in_ok-property.ensures) c.in_ok-operator.ensures) _ _ _ c.from_residual-in_err-constant.ensures.1 c.in_err-constant.ensures

pub returns-in_err-first : goal.returns-in_err-first
returns-in_err-first c = halt _ value_goes_on (each_before (behind_comma a_value) (maybe_before an_applies (a_mark mark.Semicolon))) refl (then (codes "constant" ∷ []) (before a_value (each_before (behind_comma a_value) (maybe_before an_applies (a_mark mark.Semicolon)))) refl (and_then (then (codes "::" ∷ []) (before an_operator (maybe_before (a_word word.Constant) (before a_value (each_before (behind_comma a_value) (maybe_before an_applies (a_mark mark.Semicolon)))))) refl opening c.in_ok-property.ensures) c.in_ok-operator.ensures) c.in_ok-constant.ensures) _ _ _ c.from_residual-in_err-first.ensures.1 c.in_err-first.ensures

pub returns-in_err-others : goal.returns-in_err-others
returns-in_err-others c = halt _ (codes "," ∷ value_goes_on) (maybe_before an_applies (a_mark mark.Semicolon)) refl (then value_goes_on (each_before (behind_comma a_value) (maybe_before an_applies (a_mark mark.Semicolon))) refl (then (codes "constant" ∷ []) (before a_value (each_before (behind_comma a_value) (maybe_before an_applies (a_mark mark.Semicolon)))) refl (and_then (then (codes "::" ∷ []) (before an_operator (maybe_before (a_word word.Constant) (before a_value (each_before (behind_comma a_value) (maybe_before an_applies (a_mark mark.Semicolon)))))) refl opening c.in_ok-property.ensures) c.in_ok-operator.ensures) c.in_ok-constant.ensures) c.in_ok-first.ensures) _ _ _ c.from_residual-in_err-others.ensures.1 c.in_err-others.ensures

pub returns-in_err-paths : goal.returns-in_err-paths
returns-in_err-paths c = halt _ (codes "applies" ∷ codes "." ∷ codes "," ∷ codes "." ∷ []) (a_mark mark.Semicolon) refl (then (codes "," ∷ value_goes_on) (maybe_before an_applies (a_mark mark.Semicolon)) refl (then value_goes_on (each_before (behind_comma a_value) (maybe_before an_applies (a_mark mark.Semicolon))) refl (then (codes "constant" ∷ []) (before a_value (each_before (behind_comma a_value) (maybe_before an_applies (a_mark mark.Semicolon)))) refl (and_then (then (codes "::" ∷ []) (before an_operator (maybe_before (a_word word.Constant) (before a_value (each_before (behind_comma a_value) (maybe_before an_applies (a_mark mark.Semicolon)))))) refl opening c.in_ok-property.ensures) c.in_ok-operator.ensures) c.in_ok-constant.ensures) c.in_ok-first.ensures) c.in_ok-others.ensures) _ _ _ c.from_residual-in_err-paths.ensures.1 c.in_err-paths.ensures

pub returns-in_err-sign : goal.returns-in_err-sign
returns-in_err-sign c = final_halt (λ m f. without-none m) (then (codes "applies" ∷ codes "." ∷ codes "," ∷ codes "." ∷ []) (a_mark mark.Semicolon) refl (then (codes "," ∷ value_goes_on) (maybe_before an_applies (a_mark mark.Semicolon)) refl (then value_goes_on (each_before (behind_comma a_value) (maybe_before an_applies (a_mark mark.Semicolon))) refl (then (codes "constant" ∷ []) (before a_value (each_before (behind_comma a_value) (maybe_before an_applies (a_mark mark.Semicolon)))) refl (and_then (then (codes "::" ∷ []) (before an_operator (maybe_before (a_word word.Constant) (before a_value (each_before (behind_comma a_value) (maybe_before an_applies (a_mark mark.Semicolon)))))) refl opening c.in_ok-property.ensures) c.in_ok-operator.ensures) c.in_ok-constant.ensures) c.in_ok-first.ensures) c.in_ok-others.ensures) c.in_ok-paths.ensures) _ _ _ c.from_residual-in_err-sign.ensures.1 c.in_err-sign.ensures

pub returns : goal.returns
returns c = rw (c.or_none.ensures, c.is_some.ensures) (final (λ m f. without-none m) (then (codes "applies" ∷ codes "." ∷ codes "," ∷ codes "." ∷ []) (a_mark mark.Semicolon) refl (then (codes "," ∷ value_goes_on) (maybe_before an_applies (a_mark mark.Semicolon)) refl (then value_goes_on (each_before (behind_comma a_value) (maybe_before an_applies (a_mark mark.Semicolon))) refl (then (codes "constant" ∷ []) (before a_value (each_before (behind_comma a_value) (maybe_before an_applies (a_mark mark.Semicolon)))) refl (and_then (then (codes "::" ∷ []) (before an_operator (maybe_before (a_word word.Constant) (before a_value (each_before (behind_comma a_value) (maybe_before an_applies (a_mark mark.Semicolon)))))) refl opening c.in_ok-property.ensures) c.in_ok-operator.ensures) c.in_ok-constant.ensures) c.in_ok-first.ensures) c.in_ok-others.ensures) c.in_ok-paths.ensures) c.in_ok-sign.ensures)
