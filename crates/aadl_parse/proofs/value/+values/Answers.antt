use Rattle.std.proofs.Common.{◌∙◌, sym, ap, subst, refl, arith, List, [], ◌∷◌, ◌++◌, codes}
use Rattle.hw_text.specs.Language.{Each}
use Rattle.hw_text.specs.Reading.{Reached}
use Rattle.hw_text.proofs.Reading.{failed}
use Rattle.aadl_tree.specs.declared.value.PropertyValue.{PropertyValue}
use Rattle.aadl_parse.specs.Shapes.{Without}
use Rattle.aadl_parse.specs.SimpleValue.{value_goes_on}
use Rattle.aadl_parse.specs.Terminals.{name_shapes}
use Rattle.aadl_parse.specs.ValueText.{SpellsNext, SpellsEach, SpellsField}
use Rattle.aadl_parse.proofs.Repeats.{members-read, members-stuck, members-more, read-shorter, unchanged-read, unchanged-stuck}
use Rattle.aadl_parse.proofs.ValueReads.{F, Members, Fields, simple-reads, list-first-stuck, list-second-stuck, list-third-stuck, list-read, set-first-stuck, set-second-stuck, set-third-stuck, set-read, members-absent, members-reads, first-value-stuck, first-reads, next-begun, next-first-stuck, next-second-stuck, next-read, field-begun, field-first-stuck, field-second-stuck, field-third-stuck, field-read}
use Rattle.aadl_parse.proofs.value.+values.Goals as goal

pub read_value-returns : goal.read_value-returns
read_value-returns t c = simple-reads _ (sym c.stands_mark.ensures ∙ c.if-stands_mark.false) (sym c.stands_mark-2.ensures ∙ c.if-stands_mark-2.false) _ _ c.simple_value.ensures

pub read_list-returns-in_err-sign : goal.read_list-returns-in_err-sign
read_list-returns-in_err-sign t c = failed _ _ _ _ _ _ _ _ _ c.from_residual.ensures.1 c.in_err-sign.ensures (list-first-stuck _ c.requires _)

pub read_list-returns-in_err-values : goal.read_list-returns-in_err-values
read_list-returns-in_err-values t c = failed _ _ _ _ _ _ _ _ _ c.from_residual-in_err-values.ensures.1 c.in_err-values.ensures (list-second-stuck _ c.requires _ _ c.in_ok-sign.ensures _)

pub read_list-returns-in_err-sign-2 : goal.read_list-returns-in_err-sign-2
read_list-returns-in_err-sign-2 t c = failed _ _ _ _ _ _ _ _ _ c.from_residual-in_err-sign-2.ensures.1 c.in_err-sign-2.ensures (list-third-stuck _ c.requires _ _ c.in_ok-sign.ensures _ _ c.in_ok-values.ensures _)

pub read_list-returns : goal.read_list-returns
read_list-returns t c = list-read _ c.requires _ _ c.in_ok-sign.ensures _ _ c.in_ok-values.ensures _ _ c.in_ok-sign-2.ensures

pub read_record-returns-in_err-sign : goal.read_record-returns-in_err-sign
read_record-returns-in_err-sign t c = failed _ _ _ _ _ _ _ _ _ c.from_residual.ensures.1 c.in_err-sign.ensures (set-first-stuck _ c.requires _)

pub read_record-returns-in_err-fields : goal.read_record-returns-in_err-fields
read_record-returns-in_err-fields t c = failed _ _ _ _ _ _ _ _ _ c.from_residual-in_err-fields.ensures.1 c.in_err-fields.ensures (set-second-stuck _ c.requires _ _ c.in_ok-sign.ensures _)

pub read_record-returns-in_err-sign-2 : goal.read_record-returns-in_err-sign-2
read_record-returns-in_err-sign-2 t c = failed _ _ _ _ _ _ _ _ _ c.from_residual-in_err-sign-2.ensures.1 c.in_err-sign-2.ensures (set-third-stuck _ c.requires _ _ c.in_ok-sign.ensures _ _ c.in_ok-fields.ensures _)

pub read_record-returns : goal.read_record-returns
read_record-returns t c = set-read _ c.requires _ _ c.in_ok-sign.ensures _ _ c.in_ok-fields.ensures _ _ c.in_ok-sign-2.ensures

pub read_members-returns-then-not-value_stands : goal.read_members-returns-then-not-value_stands
read_members-returns-then-not-value_stands t c = subst (λ (l : List PropertyValue). Reached SpellsEach Members c.args.tokens.now c.args.tokens.now l) (sym c.new.ensures) (members-absent _ (sym c.value_stands.ensures ∙ c.if-not-value_stands.true))

pub read_members-returns : goal.read_members-returns
read_members-returns t c = members-reads _ (sym c.value_stands.ensures ∙ c.if-not-value_stands.false) _ _ c.read_first.ensures

pub read_first-returns-in_err-first : goal.read_first-returns-in_err-first
read_first-returns-in_err-first t c = failed _ _ _ _ _ _ _ _ _ c.from_residual.ensures.1 c.in_err-first.ensures (first-value-stuck _ _)

pub read_first-returns : goal.read_first-returns
read_first-returns t c = first-reads _ _ _ c.in_ok-first.ensures _ (c.in_ok-push.ensures.ok ∙ ap (λ (l : List PropertyValue). l ++ c.in_ok-first.first ∷ []) c.new-values.ensures) _ _ c.read_others.ensures

pub read_others-returns-in_err-value : goal.read_others-returns-in_err-value
read_others-returns-in_err-value t c = failed _ _ _ _ _ _ _ _ _ c.from_residual.ensures.1 c.in_err-value.ensures (members-stuck SpellsNext (codes "," ∷ []) value_goes_on next-begun c.args.earlier _ _ c.members.values c.members.invariant.0 refl (sym c.stands_mark.ensures ∙ c.members-test.true) _)

pub read_others-members-preserved : goal.read_others-members-preserved
read_others-members-preserved t c = (members-more SpellsNext (codes "," ∷ []) value_goes_on next-begun c.args.earlier _ _ c.members.values c.members.invariant.0 refl (sym c.stands_mark.ensures ∙ c.members-test.true) _ _ _ c.in_ok-push.ensures.ok c.in_ok-value.ensures, omega (arith, c.members.invariant.1, read-shorter SpellsNext (codes "," ∷ []) value_goes_on next-begun F _ _ _ c.in_ok-value.ensures))

pub read_others-returns : goal.read_others-returns
read_others-returns t c = members-read SpellsNext (codes "," ∷ []) value_goes_on next-begun c.args.earlier _ _ c.members.values c.members.invariant.0 (sym c.stands_mark.ensures ∙ c.members-test.false)

pub read_next-returns-in_err-sign : goal.read_next-returns-in_err-sign
read_next-returns-in_err-sign t c = failed _ _ _ _ _ _ _ _ _ c.from_residual.ensures.1 c.in_err-sign.ensures (next-first-stuck _ _)

pub read_next-returns-in_err-value : goal.read_next-returns-in_err-value
read_next-returns-in_err-value t c = failed _ _ _ _ _ _ _ _ _ c.from_residual-in_err-value.ensures.1 c.in_err-value.ensures (next-second-stuck _ _ _ c.in_ok-sign.ensures _)

pub read_next-returns : goal.read_next-returns
read_next-returns t c = next-read _ _ _ c.in_ok-sign.ensures _ _ c.in_ok-value.ensures

pub read_fields-returns-in_err-field : goal.read_fields-returns-in_err-field
read_fields-returns-in_err-field t c = failed _ _ _ _ _ _ _ _ _ c.from_residual.ensures.1 c.in_err-field.ensures (λ part. unchanged-stuck (Each SpellsField) Fields _ _ (members-stuck SpellsField name_shapes [] field-begun [] _ _ c.members.fields c.members.invariant.0 refl (sym c.stands.ensures ∙ c.members-test.true) _ part))

pub read_fields-members-preserved : goal.read_fields-members-preserved
read_fields-members-preserved t c = (members-more SpellsField name_shapes [] field-begun [] _ _ c.members.fields c.members.invariant.0 refl (sym c.stands.ensures ∙ c.members-test.true) _ _ _ c.in_ok-push.ensures.ok c.in_ok-field.ensures, omega (arith, c.members.invariant.1, read-shorter SpellsField name_shapes [] field-begun (Without []) _ _ _ c.in_ok-field.ensures))

pub read_fields-returns : goal.read_fields-returns
read_fields-returns t c = unchanged-read (Each SpellsField) Fields _ _ _ (members-read SpellsField name_shapes [] field-begun [] _ _ c.members.fields c.members.invariant.0 (sym c.stands.ensures ∙ c.members-test.false))

pub read_field-returns-in_err-name : goal.read_field-returns-in_err-name
read_field-returns-in_err-name t c = failed _ _ _ _ _ _ _ _ _ c.from_residual.ensures.1 c.in_err-name.ensures (field-first-stuck _ _)

pub read_field-returns-in_err-value : goal.read_field-returns-in_err-value
read_field-returns-in_err-value t c = failed _ _ _ _ _ _ _ _ _ c.from_residual-in_err-value.ensures.1 c.in_err-value.ensures (field-second-stuck _ _ _ c.in_ok-name.ensures _)

pub read_field-returns-in_err-sign : goal.read_field-returns-in_err-sign
read_field-returns-in_err-sign t c = failed _ _ _ _ _ _ _ _ _ c.from_residual-in_err-sign.ensures.1 c.in_err-sign.ensures (field-third-stuck _ _ _ c.in_ok-name.ensures _ _ c.in_ok-value.ensures _)

pub read_field-returns : goal.read_field-returns
read_field-returns t c = field-read _ _ _ c.in_ok-name.ensures _ _ c.in_ok-value.ensures _ _ c.in_ok-sign.ensures
