use Rattle.std.proofs.Common.{◌≡◌, List, [], ◌∷◌, ◌++◌, ap, sym, refl, ◌∙◌}
use Rattle.std.specs.List.{flat_map}
use Rattle.aadl_tree.specs.declared.mark.Mark.TheVariants as mark
use Rattle.aadl_tree.specs.Sheet.{Sheet}
use Rattle.aadl_tree.specs.declared.token.Token.{Token}
use Rattle.aadl_tree.specs.declared.token.Token.TheVariants as token
use Rattle.aadl_tree.specs.declared.value.PropertyValue.{PropertyValue}
use Rattle.aadl_tree.specs.declared.value.RecordField.{RecordField}
use Rattle.aadl_tree.specs.Canonical.{behind_comma}
use Rattle.aadl_tree.specs.Layout.{written}
use Rattle.aadl_tree.specs.Values.{separated, value_tokens, field_tokens}
use Rattle.aadl_tree.proofs.Writing.{each_step, on_ok, bracketed, first_and_others}
use Rattle.aadl_tree.proofs.ValueLemmas.{value_tokens-List, value_tokens-Record, field_tokens-of}
use Rattle.aadl_tree.proofs.+printer.Goals as goal

pub print_values::print_fields-loop-field-preserved : goal.print_values::print_fields-loop-field-preserved
print_values::print_fields-loop-field-preserved t c =
    each_step field_tokens c.args.fields.now c.loop-field.field-index c.field-item.result c.loop-field.page c.print.new.page
    (written c.args.page.now (flat_map field_tokens c.args.fields.now)) c.loop-field-test.true c.field-item.is c.in_ok-print.ensures c.loop-field.invariant

pub print_values::print_separated-loop-value-preserved : goal.print_values::print_separated-loop-value-preserved
print_values::print_separated-loop-value-preserved t c =
    let v = c.value-item.result in
    let others = c.in-Some.others.now in
    each_step (behind_comma value_tokens) others c.loop-value.value-index v c.loop-value.page c.print-in-loop-value.new.page
    (written c.print.new.page (flat_map (behind_comma value_tokens) others)) c.loop-value-test.true c.value-item.is
    (c.in_ok-print-2.ensures ∙ ap (λ (p : Sheet). written p (value_tokens v)) c.in_ok-mark.ensures) c.loop-value.invariant

pub print_values::print_separated-returns : goal.print_values::print_separated-returns
print_values::print_separated-returns t c =
    first_and_others value_tokens (behind_comma value_tokens) c.in-Some.others.now c.in-Some.first.now c.args.page.now c.print.new.page c.loop-value.page
    c.loop-value.value-index (separated value_tokens c.args.values.now) (ap (separated value_tokens) c.in-Some.ensures.cases.0) c.in_ok-print.ensures
    c.loop-value-test.false c.loop-value.invariant

pub value::PropertyValue::print-returns-in_ok-print_separated-in-List : goal.value::PropertyValue::print-returns-in_ok-print_separated-in-List
value::PropertyValue::print-returns-in_ok-print_separated-in-List t c =
    bracketed c.mark-in-List.result c.args.page.now c.mark.new.self c.print_separated.new.page c.mark-in-List.new.self (token.Mark mark.OpenParenthesis)
    (token.Mark mark.CloseParenthesis) (separated value_tokens c.in-List.values) (value_tokens c.args.self.now)
    (ap value_tokens c.in-List.is ∙ value_tokens-List c.in-List.values) c.in_ok-mark-in-List.ensures
    (c.in_ok-print_separated-in-List.ensures ∙ ap (λ (vs : List PropertyValue). written c.mark.new.self (separated value_tokens vs)) c.rows.ensures)
    c.mark-in-List.ensures

pub value::PropertyValue::print-returns-in_ok-print_fields-in-Record : goal.value::PropertyValue::print-returns-in_ok-print_fields-in-Record
value::PropertyValue::print-returns-in_ok-print_fields-in-Record t c =
    bracketed c.mark-in-Record-2.result c.args.page.now c.mark-in-Record.new.self c.print_fields.new.page c.mark-in-Record-2.new.self (token.Mark mark.OpenBracket)
    (token.Mark mark.CloseBracket) (flat_map field_tokens c.in-Record.fields) (value_tokens c.args.self.now)
    (ap value_tokens c.in-Record.is ∙ value_tokens-Record c.in-Record.fields) c.in_ok-mark-in-Record.ensures
    (c.in_ok-print_fields-in-Record.ensures ∙ ap (λ (fs : List RecordField). written c.mark-in-Record.new.self (flat_map field_tokens fs)) c.rows-in-Record.ensures)
    c.mark-in-Record-2.ensures

pub value::RecordField::print-returns : goal.value::RecordField::print-returns
value::RecordField::print-returns t c =
    let f = c.args.self.now in
    let rest : List Token = token.Mark mark.Association ∷ value_tokens f.value ++ token.Mark mark.Semicolon ∷ [] in
    let here = bracketed c.mark-2.result c.name.new.self c.mark.new.self c.print.new.page c.mark-2.new.self (token.Mark mark.Association)
    (token.Mark mark.Semicolon) (value_tokens f.value) rest refl c.in_ok-mark.ensures c.in_ok-print.ensures c.mark-2.ensures in
    on_ok c.mark-2.result (c.mark-2.new.self ≡ written c.name.new.self rest) (c.mark-2.new.self ≡ written c.args.page.now (field_tokens f))
    (λ e. e ∙ ap (λ (p : Sheet). written p rest) c.in_ok-name.ensures ∙ ap (λ (ts : List Token). written c.args.page.now ts) (sym (field_tokens-of f))) here
