-- Values without their places, one equation for each kind of value.
use Rattle.std.proofs.Common.{◌≡◌, ℕ, Bool, List, map, ap, sym, ◌∙◌}
use Rattle.aadl_tree.specs.declared.class.Class.{Class}
use Rattle.aadl_tree.specs.declared.names.Path.{Path}
use Rattle.aadl_tree.specs.declared.names.QualifiedName.{QualifiedName}
use Rattle.aadl_tree.specs.declared.value.PropertyValue.{PropertyValue}
use Rattle.aadl_tree.specs.declared.value.PropertyValue.TheFolds.{fold-roll-PropertyValue, fold_out-RecordField}
use Rattle.aadl_tree.specs.declared.value.PropertyValue.TheOpen as open_value
use Rattle.aadl_tree.specs.declared.value.PropertyValue.TheVariants as value
use Rattle.aadl_tree.specs.declared.value.Quantity.{Quantity}
use Rattle.aadl_tree.specs.declared.value.RecordField.{RecordField}
use Rattle.aadl_tree.specs.Unplaced.{unplaced_qualified, unplaced_path, unplaced_class, unplaced_step, unplaced_field_step, unplaced_value, unplaced_field}

pub unplaced_value-Quantity : (q : Quantity) → unplaced_value (value.Quantity q) ≡ value.Quantity q
unplaced_value-Quantity q = ap unplaced_value (sym (value.rolls-Quantity q)) ∙ fold-roll-PropertyValue PropertyValue RecordField unplaced_step unplaced_field_step (open_value.Quantity q)

pub unplaced_value-Range : (from to : Quantity) → unplaced_value (value.Range from to) ≡ value.Range from to
unplaced_value-Range from to = ap unplaced_value (sym (value.rolls-Range from to)) ∙ fold-roll-PropertyValue PropertyValue RecordField unplaced_step unplaced_field_step (open_value.Range from to)

pub unplaced_value-Text : (t : List ℕ) → unplaced_value (value.Text t) ≡ value.Text t
unplaced_value-Text t = ap unplaced_value (sym (value.rolls-Text t)) ∙ fold-roll-PropertyValue PropertyValue RecordField unplaced_step unplaced_field_step (open_value.Text t)

pub unplaced_value-Truth : (b : Bool) → unplaced_value (value.Truth b) ≡ value.Truth b
unplaced_value-Truth b = ap unplaced_value (sym (value.rolls-Truth b)) ∙ fold-roll-PropertyValue PropertyValue RecordField unplaced_step unplaced_field_step (open_value.Truth b)

pub unplaced_value-Name : (q : QualifiedName) → unplaced_value (value.Name q) ≡ value.Name (unplaced_qualified q)
unplaced_value-Name q = ap unplaced_value (sym (value.rolls-Name q)) ∙ fold-roll-PropertyValue PropertyValue RecordField unplaced_step unplaced_field_step (open_value.Name q)

pub unplaced_value-List : (vs : List PropertyValue) → unplaced_value (value.List vs) ≡ value.List (map unplaced_value vs)
unplaced_value-List vs = ap unplaced_value (sym (value.rolls-List vs)) ∙ fold-roll-PropertyValue PropertyValue RecordField unplaced_step unplaced_field_step (open_value.List vs)

pub unplaced_value-Record : (fs : List RecordField) → unplaced_value (value.Record fs) ≡ value.Record (map unplaced_field fs)
unplaced_value-Record fs = ap unplaced_value (sym (value.rolls-Record fs)) ∙ fold-roll-PropertyValue PropertyValue RecordField unplaced_step unplaced_field_step (open_value.Record fs)

pub unplaced_value-Classifier : (c : Class) → unplaced_value (value.Classifier c) ≡ value.Classifier (unplaced_class c)
unplaced_value-Classifier c = ap unplaced_value (sym (value.rolls-Classifier c)) ∙ fold-roll-PropertyValue PropertyValue RecordField unplaced_step unplaced_field_step (open_value.Classifier c)

pub unplaced_value-Reference : (p : Path) → unplaced_value (value.Reference p) ≡ value.Reference (unplaced_path p)
unplaced_value-Reference p = ap unplaced_value (sym (value.rolls-Reference p)) ∙ fold-roll-PropertyValue PropertyValue RecordField unplaced_step unplaced_field_step (open_value.Reference p)

pub unplaced_field-of : (f : RecordField) → unplaced_field f ≡ record { name = f.name; value = unplaced_value f.value }
unplaced_field-of f = fold_out-RecordField PropertyValue RecordField unplaced_step unplaced_field_step f
