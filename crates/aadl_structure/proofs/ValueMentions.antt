-- The references of values, one equation for each kind of value that has some.
use Rattle.std.proofs.Common.{◌≡◌, List, [], ◌∷◌, ◌++◌, map, Option, refl, ap, sym, ◌∙◌}
use Rattle.std.specs.List.{flat_map}
use Rattle.std.proofs.lemmas.List.Folds.{flat_map-map}
use Rattle.aadl_tree.specs.declared.category.Category.{Category}
use Rattle.aadl_tree.specs.declared.value.PropertyValue.{PropertyValue}
use Rattle.aadl_tree.specs.declared.value.PropertyValue.TheVariants as value
use Rattle.aadl_tree.specs.declared.value.PropertyValue.TheOpen as open_value
use Rattle.aadl_tree.specs.declared.value.PropertyValue.TheFolds.{fold-RecordField, fold-roll-PropertyValue, fold_out-RecordField}
use Rattle.aadl_tree.specs.declared.value.RecordField.{RecordField}
use Rattle.aadl_names.specs.declared.class_row.ClassRow.{ClassRow}
use Rattle.aadl_structure.specs.declared.mention.Mention.{Mention}
use Rattle.aadl_structure.specs.Mentions.{value_step, field_step, value_mentions, field_mentions}

abbrev folded : ClassRow → Option Category → RecordField → List Mention
folded around asked f = fold-RecordField (List Mention) (List Mention) (value_step around asked) field_step f

of_fields : (around : ClassRow) (asked : Option Category) (fs : List RecordField) →
    flat_map (λ (ms : List Mention). ms) (map (folded around asked) fs) ≡ flat_map (field_mentions around asked) fs
of_fields around asked [] = refl
of_fields around asked (f ∷ fs) =
    ap (λ (ms : List Mention). ms ++ flat_map (λ (ms : List Mention). ms) (map (folded around asked) fs))
    (fold_out-RecordField (List Mention) (List Mention) (value_step around asked) field_step f)
    ∙ ap (λ (ms : List Mention). field_mentions around asked f ++ ms) (of_fields around asked fs)

pub mentions-List : (around : ClassRow) (asked : Option Category) (vs : List PropertyValue) →
    value_mentions around asked (value.List vs) ≡ flat_map (value_mentions around asked) vs
mentions-List around asked vs =
    ap (value_mentions around asked) (sym (value.rolls-List vs))
    ∙ (fold-roll-PropertyValue (List Mention) (List Mention) (value_step around asked) field_step (open_value.List vs) ∙ flat_map-map (λ (ms : List Mention). ms) (value_mentions around asked) vs)

pub mentions-Record : (around : ClassRow) (asked : Option Category) (fs : List RecordField) →
    value_mentions around asked (value.Record fs) ≡ flat_map (field_mentions around asked) fs
mentions-Record around asked fs =
    ap (value_mentions around asked) (sym (value.rolls-Record fs))
    ∙ (fold-roll-PropertyValue (List Mention) (List Mention) (value_step around asked) field_step (open_value.Record fs) ∙ of_fields around asked fs)
