-- What property associations refer to (after SAE AS5506, property expressions and contained property associations).
use Rattle.std.specs.Prelude.{List, [], ◌∷◌, ◌++◌, map, flat_map, codes, Option, Some, None, option_and_then, slice_get, if◌then◌else◌}
use Rattle.aadl_tree.specs.declared.association.Association.{Association}
use Rattle.aadl_tree.specs.declared.category.Category.{Category}
use Rattle.aadl_tree.specs.declared.category.Category.TheVariants as category
use Rattle.aadl_tree.specs.declared.component.Implementation.{Implementation}
use Rattle.aadl_tree.specs.declared.subcomponent.Subcomponent.{Subcomponent}
use Rattle.aadl_tree.specs.declared.value.RecordField.{RecordField}
use Rattle.aadl_tree.specs.declared.value.PropertyValue.{PropertyValue}
use Rattle.aadl_tree.specs.declared.value.PropertyValue.TheOpen.{PropertyValue-F, RecordField-F}
use Rattle.aadl_tree.specs.declared.value.PropertyValue.TheOpen as value
use Rattle.aadl_tree.specs.declared.value.PropertyValue.TheFolds.{fold-PropertyValue}
use Rattle.aadl_names.specs.declared.associations.AssociationRow.{AssociationRow}
use Rattle.aadl_names.specs.declared.class_row.ClassRow.{ClassRow}
use Rattle.aadl_names.specs.declared.class_row.ClassRow.TheVariants as row
use Rattle.aadl_names.specs.declared.element.Element.{Element}
use Rattle.aadl_names.specs.declared.element.Element.TheVariants as element
use Rattle.aadl_names.specs.declared.references.References.{References}
use Rattle.aadl_names.specs.declared.tables.Tables.{Tables}
use Rattle.aadl_names.specs.Counting.{is_of_property}
use Rattle.aadl_names.specs.Meanings.{means, at_row}
use Rattle.aadl_structure.specs.declared.mention.Mention.{Mention}
use Rattle.aadl_structure.specs.declared.mention.Mention.TheVariants as mention

-- what the classes of the subcomponents of an implementation mean
abbrev pub classes_in : References → Tables → Implementation → List (Option ClassRow)
classes_in r t i = map (λ (s : Subcomponent). means r t s.category s.class) i.subcomponents

-- from where the paths of `applies to` count, given what these classes mean in each implementation: in the braces of a subcomponent from
-- what it is, and in those of features and connections from nothing
abbrev pub inside : List (List (Option ClassRow)) → Element → Option ClassRow
inside classes (element.Type n) = Some (row.Type n)
inside classes (element.Implementation n) = Some (row.Implementation n)
inside classes (element.Feature n k) = None
inside classes (element.Subcomponent n k) = option_and_then (λ (own : List (Option ClassRow)). at_row own k) (slice_get classes n)
inside classes (element.Connection n k) = None

-- from where the paths of `reference` count: the declaration in whose text they stand
abbrev pub around : Element → ClassRow
around (element.Type n) = row.Type n
around (element.Implementation n) = row.Implementation n
around (element.Feature n k) = row.Type n
around (element.Subcomponent n k) = row.Implementation n
around (element.Connection n k) = row.Implementation n

-- data for Base_Type, whatever set name stands before it; else any
abbrev pub asked_by : Association → Option Category
asked_by a = if is_of_property (codes "base_type") a then Some category.Data else None

-- the references of a value, those of its parts being given
abbrev pub value_step : ClassRow → Option Category → PropertyValue-F (List Mention) (List Mention) → List Mention
value_step around asked (value.List parts) = flat_map (λ ms. ms) parts
value_step around asked (value.Record parts) = flat_map (λ ms. ms) parts
value_step around asked (value.Classifier c) = mention.Class asked c ∷ []
value_step around asked (value.Reference p) = mention.Path (Some around) p ∷ []
value_step around asked _ = []

abbrev pub field_step : RecordField-F (List Mention) (List Mention) → List Mention
field_step f = f.value

-- the references of a value, also in lists and records
abbrev pub value_mentions : ClassRow → Option Category → PropertyValue → List Mention
value_mentions around asked v = fold-PropertyValue (List Mention) (List Mention) (value_step around asked) field_step v

abbrev pub field_mentions : ClassRow → Option Category → RecordField → List Mention
field_mentions around asked f = value_mentions around asked f.value

-- the paths of its `applies to`, and the references of its values
unfoldable pub association_mentions : List (List (Option ClassRow)) → AssociationRow → List Mention
association_mentions classes at =
    map (mention.Path (inside classes at.holder)) at.association.applies_to ++
    flat_map (value_mentions (around at.holder) (asked_by at.association)) (at.association.first ∷ at.association.others)

-- those of all associations of a model
abbrev pub mentions_of : References → Tables → List Mention
mentions_of r t = flat_map (association_mentions (map (classes_in r t) t.implementations)) t.associations
