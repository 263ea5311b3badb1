-- Which values of properties are refused (this project's own; the columns are those of the table of properties).
use Rattle.std.specs.Prelude.{Bool, false, ◌&&◌, ◌||◌, not, if◌then◌else◌, List, Option, Some, None, option_and_then}
use Rattle.hw_text.specs.declared.code.Code.TheVariants as code
use Rattle.hw_text.specs.declared.refusal.Refusal.{Refusal}
use Rattle.aadl_tree.specs.declared.category.Category.TheVariants as category
use Rattle.aadl_tree.specs.References.{qualified_text}
use Rattle.aadl_names.specs.declared.associations.AssociationRow.{AssociationRow}
use Rattle.aadl_names.specs.declared.element.Element.{Element}
use Rattle.aadl_names.specs.declared.references.References.{References}
use Rattle.aadl_names.specs.declared.resolved.Resolved.{Resolved}
use Rattle.aadl_names.specs.declared.tables.Tables.{Tables}
use Rattle.aadl_names.specs.Meanings.{is_of, path_row}
use Rattle.aadl_names.specs.Offences.{named, offences}
use Rattle.aadl_values.specs.declared.property.Property.{Property}
use Rattle.aadl_values.specs.declared.property.Property.TheVariants as property
use Rattle.aadl_values.specs.Columns.{property_named, reference_of, suits}
use Rattle.aadl_values.specs.Layers.{sole_value}
use Rattle.aadl_places.specs.PropertyPlaces.{has_effect}
use Rattle.aadl_places.specs.Sites.{component_category, referred_from}

-- what the one `reference` of a value leads to
abbrev pub bound_to : References → Resolved → Tables → AssociationRow → Option Element
bound_to r to t a = option_and_then (path_row r to t (referred_from a.holder)) (option_and_then reference_of (sole_value a.association))

-- to something that is no processor; that paths lead to nothing is another refusal
abbrev pub is_no_processor : Tables → Option Element → Bool
is_no_processor t None = false
is_no_processor t (Some e) = not (is_of category.Processor (component_category t e))

-- what processes are bound to is a processor
abbrev pub is_misbound : References → Resolved → Tables → Property → AssociationRow → Bool
is_misbound r to t property.ActualProcessorBinding a = is_no_processor t (bound_to r to t a)
is_misbound r to t _ a = false

-- the association stands in its place with a value that the property may not have
abbrev pub is_bad : References → Resolved → Tables → Property → AssociationRow → Bool
is_bad r to t p a = has_effect r to t p a && (not (suits p a.association) || is_misbound r to t p a)

abbrev pub bad_property : References → Resolved → Tables → AssociationRow → Option Refusal
bad_property r to t a =
    let name = a.association.property in
    option_and_then (λ p. if is_bad r to t p a then Some (named code.ModelBadProperty name.first.place (qualified_text name)) else None)
    (property_named name)

-- the refusals of all associations that have such values
abbrev pub bad_properties : References → Resolved → Tables → List Refusal
bad_properties r to t = offences (bad_property r to t) t.associations
