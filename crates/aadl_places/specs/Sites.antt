-- What property associations speak of (after SAE AS5506, property associations; this project's own: from where paths count).
use Rattle.std.specs.Prelude.{ℕ, ◌==◌, if◌then◌else◌, List, [], ◌∷◌, map, length, Option, Some, None, option_map, option_and_then, slice_get}
use Rattle.aadl_tree.specs.declared.category.Category.{Category}
use Rattle.aadl_tree.specs.declared.component.ComponentType.{ComponentType}
use Rattle.aadl_tree.specs.declared.component.Implementation.{Implementation}
use Rattle.aadl_tree.specs.declared.feature.Feature.{Feature}
use Rattle.aadl_tree.specs.declared.names.Path.{Path}
use Rattle.aadl_tree.specs.declared.subcomponent.Subcomponent.{Subcomponent}
use Rattle.aadl_names.specs.declared.associations.AssociationRow.{AssociationRow}
use Rattle.aadl_names.specs.declared.class_row.ClassRow.{ClassRow}
use Rattle.aadl_names.specs.declared.class_row.ClassRow.TheVariants as row
use Rattle.aadl_names.specs.declared.element.Element.{Element}
use Rattle.aadl_names.specs.declared.element.Element.TheVariants as element
use Rattle.aadl_names.specs.declared.references.References.{References}
use Rattle.aadl_names.specs.declared.resolved.Resolved.{Resolved}
use Rattle.aadl_names.specs.declared.tables.Tables.{Tables}
use Rattle.aadl_names.specs.Meanings.{category_of, means, path_row}

-- a feature of a type, by its number there
abbrev pub feature_at : Tables → ℕ → ℕ → Option Feature
feature_at t owner number = option_and_then (λ (declared : ComponentType). slice_get declared.features number) (slice_get t.types owner)

-- a subcomponent of an implementation, by its number there
abbrev pub subcomponent_at : Tables → ℕ → ℕ → Option Subcomponent
subcomponent_at t owner number =
    option_and_then (λ (declared : Implementation). slice_get declared.subcomponents number) (slice_get t.implementations owner)

-- the category of a type, an implementation or a subcomponent
abbrev pub component_category : Tables → Element → Option Category
component_category t (element.Type n) = category_of t (row.Type n)
component_category t (element.Implementation n) = category_of t (row.Implementation n)
component_category t (element.Feature owner n) = None
component_category t (element.Subcomponent owner n) = option_map (λ (s : Subcomponent). s.category) (subcomponent_at t owner n)
component_category t (element.Connection owner n) = None

-- from where paths of `applies to` count: in the braces of a subcomponent from its class, in those of a feature or a connection from
-- nothing
abbrev pub applied_from : References → Tables → Element → Option ClassRow
applied_from r t (element.Type n) = Some (row.Type n)
applied_from r t (element.Implementation n) = Some (row.Implementation n)
applied_from r t (element.Feature owner n) = None
applied_from r t (element.Subcomponent owner n) =
    option_and_then (λ (s : Subcomponent). means r t s.category s.class) (subcomponent_at t owner n)
applied_from r t (element.Connection owner n) = None

-- from where paths of `reference` count: from the type or implementation in whose text they stand
abbrev pub referred_from : Element → ClassRow
referred_from (element.Type n) = row.Type n
referred_from (element.Implementation n) = row.Implementation n
referred_from (element.Feature owner n) = row.Type owner
referred_from (element.Subcomponent owner n) = row.Implementation owner
referred_from (element.Connection owner n) = row.Implementation owner

-- what a path means that counts from there
abbrev pub led_to : References → Resolved → Tables → Option ClassRow → Path → Option Element
led_to r to t from path = option_and_then (λ within. path_row r to t within path) from

-- what an association speaks of: what it stands at, or what each path of its `applies to` leads to
abbrev pub sites_of : References → Resolved → Tables → AssociationRow → List (Option Element)
sites_of r to t a =
    if length a.association.applies_to == 0 then Some a.holder ∷ [] else map (led_to r to t (applied_from r t a.holder)) a.association.applies_to
