-- Where the properties of the table have their places (after SAE AS5506, predeclared properties and the data model annex; this
-- project's own: docs/formats/model.md).
use Rattle.std.specs.Prelude.{ℕ, Bool, true, false, ◌&&◌, ◌||◌, Option, Some, None}
use Rattle.std.specs.List.{list_any}
use Rattle.aadl_tree.specs.declared.category.Category.TheVariants as category
use Rattle.aadl_tree.specs.declared.feature.Direction.{Direction}
use Rattle.aadl_tree.specs.declared.feature.Direction.TheVariants as direction
use Rattle.aadl_tree.specs.declared.feature.Feature.{Feature}
use Rattle.aadl_tree.specs.declared.feature.PortKind.{PortKind}
use Rattle.aadl_tree.specs.declared.feature.PortKind.TheVariants as kind
use Rattle.aadl_names.specs.declared.associations.AssociationRow.{AssociationRow}
use Rattle.aadl_names.specs.declared.class_row.ClassRow.TheVariants as row
use Rattle.aadl_names.specs.declared.element.Element.{Element}
use Rattle.aadl_names.specs.declared.element.Element.TheVariants as element
use Rattle.aadl_names.specs.declared.references.References.{References}
use Rattle.aadl_names.specs.declared.resolved.Resolved.{Resolved}
use Rattle.aadl_names.specs.declared.tables.Tables.{Tables}
use Rattle.aadl_names.specs.Meanings.{category_of, is_of}
use Rattle.aadl_values.specs.declared.property.Property.{Property}
use Rattle.aadl_values.specs.declared.property.Property.TheVariants as property
use Rattle.aadl_places.specs.Sites.{component_category, feature_at, sites_of}

abbrev pub goes_in : Direction → Bool
goes_in direction.In = true
goes_in direction.Out = false

abbrev pub has_events : PortKind → Bool
has_events (kind.Data class) = false
has_events kind.Event = true
has_events (kind.EventData class) = true

-- an in event or event data port
abbrev pub has_queue : Option Feature → Bool
has_queue None = false
has_queue (Some f) = goes_in f.direction && has_events f.kind

-- of a thread or a device
abbrev pub is_of_domain : Tables → ℕ → Bool
is_of_domain t owner = is_of category.Thread (category_of t (row.Type owner)) || is_of category.Device (category_of t (row.Type owner))

abbrev pub is_queue : Tables → Element → Bool
is_queue t (element.Type n) = false
is_queue t (element.Implementation n) = false
is_queue t (element.Feature owner n) = is_of_domain t owner && has_queue (feature_at t owner n)
is_queue t (element.Subcomponent owner n) = false
is_queue t (element.Connection owner n) = false

-- the column of the table that says what a property may stand at
abbrev pub is_place_of : Tables → Property → Element → Bool
is_place_of t property.DispatchProtocol e = is_of category.Thread (component_category t e)
is_place_of t property.Period e = is_of category.Thread (component_category t e)
is_place_of t property.ComputeExecutionTime e = is_of category.Thread (component_category t e)
is_place_of t property.FramePeriod e = is_of category.Processor (component_category t e)
is_place_of t property.QueueSize e = is_queue t e
is_place_of t property.OverflowHandlingProtocol e = is_queue t e
is_place_of t property.DequeueProtocol e = is_queue t e
is_place_of t property.ActualProcessorBinding e = true
is_place_of t property.DataRepresentation e = is_of category.Data (component_category t e)
is_place_of t property.Enumerators e = is_of category.Data (component_category t e)
is_place_of t property.BaseType e = is_of category.Data (component_category t e)
is_place_of t property.Dimension e = is_of category.Data (component_category t e)

-- what leads to nothing leads to no place
abbrev pub leads_to_place : Tables → Property → Option Element → Bool
leads_to_place t p None = false
leads_to_place t p (Some e) = is_place_of t p e

-- the association of the property stands at a place of it, or a path leads to one
abbrev pub has_effect : References → Resolved → Tables → Property → AssociationRow → Bool
has_effect r to t p a = list_any (leads_to_place t p) (sites_of r to t a)
