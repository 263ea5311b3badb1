-- How the data of a model are built (after SAE AS5506, the data model annex; this project's own: docs/formats/model.md).
use Rattle.std.specs.Prelude.{if◌then◌else◌, List, [], ◌∷◌, ◌++◌, map, Option, Some, None, option_map, option_and_then, slice_get}
use Rattle.aadl_tree.specs.declared.association.Association.{Association}
use Rattle.aadl_tree.specs.declared.category.Category.TheVariants as category
use Rattle.aadl_tree.specs.declared.class.Class.{Class}
use Rattle.aadl_tree.specs.declared.class.Class.TheVariants.{Base, Model}
use Rattle.aadl_tree.specs.declared.component.ComponentType.{ComponentType}
use Rattle.aadl_tree.specs.declared.component.Implementation.{Implementation}
use Rattle.aadl_tree.specs.declared.subcomponent.Subcomponent.{Subcomponent}
use Rattle.aadl_names.specs.declared.references.References.{References}
use Rattle.aadl_names.specs.declared.tables.Tables.{Tables}
use Rattle.aadl_names.specs.Counting.{own_last}
use Rattle.aadl_names.specs.Meanings.{first_there, means, type_of}
use Rattle.aadl_values.specs.declared.property.Property.{Property}
use Rattle.aadl_values.specs.declared.property.Property.TheVariants as property
use Rattle.aadl_values.specs.Columns.{enumerators_of, classifier_of, dimension_of}
use Rattle.aadl_values.specs.Layers.{sole_value}
use Rattle.aadl_values.specs.Spellings.{property_word}
use Rattle.aadl_types.specs.declared.deciding.Deciding.{Deciding}
use Rattle.aadl_types.specs.declared.shape.Part.{Part}
use Rattle.aadl_types.specs.declared.shape.Part.TheVariants as part
use Rattle.aadl_types.specs.declared.shape.Shape.{Shape}
use Rattle.aadl_types.specs.declared.shape.Shape.TheVariants as shape
use Rattle.aadl_types.specs.declared.shapes.Shapes.{Shapes}
use Rattle.aadl_types.specs.DataRows.{is_data}

-- the last of a property without `applies to`
abbrev pub last_of : Property → List Association → Option Association
last_of p associations = own_last (property_word p) associations

-- the associations that decide, of those that stand at one declaration
abbrev pub deciding_among : List Association → Deciding
deciding_among associations = record {
  enumerators = last_of property.Enumerators associations;
  base_type = last_of property.BaseType associations;
  dimension = last_of property.Dimension associations;
}

-- those of an implementation, and else those of its type
abbrev pub deciding_first : Deciding → Deciding → Deciding
deciding_first own other = record {
  enumerators = first_there own.enumerators other.enumerators;
  base_type = first_there own.base_type other.base_type;
  dimension = first_there own.dimension other.dimension;
}

abbrev pub deciding_with : Implementation → Option ComponentType → Deciding
deciding_with i None = deciding_among i.properties
deciding_with i (Some type) = deciding_first (deciding_among i.properties) (deciding_among type.properties)

-- the data that a classifier means
abbrev pub part_of : References → Tables → Class → Option Part
part_of r t (Base at base) = Some (part.Base base)
part_of r t (Model c) = option_map part.Row (means r t category.Data (Model c))

abbrev pub enum_shape : Association → Option Shape
enum_shape a = option_map shape.Enum (option_and_then enumerators_of (sole_value a))

abbrev pub base_part : References → Tables → Association → Option Part
base_part r t a = option_and_then (part_of r t) (option_and_then classifier_of (sole_value a))

abbrev pub array_shape : Part → Association → Option Shape
array_shape base a = option_map (shape.Array base) (option_and_then dimension_of (sole_value a))

abbrev pub based_shape : Option Association → Part → Option Shape
based_shape None base = Some (shape.Alias base)
based_shape (Some dimension) base = array_shape base dimension

-- what these subcomponents mean, behind others, where each means data
abbrev pub parts_from : References → Tables → List Part → List Subcomponent → Option (List Part)
parts_from r t before [] = Some before
parts_from r t before (s ∷ ss) = option_and_then (λ part. parts_from r t (before ++ part ∷ []) ss) (part_of r t s.class)

-- a struct has at least one member
abbrev pub struct_shape : References → Tables → List Subcomponent → Option Shape
struct_shape r t [] = None
struct_shape r t (s ∷ ss) = option_map shape.Struct (parts_from r t [] (s ∷ ss))

-- the first rule that fits: Enumerators make an enum, Base_Type and Dimension an array, Base_Type alone makes the type itself, and
-- subcomponents make a struct; where the value of a property that decides is none of its column, there is no shape
abbrev pub shape_by : References → Tables → Option Association → Option Association → Option Association → List Subcomponent → Option Shape
shape_by r t (Some enumerators) base dimension subcomponents = enum_shape enumerators
shape_by r t None (Some base) dimension subcomponents = option_and_then (based_shape dimension) (base_part r t base)
shape_by r t None None dimension subcomponents = struct_shape r t subcomponents

abbrev pub shape_decided : References → Tables → Deciding → List Subcomponent → Option Shape
shape_decided r t d subcomponents = shape_by r t d.enumerators d.base_type d.dimension subcomponents

-- the type of an implementation
abbrev pub declared_type : References → Tables → Implementation → Option ComponentType
declared_type r t i = option_and_then (slice_get t.types) (type_of r t i)

abbrev pub type_shape : References → Tables → ComponentType → Option Shape
type_shape r t c = if is_data c.category then shape_decided r t (deciding_among c.properties) [] else None

abbrev pub implementation_shape : References → Tables → Implementation → Option Shape
implementation_shape r t i =
    if is_data i.category then shape_decided r t (deciding_with i (declared_type r t i)) i.subcomponents else None

-- the shapes of all types and implementations; what is no data has none
abbrev pub shapes_of : References → Tables → Shapes
shapes_of r t = record { types = map (type_shape r t) t.types; implementations = map (implementation_shape r t) t.implementations }
