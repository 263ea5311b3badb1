-- The types that data declarations stand for (this project's own; layouts are those of hw_types).
use Rattle.std.specs.Prelude.{◌≡◌, ℕ, zero, suc, ◌^◌, nat_lt, if◌then◌else◌, List, [], ◌∷◌, length, Option, Some, None, option_map, option_and_then}
use Rattle.hw_text.specs.declared.base_type.BaseType.{BaseType}
use Rattle.hw_text.specs.declared.base_type.BaseType.TheVariants.{Boolean, Integer8, Integer16, Integer32, Integer64, Unsigned8, Unsigned16, Unsigned32, Unsigned64}
use Rattle.hw_types.specs.declared.scalar.Scalar.{Scalar}
use Rattle.hw_types.specs.declared.scalar.Scalar.TheVariants as scalar
use Rattle.hw_types.specs.declared.ty.Ty.{Ty}
use Rattle.hw_types.specs.declared.ty.Ty.TheVariants.{One, Fields, Times}
use Rattle.aadl_names.specs.declared.class_row.ClassRow.{ClassRow}
use Rattle.aadl_names.specs.declared.class_row.ClassRow.TheVariants as row
use Rattle.aadl_names.specs.Meanings.{at_row}
use Rattle.aadl_types.specs.declared.shape.Part.{Part}
use Rattle.aadl_types.specs.declared.shape.Part.TheVariants as part
use Rattle.aadl_types.specs.declared.shape.Shape.{Shape}
use Rattle.aadl_types.specs.declared.shape.Shape.TheVariants as shape
use Rattle.aadl_types.specs.declared.shapes.Shapes.{Shapes}

-- the scalar that a base type is
abbrev pub scalar_of : BaseType → Scalar
scalar_of Boolean = scalar.Flag
scalar_of Integer8 = scalar.I8
scalar_of Integer16 = scalar.I16
scalar_of Integer32 = scalar.I32
scalar_of Integer64 = scalar.I64
scalar_of Unsigned8 = scalar.U8
scalar_of Unsigned16 = scalar.U16
scalar_of Unsigned32 = scalar.U32
scalar_of Unsigned64 = scalar.U64

abbrev pub shape_at : Shapes → ClassRow → Option Shape
shape_at shapes row.Base = None
shape_at shapes (row.Type n) = at_row shapes.types n
shape_at shapes (row.Implementation n) = at_row shapes.implementations n

-- the type of a part, those of the rows being given
abbrev pub part_type : (ClassRow → Option Ty) → Part → Option Ty
part_type of (part.Base base) = Some (One (scalar_of base))
part_type of (part.Row class) = of class

abbrev pub part_types : (ClassRow → Option Ty) → List Part → Option (List Ty)
part_types of [] = Some []
part_types of (p ∷ ps) = option_and_then (λ type. option_map (λ types. type ∷ types) (part_types of ps)) (part_type of p)

-- an enum's values are numbers of four bytes, one for each of its names
abbrev pub enum_type : ℕ → Option Ty
enum_type count = if nat_lt count (2 ^ 32) then Some (One (scalar.Choice count)) else None

-- the type that has this shape
abbrev pub made_type : (ClassRow → Option Ty) → Shape → Option Ty
made_type of (shape.Enum names) = enum_type (length names)
made_type of (shape.Array element times) = option_map (λ type. Times type times) (part_type of element)
made_type of (shape.Alias base) = part_type of base
made_type of (shape.Struct members) = option_map Fields (part_types of members)

-- the type that a row stands for, where no more than so many rows stand one inside the other
abbrev pub type_within : ℕ → Shapes → ClassRow → Option Ty
type_within zero shapes class = None
type_within (suc n) shapes class = option_and_then (made_type (type_within n shapes)) (shape_at shapes class)

-- the type that a row stands for; what is on a loop or leads to one, or to what has no shape, stands for none
abbrev pub IsTypeOf : Shapes → ClassRow → Ty → Type 0
IsTypeOf shapes class type = (n : ℕ) × (type_within n shapes class ≡ Some type)
