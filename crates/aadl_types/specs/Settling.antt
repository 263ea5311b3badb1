-- What is kept while extents are found, row by row. No clause of a public function cites this.
use Rattle.std.specs.Prelude.{◌≡◌, ℕ, ◌+◌, ◌^◌, ◌≤◌, List, length, Option, Some, None, map, is_none, count_by, slice_set, Any}
use Rattle.hw_types.specs.declared.extent.Extent.{Extent}
use Rattle.hw_types.specs.declared.ty.Ty.{Ty}
use Rattle.hw_types.specs.declared.ty.Ty.TheVariants.{Fields}
use Rattle.hw_types.specs.Extent.{IsExtentOf}
use Rattle.aadl_names.specs.declared.class_row.ClassRow.{ClassRow}
use Rattle.aadl_names.specs.declared.class_row.ClassRow.TheVariants as row
use Rattle.aadl_types.specs.declared.shape.Part.{Part}
use Rattle.aadl_types.specs.declared.shape.Part.TheVariants as part
use Rattle.aadl_types.specs.declared.shape.Shape.{Shape}
use Rattle.aadl_types.specs.declared.shape.Shape.TheVariants as shape
use Rattle.aadl_types.specs.declared.shapes.Shapes.{Shapes}
use Rattle.aadl_types.specs.Extents.{Known, extent_at, IsKnownOf}
use Rattle.aadl_types.specs.Types.{shape_at, part_type, part_types, made_type, type_within}

-- the type of a part, of what has a shape, and of several parts
abbrev pub IsPartType : Shapes → Part → Ty → Type 0
IsPartType shapes p type = (n : ℕ) × (part_type (type_within n shapes) p ≡ Some type)

abbrev pub IsShapeType : Shapes → Shape → Ty → Type 0
IsShapeType shapes s type = (n : ℕ) × (made_type (type_within n shapes) s ≡ Some type)

abbrev pub ArePartTypes : Shapes → List Part → List Ty → Type 0
ArePartTypes shapes ps types = (n : ℕ) × (part_types (type_within n shapes) ps ≡ Some types)

pub record IsPartExtent (shapes : Shapes) (p : Part) (extent : Extent) : Type 0 where
  pub type : Ty
  pub stands : IsPartType shapes p type
  pub known : IsExtentOf type extent

pub record IsShapeExtent (shapes : Shapes) (s : Shape) (extent : Extent) : Type 0 where
  pub type : Ty
  pub stands : IsShapeType shapes s type
  pub known : IsExtentOf type extent

pub record IsStructExtent (shapes : Shapes) (ps : List Part) (extent : Extent) : Type 0 where
  pub types : List Ty
  pub stand : ArePartTypes shapes ps types
  pub known : IsExtentOf (Fields types) extent

-- all that is known is right, and there is room for each row
pub record IsRight (shapes : Shapes) (known : Known) : Type 0 where
  pub sound : (class : ClassRow) (extent : Extent) → extent_at known class ≡ Some extent → IsKnownOf shapes class extent
  pub types : length known.types ≡ length shapes.types
  pub implementations : length known.implementations ≡ length shapes.implementations

abbrev pub unknown_of : {X : Type 0} → List X → List (Option Extent)
unknown_of xs = map (λ x. None) xs

abbrev pub nothing_known : Shapes → Known
nothing_known shapes = record { types = unknown_of shapes.types; implementations = unknown_of shapes.implementations }

abbrev pub IsUnknownPart : Known → Part → Type 0
IsUnknownPart known (part.Base base) = ⊥
IsUnknownPart known (part.Row class) = extent_at known class ≡ None

-- nothing is known of a part of it, so that nothing can be known of it
abbrev pub IsStuckShape : Known → Shape → Type 0
IsStuckShape known (shape.Enum names) = 2 ^ 32 ≤ length names
IsStuckShape known (shape.Array element times) = IsUnknownPart known element
IsStuckShape known (shape.Alias base) = IsUnknownPart known base
IsStuckShape known (shape.Struct members) = Any (IsUnknownPart known) members

-- what is not known of the row cannot be known yet
abbrev pub IsDone : Shapes → Known → ClassRow → Type 0
IsDone shapes known class = extent_at known class ≡ None → (s : Shape) → shape_at shapes class ≡ Some s → IsStuckShape known s

abbrev pub unknown_count : Known → ℕ
unknown_count known = count_by is_none known.types + count_by is_none known.implementations

-- this is known too
abbrev pub with_known : Known → ClassRow → Extent → Known
with_known known row.Base extent = known
with_known known (row.Type n) extent = record { types = slice_set known.types n (Some extent); implementations = known.implementations }
with_known known (row.Implementation n) extent = record { types = known.types; implementations = slice_set known.implementations n (Some extent) }

-- nothing more can be known
abbrev pub AreDone : Shapes → Known → Type 0
AreDone shapes known = (class : ClassRow) → IsDone shapes known class
