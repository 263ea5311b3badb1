-- What is known of the types that data declarations stand for (this project's own).
use Rattle.std.specs.Prelude.{List, Option, Some, None}
use Rattle.hw_types.specs.declared.extent.Extent.{Extent}
use Rattle.hw_types.specs.declared.ty.Ty.{Ty}
use Rattle.hw_types.specs.Extent.{IsExtentOf}
use Rattle.aadl_names.specs.declared.class_row.ClassRow.{ClassRow}
use Rattle.aadl_names.specs.declared.class_row.ClassRow.TheVariants as row
use Rattle.aadl_names.specs.Meanings.{at_row}
use Rattle.aadl_types.specs.declared.shapes.Shapes.{Shapes}
use Rattle.aadl_types.specs.Types.{IsTypeOf}

-- what is known of each type and each implementation
pub record Known : Type 0 where
  pub types : List (Option Extent)
  pub implementations : List (Option Extent)

abbrev pub extent_at : Known → ClassRow → Option Extent
extent_at known row.Base = None
extent_at known (row.Type n) = at_row known.types n
extent_at known (row.Implementation n) = at_row known.implementations n

-- this is known of the type that the row stands for
pub record IsKnownOf (shapes : Shapes) (class : ClassRow) (extent : Extent) : Type 0 where
  pub type : Ty
  pub stands : IsTypeOf shapes class type
  pub known : IsExtentOf type extent

-- an extent is there exactly where the row stands for a type, and it is that of the type
abbrev pub IsAnswer : Shapes → ClassRow → Option Extent → Type 0
IsAnswer shapes class (Some extent) = IsKnownOf shapes class extent
IsAnswer shapes class None = (type : Ty) → IsTypeOf shapes class type → ⊥

abbrev pub AreAnswers : Shapes → Known → Type 0
AreAnswers shapes known = (class : ClassRow) → IsAnswer shapes class (extent_at known class)
