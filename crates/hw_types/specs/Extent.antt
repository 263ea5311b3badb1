-- What is known of a type: its layout where it has at most 256 scalars, else how many and its alignment.
use Rattle.std.specs.Prelude.{◌≡◌, ◌≤◌, ◌<◌, ◌^◌, ◌-◌, ℕ, List, map, min, sum, length}
use Rattle.hw_types.specs.declared.extent.Extent.{Extent}
use Rattle.hw_types.specs.declared.extent.Extent.TheVariants as extent
use Rattle.hw_types.specs.declared.extent.Width.{Width}
use Rattle.hw_types.specs.declared.members.Members.{Members}
use Rattle.hw_types.specs.declared.ty.Ty.{Ty}
use Rattle.hw_types.specs.Count.{scalar_count, told_count}
use Rattle.hw_types.specs.Layout.{shape_of, member_cells, members_end, greatest_align}
use Rattle.hw_types.specs.Shape.{Shape}

-- the layout of a type that has at most 256 scalars
pub record IsLayoutOf (type : Ty) (layout : Shape) : Type 0 where
  pub few : scalar_count type ≤ 256
  pub laid : layout ≡ shape_of type

-- the count and the alignment of a type that has more
pub record IsWidthOf (type : Ty) (width : Width) : Type 0 where
  pub many : 256 < scalar_count type
  pub count : width.count ≡ told_count type
  pub align : width.align ≡ (shape_of type).align

-- this is known of the type
abbrev pub IsExtentOf : Ty → Extent → Type 0
IsExtentOf type (extent.Laid layout) = IsLayoutOf type layout
IsExtentOf type (extent.TooWide width) = IsWidthOf type width

abbrev pub count_in : Extent → ℕ
count_in (extent.Laid layout) = length layout.scalars
count_in (extent.TooWide width) = width.count

abbrev pub align_in : Extent → ℕ
align_in (extent.Laid layout) = layout.align
align_in (extent.TooWide width) = width.align

-- these are the members of a struct so far; their scalars are kept while there are at most 256
pub record AreMembers (types : List Ty) (members : Members) : Type 0 where
  pub count : members.count ≡ min (sum (map scalar_count types)) (2 ^ 64 - 1)
  pub align : members.align ≡ greatest_align (map shape_of types)
  pub scalars : members.count ≤ 256 → members.scalars ≡ member_cells 0 (map shape_of types)
  pub end : members.count ≤ 256 → members.end ≡ members_end 0 (map shape_of types)
