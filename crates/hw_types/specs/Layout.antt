-- The usual layout of C11 (ISO/IEC 9899:2011, 6.7.2.1 and 6.2.8, with the natural alignment of each scalar).
use Rattle.std.specs.Prelude.{ℕ, ◌+◌, ◌-◌, ◌*◌, ◌/◌, zero, suc, max, List, [], ◌∷◌, ◌++◌, map}
use Rattle.hw_types.specs.declared.field_cell.FieldCell.{FieldCell}
use Rattle.hw_types.specs.declared.scalar.Scalar.{Scalar}
use Rattle.hw_types.specs.declared.ty.Ty.{Ty}
use Rattle.hw_types.specs.declared.ty.Ty.TheOpen.{Ty-F}
use Rattle.hw_types.specs.declared.ty.Ty.TheOpen as ty
use Rattle.hw_types.specs.declared.ty.Ty.TheFolds.{fold-Ty}
use Rattle.hw_types.specs.Scalar.{width_of}
use Rattle.hw_types.specs.Shape.{Shape}

-- the least multiple of an alignment at or above a place
abbrev pub aligned_up : ℕ → ℕ → ℕ
aligned_up place align = (place + (align - 1)) / align * align

-- the scalars of what begins at a place
abbrev pub shifted : ℕ → List FieldCell → List FieldCell
shifted place cells = map (λ cell. record { offset = place + cell.offset; scalar = cell.scalar }) cells

-- a member begins at its alignment behind the member before it
abbrev pub begin_of : ℕ → Shape → ℕ
begin_of end member = aligned_up end member.align

-- the scalars of members behind a place
abbrev pub member_cells : ℕ → List Shape → List FieldCell
member_cells end [] = []
member_cells end (member ∷ members) =
    shifted (begin_of end member) member.scalars ++ member_cells (begin_of end member + member.size) members

-- where the last of them ends
abbrev pub members_end : ℕ → List Shape → ℕ
members_end end [] = end
members_end end (member ∷ members) = members_end (begin_of end member + member.size) members

-- the greatest alignment, 1 where there is none
abbrev pub greatest_align : List Shape → ℕ
greatest_align [] = 1
greatest_align (member ∷ members) = max member.align (greatest_align members)

-- a struct's size is a multiple of its greatest alignment
abbrev pub struct_of : List Shape → Shape
struct_of members = record {
  scalars = member_cells 0 members;
  size = aligned_up (members_end 0 members) (greatest_align members);
  align = greatest_align members;
}

-- the scalars of so many elements, one behind the other
abbrev pub element_cells : Shape → ℕ → List FieldCell
element_cells element zero = []
element_cells element (suc times) = element_cells element times ++ shifted (times * element.size) element.scalars

abbrev pub array_of : Shape → ℕ → Shape
array_of element times = record {
  scalars = element_cells element times;
  size = times * element.size;
  align = element.align;
}

abbrev pub scalar_shape : Scalar → Shape
scalar_shape scalar = record {
  scalars = record { offset = 0; scalar = scalar } ∷ [];
  size = width_of scalar;
  align = width_of scalar;
}

-- what has no scalars takes no room
abbrev pub empty_shape : ℕ → Shape
empty_shape align = record { scalars = []; size = 0; align = align }

-- the layout of a type whose parts have these
abbrev pub shape_step : Ty-F Shape → Shape
shape_step (ty.One scalar) = scalar_shape scalar
shape_step (ty.Fields members) = struct_of members
shape_step (ty.Times element times) = array_of element times
shape_step ty.Nothing = empty_shape 1

-- the layout of a type
abbrev pub shape_of : Ty → Shape
shape_of = fold-Ty Shape shape_step
