-- Where the scalars of a type lie, and what room its values take.
use Rattle.std.specs.Prelude.{◌≡◌, ◌⊎◌, ℕ, ◌+◌, ◌%◌, ◌≤◌, List, [], ◌∷◌}
use Rattle.hw_types.specs.declared.field_cell.FieldCell.{FieldCell}
use Rattle.hw_types.specs.Scalar.{width_of}

-- a layout as its numbers
pub record Shape : Type 0 where
  pub scalars : List FieldCell
  pub size : ℕ
  pub align : ℕ

-- the alignments that there are
abbrev pub IsAlign : ℕ → Type 0
IsAlign n = (n ≡ 1) ⊎ ((n ≡ 2) ⊎ ((n ≡ 4) ⊎ (n ≡ 8)))

-- the scalars lie in order between two places, none meeting the next
abbrev pub LieBetween : ℕ → ℕ → List FieldCell → Type 0
LieBetween start end [] = start ≤ end
LieBetween start end (cell ∷ cells) = (start ≤ cell.offset) × LieBetween (cell.offset + width_of cell.scalar) end cells

-- a scalar lies at its natural alignment, in a whole that keeps to it
pub record IsNatural (align : ℕ) (cell : FieldCell) : Type 0 where
  pub place : cell.offset % width_of cell.scalar ≡ 0
  pub whole : align % width_of cell.scalar ≡ 0

abbrev pub AreNatural : ℕ → List FieldCell → Type 0
AreNatural align [] = Unit {0}
AreNatural align (cell ∷ cells) = IsNatural align cell × AreNatural align cells

-- what each layout keeps
pub record IsLaidOut (shape : Shape) : Type 0 where
  pub power : IsAlign shape.align
  pub whole : shape.size % shape.align ≡ 0
  pub in_order : LieBetween 0 shape.size shape.scalars
  pub natural : AreNatural shape.align shape.scalars
