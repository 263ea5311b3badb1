-- The meaning of bytes: little endian, two's complement (ISO/IEC 9899:2011, 6.2.6, as on the usual 64-bit targets).
use Rattle.std.specs.Prelude.{ℕ, ℤ, pos, negsuc, neg_ℤ, zero, suc, ◌+◌, ◌-◌, ◌*◌, ◌/◌, ◌%◌, ◌^◌, ◌-ℤ◌, ◌<ℤ◌, ◌≤ℤ◌, ◌==◌, nat_lt, min, if◌then◌else◌, List, [], ◌∷◌, ◌++◌, length, take, drop, Option, Some, None}
use Rattle.std.specs.Option.{option_map, option_and_then}
use Rattle.hw_types.specs.declared.field_cell.FieldCell.{FieldCell}
use Rattle.hw_types.specs.declared.scalar.Scalar.{Scalar}
use Rattle.hw_types.specs.declared.scalar.Scalar.TheVariants as scalar
use Rattle.hw_types.specs.Scalar.{width_of}
use Rattle.hw_types.specs.Shape.{Shape}

-- the least value of a scalar
abbrev pub least_of : Scalar → ℤ
least_of scalar.U8 = pos 0
least_of scalar.U16 = pos 0
least_of scalar.U32 = pos 0
least_of scalar.U64 = pos 0
least_of scalar.I8 = neg_ℤ (pos (2 ^ 7))
least_of scalar.I16 = neg_ℤ (pos (2 ^ 15))
least_of scalar.I32 = neg_ℤ (pos (2 ^ 31))
least_of scalar.I64 = neg_ℤ (pos (2 ^ 63))
least_of scalar.Flag = pos 0
least_of (scalar.Choice count) = pos 0

-- the number behind its greatest value; a choice has four bytes
abbrev pub limit_of : Scalar → ℤ
limit_of scalar.U8 = pos (2 ^ 8)
limit_of scalar.U16 = pos (2 ^ 16)
limit_of scalar.U32 = pos (2 ^ 32)
limit_of scalar.U64 = pos (2 ^ 64)
limit_of scalar.I8 = pos (2 ^ 7)
limit_of scalar.I16 = pos (2 ^ 15)
limit_of scalar.I32 = pos (2 ^ 31)
limit_of scalar.I64 = pos (2 ^ 63)
limit_of scalar.Flag = pos 2
limit_of (scalar.Choice count) = pos (min count (2 ^ 32))

pub record IsScalarValue (scalar : Scalar) (value : ℤ) : Type 0 where
  pub low : least_of scalar ≤ℤ value
  pub high : value <ℤ limit_of scalar

-- a value has one number for each scalar
abbrev pub AreScalarValues : List FieldCell → List ℤ → Type 0
AreScalarValues [] [] = Unit {0}
AreScalarValues [] (value ∷ values) = ⊥
AreScalarValues (cell ∷ cells) [] = ⊥
AreScalarValues (cell ∷ cells) (value ∷ values) = IsScalarValue cell.scalar value × AreScalarValues cells values

abbrev pub IsValueOf : Shape → List ℤ → Type 0
IsValueOf layout values = AreScalarValues layout.scalars values

-- the number that bytes are, the least first
abbrev pub number_in : List ℕ → ℕ
number_in [] = 0
number_in (byte ∷ bytes) = byte + 256 * number_in bytes

-- a number of which the half from `half` on stands for negative numbers
abbrev pub signed_of : ℕ → ℕ → ℤ
signed_of half n = if nat_lt n half then pos n else pos n -ℤ pos (2 * half)

-- what a scalar's number means; a truth value is 0 or 1, and a choice is below its count
abbrev pub meaning_of : Scalar → ℕ → Option ℤ
meaning_of scalar.U8 n = Some (pos n)
meaning_of scalar.U16 n = Some (pos n)
meaning_of scalar.U32 n = Some (pos n)
meaning_of scalar.U64 n = Some (pos n)
meaning_of scalar.I8 n = Some (signed_of (2 ^ 7) n)
meaning_of scalar.I16 n = Some (signed_of (2 ^ 15) n)
meaning_of scalar.I32 n = Some (signed_of (2 ^ 31) n)
meaning_of scalar.I64 n = Some (signed_of (2 ^ 63) n)
meaning_of scalar.Flag n = if nat_lt n 2 then Some (pos n) else None
meaning_of (scalar.Choice count) n = if nat_lt n count then Some (pos n) else None

-- the bytes of a scalar, and what they mean
abbrev pub cell_bytes : FieldCell → List ℕ → List ℕ
cell_bytes cell bytes = take (width_of cell.scalar) (drop cell.offset bytes)

abbrev pub held_in : FieldCell → List ℕ → Option ℤ
held_in cell bytes = meaning_of cell.scalar (number_in (cell_bytes cell bytes))

-- what all scalars mean, where each means something
abbrev pub all_held_in : List FieldCell → List ℕ → Option (List ℤ)
all_held_in [] bytes = Some []
all_held_in (cell ∷ cells) bytes =
    option_and_then (λ value. option_map (λ values. value ∷ values) (all_held_in cells bytes)) (held_in cell bytes)

-- the value that bytes of the layout's size stand for, whatever lies outside the scalars
abbrev pub value_in : Shape → List ℕ → Option (List ℤ)
value_in layout bytes = if length bytes == layout.size then all_held_in layout.scalars bytes else None

-- so many bytes of a number, the least first
abbrev pub bytes_of_number : ℕ → ℕ → List ℕ
bytes_of_number zero n = []
bytes_of_number (suc width) n = n % 256 ∷ bytes_of_number width (n / 256)

-- a negative number stands as the number that is greater by the count of all numbers of its width
abbrev pub code_of : Scalar → ℤ → ℕ
code_of scalar (pos n) = n
code_of scalar (negsuc n) = 256 ^ width_of scalar - suc n

abbrev pub zeros : ℕ → List ℕ
zeros zero = []
zeros (suc n) = 0 ∷ zeros n

-- the bytes from `end` to `size`: those of each scalar at its offset, and zeros between
abbrev pub bytes_from : ℕ → ℕ → List FieldCell → List ℤ → List ℕ
bytes_from size end [] values = zeros (size - end)
bytes_from size end (cell ∷ cells) [] = zeros (size - end)
bytes_from size end (cell ∷ cells) (value ∷ values) =
    zeros (cell.offset - end) ++ (bytes_of_number (width_of cell.scalar) (code_of cell.scalar value) ++
    bytes_from size (cell.offset + width_of cell.scalar) cells values)

-- the bytes that stand for a value, with zeros outside the scalars
abbrev pub bytes_for : Shape → List ℤ → List ℕ
bytes_for layout values = bytes_from layout.size 0 layout.scalars values
