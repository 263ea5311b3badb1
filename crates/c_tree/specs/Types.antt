-- The integer types (ISO/IEC 9899:2011, 7.20.1.1).
use Rattle.std.specs.Prelude.{ℕ, ◌-◌, ◌^◌, Bool, true, false, List, codes}
use Rattle.hw_types.specs.declared.scalar.Scalar.{Scalar}
use Rattle.hw_types.specs.declared.scalar.Scalar.TheVariants as scalar
use Rattle.c_tree.specs.declared.integer_type.IntegerType.{IntegerType}
use Rattle.c_tree.specs.declared.integer_type.IntegerType.TheVariants.{I8, I16, I32, I64, U8, U16, U32, U64}

abbrev pub integer_text : IntegerType → List ℕ
integer_text I8 = codes "int8_t"
integer_text I16 = codes "int16_t"
integer_text I32 = codes "int32_t"
integer_text I64 = codes "int64_t"
integer_text U8 = codes "uint8_t"
integer_text U16 = codes "uint16_t"
integer_text U32 = codes "uint32_t"
integer_text U64 = codes "uint64_t"

-- one with values below zero
abbrev pub is_signed : IntegerType → Bool
is_signed I8 = true
is_signed I16 = true
is_signed I32 = true
is_signed I64 = true
is_signed U8 = false
is_signed U16 = false
is_signed U32 = false
is_signed U64 = false

-- how many bits its values have
abbrev pub bits : IntegerType → ℕ
bits I8 = 8
bits I16 = 16
bits I32 = 32
bits I64 = 64
bits U8 = 8
bits U16 = 16
bits U32 = 32
bits U64 = 64

-- how its values lie in memory
abbrev pub scalar_of : IntegerType → Scalar
scalar_of I8 = scalar.I8
scalar_of I16 = scalar.I16
scalar_of I32 = scalar.I32
scalar_of I64 = scalar.I64
scalar_of U8 = scalar.U8
scalar_of U16 = scalar.U16
scalar_of U32 = scalar.U32
scalar_of U64 = scalar.U64

abbrev pub largest : IntegerType → ℕ
largest I8 = 2 ^ 7 - 1
largest I16 = 2 ^ 15 - 1
largest I32 = 2 ^ 31 - 1
largest I64 = 2 ^ 63 - 1
largest U8 = 2 ^ 8 - 1
largest U16 = 2 ^ 16 - 1
largest U32 = 2 ^ 32 - 1
largest U64 = 2 ^ 64 - 1
