-- The C types of the scalars (ISO/IEC 9899:2011, 7.20.1.1, 6.2.5 and 6.7.2.2, as on the usual 64-bit targets).
use Rattle.std.specs.Prelude.{ℕ}
use Rattle.hw_types.specs.declared.scalar.Scalar.{Scalar}
use Rattle.hw_types.specs.declared.scalar.Scalar.TheVariants as scalar

-- how many bytes a scalar takes, which is its natural alignment too
abbrev pub width_of : Scalar → ℕ
width_of scalar.U8 = 1
width_of scalar.U16 = 2
width_of scalar.U32 = 4
width_of scalar.U64 = 8
width_of scalar.I8 = 1
width_of scalar.I16 = 2
width_of scalar.I32 = 4
width_of scalar.I64 = 8
width_of scalar.Flag = 1
width_of (scalar.Choice count) = 4
