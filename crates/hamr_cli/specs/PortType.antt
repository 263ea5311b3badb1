-- The one type that the ports of thin models have: Integer_32, 32 bits in two's complement.
use Rattle.std.specs.Prelude.{ℤ, List}
use Rattle.hw_types.specs.Layout.{scalar_shape}
use Rattle.hw_types.specs.Value.{IsValueOf}
use Rattle.hw_types.specs.declared.scalar.Scalar.TheVariants.{I32}

-- a value that the ports of thin models carry
abbrev pub IsPortValue : List ℤ → Type 0
IsPortValue value = IsValueOf (scalar_shape I32) value
