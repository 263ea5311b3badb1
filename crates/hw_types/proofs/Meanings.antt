-- What a scalar's number means, and the number of a meaning.
use Rattle.std.proofs.Common.{◌≡◌, ℕ, ℤ, pos, negsuc, ◌-◌, ◌*◌, ◌^◌, ◌<◌, ◌≤◌, ◌-ℤ◌, ◌≤ℤ◌, suc, nat_lt, cond, Some, None, refl, ap, ◌∙◌, arith}
use Rattle.std.proofs.lemmas.Bool.Decides.{nat_tests}
use Rattle.std.proofs.lemmas.Int.{ints}
use Rattle.hw_types.specs.declared.scalar.Scalar.{Scalar}
use Rattle.hw_types.specs.declared.scalar.Scalar.TheVariants as scalar
use Rattle.hw_types.specs.Scalar.{width_of}
use Rattle.hw_types.specs.Value.{IsScalarValue, meaning_of, code_of, signed_of}

pub signed_of-low : (half n : ℕ) → n < half → signed_of half n ≡ pos n
signed_of-low half n h = grind (arith, nat_tests)

pub signed_of-high : (half n : ℕ) → half ≤ n → signed_of half n ≡ pos n -ℤ pos (2 * half)
signed_of-high half n h = grind (arith, nat_tests)

signed_of-negative : (half n : ℕ) → n < half → signed_of half (2 * half - suc n) ≡ negsuc n
signed_of-negative half n h =
    let high : half ≤ 2 * half - suc n = omega arith in
    signed_of-high half (2 * half - suc n) high ∙ omega (arith, ints)

below-some : (count n : ℕ) → n < count → cond (nat_lt n count) (Some (pos n)) None ≡ Some (pos n)
below-some count n h = grind (arith, nat_tests)

low-pos : {P : Type 0} (n : ℕ) → pos 0 ≤ℤ negsuc n → P
low-pos n h = absurd (omega (arith, ints, h))

-- the meaning of a value's number is the value
pub meaning_of-code_of : (s : Scalar) (v : ℤ) → IsScalarValue s v → meaning_of s (code_of s v) ≡ Some v
meaning_of-code_of scalar.U8 (pos n) is = refl
meaning_of-code_of scalar.U8 (negsuc n) is = low-pos n is.low
meaning_of-code_of scalar.U16 (pos n) is = refl
meaning_of-code_of scalar.U16 (negsuc n) is = low-pos n is.low
meaning_of-code_of scalar.U32 (pos n) is = refl
meaning_of-code_of scalar.U32 (negsuc n) is = low-pos n is.low
meaning_of-code_of scalar.U64 (pos n) is = refl
meaning_of-code_of scalar.U64 (negsuc n) is = low-pos n is.low
meaning_of-code_of scalar.I8 (pos n) is = ap Some (signed_of-low 128 n (omega (arith, ints, is.high)))
meaning_of-code_of scalar.I8 (negsuc n) is = ap Some (signed_of-negative 128 n (omega (arith, ints, is.low)))
meaning_of-code_of scalar.I16 (pos n) is = ap Some (signed_of-low 32768 n (omega (arith, ints, is.high)))
meaning_of-code_of scalar.I16 (negsuc n) is = ap Some (signed_of-negative 32768 n (omega (arith, ints, is.low)))
meaning_of-code_of scalar.I32 (pos n) is = ap Some (signed_of-low 2147483648 n (omega (arith, ints, is.high)))
meaning_of-code_of scalar.I32 (negsuc n) is = ap Some (signed_of-negative 2147483648 n (omega (arith, ints, is.low)))
meaning_of-code_of scalar.I64 (pos n) is = ap Some (signed_of-low 9223372036854775808 n (omega (arith, ints, is.high)))
meaning_of-code_of scalar.I64 (negsuc n) is = ap Some (signed_of-negative 9223372036854775808 n (omega (arith, ints, is.low)))
meaning_of-code_of scalar.Flag (pos n) is = below-some 2 n (omega (arith, ints, is.high))
meaning_of-code_of scalar.Flag (negsuc n) is = low-pos n is.low
meaning_of-code_of (scalar.Choice count) (pos n) is = below-some count n (omega (arith, ints, is.high))
meaning_of-code_of (scalar.Choice count) (negsuc n) is = low-pos n is.low

-- the number of a value fits its bytes
pub code_of-lt : (s : Scalar) (v : ℤ) → IsScalarValue s v → code_of s v < 256 ^ width_of s
code_of-lt scalar.U8 (pos n) is = omega (arith, ints, is.high)
code_of-lt scalar.U16 (pos n) is = omega (arith, ints, is.high)
code_of-lt scalar.U32 (pos n) is = omega (arith, ints, is.high)
code_of-lt scalar.U64 (pos n) is = omega (arith, ints, is.high)
code_of-lt scalar.I8 (pos n) is = omega (arith, ints, is.high)
code_of-lt scalar.I16 (pos n) is = omega (arith, ints, is.high)
code_of-lt scalar.I32 (pos n) is = omega (arith, ints, is.high)
code_of-lt scalar.I64 (pos n) is = omega (arith, ints, is.high)
code_of-lt scalar.Flag (pos n) is = omega (arith, ints, is.high)
code_of-lt (scalar.Choice count) (pos n) is = omega (arith, ints, is.high)
code_of-lt scalar.U8 (negsuc n) is = omega arith
code_of-lt scalar.U16 (negsuc n) is = omega arith
code_of-lt scalar.U32 (negsuc n) is = omega arith
code_of-lt scalar.U64 (negsuc n) is = omega arith
code_of-lt scalar.I8 (negsuc n) is = omega arith
code_of-lt scalar.I16 (negsuc n) is = omega arith
code_of-lt scalar.I32 (negsuc n) is = omega arith
code_of-lt scalar.I64 (negsuc n) is = omega arith
code_of-lt scalar.Flag (negsuc n) is = omega arith
code_of-lt (scalar.Choice count) (negsuc n) is = omega arith
