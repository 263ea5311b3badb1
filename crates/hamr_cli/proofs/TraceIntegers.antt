-- What a signed number's text says of the number.
use Rattle.std.proofs.Common.{◌≡◌, ℕ, suc, ◌<◌, ◌≤◌, ◌^◌, List, ◌∷◌, ℤ, pos, negsuc, refl, sym, subst, arith}
use Rattle.std.specs.Char.{digit_value}
use Rattle.std.specs.Fmt.{decimal, signed_decimal}
use Rattle.std.specs.Str.Parse.{AllDigits}
use Rattle.std.proofs.lemmas.Fmt.{decimal_is_IsNumeral}
use Rattle.std.proofs.lemmas.Int.{ints}
use Rattle.hw_types.specs.Value.{IsScalarValue}
use Rattle.hw_types.specs.declared.scalar.Scalar.TheVariants.{I32}

-- a negative number, by the digits behind its minus
pub record IsNegative (z : ℤ) (digits : List ℕ) : Type 0 where
  pub below : ℕ
  pub is : z ≡ negsuc below
  pub text : digits ≡ decimal (suc below)
  pub small : suc below ≤ 2147483648

minus_value : digit_value 45 < 10 → ⊥
minus_value h = omega (arith, h)

no_minus : (n : ℕ) (digits : List ℕ) → n < 2 ^ 64 → 45 ∷ digits ≡ decimal n → ⊥
no_minus n digits h e =
    let all : AllDigits 10 (45 ∷ digits) = subst (AllDigits 10) (sym e) (decimal_is_IsNumeral n h).0.1 in
    minus_value all.0

pub behind-minus : (z : ℤ) (digits : List ℕ) → IsScalarValue I32 z → 45 ∷ digits ≡ signed_decimal z → IsNegative z digits
behind-minus (pos n) digits h e = absurd (no_minus n digits (omega (arith, ints, h.high)) e)
behind-minus (negsuc n) digits h e =
    record { below = n; is = refl; text = cc; small = omega (arith, ints, h.low) }
