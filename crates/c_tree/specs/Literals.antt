-- What literals behind a minus are worth, and ranges of loops (docs/formats/c.md).
use Rattle.std.specs.Prelude.{ℕ, ◌+◌, ◌-◌, ◌%◌, ℤ, pos, neg_ℤ, int_lt, Bool, true, false, Option, Some}
use Rattle.c_tree.specs.declared.integer_type.IntegerType.{IntegerType}
use Rattle.c_tree.specs.declared.integer_type.IntegerType.TheVariants.{U32, U64}
use Rattle.c_tree.specs.declared.named.SignedLiteral.{SignedLiteral}
use Rattle.c_tree.specs.Types.{largest}
use Rattle.c_tree.specs.Numerals.{numeral_value, numeral_type}

-- so many below zero, reduced by one more than the largest number
abbrev pub wrapped : ℕ → ℕ → ℕ
wrapped most n = (most + 1 - n) % (most + 1)

-- the value of a literal behind a minus, in the literal's own type (ISO/IEC 9899:2011, 6.5.3.3 and 6.3.1.3)
abbrev pub negated : Option IntegerType → ℕ → ℤ
negated (Some U32) n = pos (wrapped (largest U32) n)
negated (Some U64) n = pos (wrapped (largest U64) n)
negated class n = neg_ℤ (pos n)

abbrev pub numeral_under : Bool → Option IntegerType → ℕ → ℤ
numeral_under true class n = negated class n
numeral_under false class n = pos n

-- the value of a literal, maybe behind a minus
abbrev pub signed_value : SignedLiteral → ℤ
signed_value l = numeral_under l.negative (numeral_type l.literal.numeral.bytes) (numeral_value l.literal.numeral.bytes)

-- a range has numbers: it begins below the number before which it ends
abbrev pub range_holds : SignedLiteral → SignedLiteral → Bool
range_holds from below = int_lt (signed_value from) (signed_value below)
