-- Integer literals (ISO/IEC 9899:2011, 6.4.4.1), without those in base eight: a decimal number without leading zeros or `0x` and hex
-- digits, and then maybe `u`, `l`, `ll`, `ul` or `ull`, each letter in either case (docs/formats/c.md).
use Rattle.std.specs.Prelude.{ℕ, ◌+◌, ◌-◌, ◌*◌, Bool, true, false, ◌&&◌, ◌||◌, ◌==◌, nat_le, if◌then◌else◌, List, [], ◌∷◌, drop, Option, Some, None, is_some}
use Rattle.hw_text.specs.Name.{is_digit}
use Rattle.c_tree.specs.declared.byte_class.ByteClass.{ByteClass}
use Rattle.c_tree.specs.declared.byte_class.ByteClass.TheVariants.{Zero, Digit, HexDigit, BaseMark, Unsigned, Long}
use Rattle.c_tree.specs.declared.integer_type.IntegerType.{IntegerType}
use Rattle.c_tree.specs.declared.integer_type.IntegerType.TheVariants.{I32, I64, U32, U64}
use Rattle.c_tree.specs.Types.{largest}

abbrev pub is_in : ByteClass → ℕ → Bool
is_in Zero b = b == 48
is_in Digit b = is_digit b
is_in HexDigit b = is_digit b || ((nat_le 97 b && nat_le b 102) || (nat_le 65 b && nat_le b 70))
is_in BaseMark b = b == 120
is_in Unsigned b = (b == 117) || (b == 85)
is_in Long b = (b == 108) || (b == 76)

abbrev pub begins_in : ByteClass → List ℕ → Bool
begins_in class [] = false
begins_in class (b ∷ bs) = is_in class b

-- the text behind one byte of the class, where it begins with one
abbrev pub past_one : ByteClass → List ℕ → List ℕ
past_one class bs = if begins_in class bs then drop 1 bs else bs

-- the text behind all the bytes of the class that it begins with
abbrev pub past_all : ByteClass → List ℕ → List ℕ
past_all class [] = []
past_all class (b ∷ bs) = if is_in class b then past_all class bs else b ∷ bs

-- `0x` and a hex digit
abbrev pub begins_hex : List ℕ → Bool
begins_hex bs = begins_in Zero bs && (begins_in BaseMark (drop 1 bs) && begins_in HexDigit (drop 2 bs))

abbrev pub past_digits : List ℕ → List ℕ
past_digits bs =
    if begins_hex bs then past_all HexDigit (drop 2 bs) else (if begins_in Zero bs then drop 1 bs else past_all Digit bs)

-- the text behind the longest literal that it begins with
abbrev pub past_numeral : List ℕ → List ℕ
past_numeral bs = past_one Long (past_one Long (past_one Unsigned (past_digits bs)))

abbrev pub base : ByteClass → ℕ
base HexDigit = 16
base class = 10

abbrev pub digit_value : ℕ → ℕ
digit_value b = if is_digit b then b - 48 else (if nat_le 97 b then b - 87 else b - 55)

-- the number that the digits at the front make, those before them having made `n`
abbrev pub number_from : ByteClass → ℕ → List ℕ → ℕ
number_from class n [] = n
number_from class n (b ∷ bs) = if is_in class b then number_from class (n * base class + digit_value b) bs else n

abbrev pub numeral_value : List ℕ → ℕ
numeral_value bs = if begins_hex bs then number_from HexDigit 0 (drop 2 bs) else number_from Digit 0 bs

-- the types that a literal may have: whether it is in hex, unsigned, long
abbrev pub candidates : Bool → Bool → Bool → List IntegerType
candidates false false false = I32 ∷ I64 ∷ []
candidates true false false = I32 ∷ U32 ∷ I64 ∷ U64 ∷ []
candidates hex true false = U32 ∷ U64 ∷ []
candidates false false true = I64 ∷ []
candidates true false true = I64 ∷ U64 ∷ []
candidates hex true true = U64 ∷ []

abbrev pub first_holding : ℕ → List IntegerType → Option IntegerType
first_holding n [] = None
first_holding n (t ∷ ts) = if nat_le n (largest t) then Some t else first_holding n ts

-- the first of its types that holds its value
abbrev pub numeral_type : List ℕ → Option IntegerType
numeral_type bs =
    let suffix = past_digits bs in
    first_holding (numeral_value bs) (candidates (begins_hex bs) (begins_in Unsigned suffix) (begins_in Long (past_one Unsigned suffix)))

abbrev pub is_empty : List ℕ → Bool
is_empty [] = true
is_empty (b ∷ bs) = false

-- spelled as a literal, with a value that one of its types holds
unfoldable pub is_numeral : List ℕ → Bool
is_numeral bs = begins_in Digit bs && (is_empty (past_numeral bs) && is_some (numeral_type bs))
