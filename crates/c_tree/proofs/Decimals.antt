-- Numbers in base ten are literals with their values.
use Rattle.std.proofs.Common.{◌≡◌, ◌∙◌, refl, ap, ℕ, ◌+◌, ◌-◌, ◌*◌, ◌^◌, ◌<◌, ◌≤◌, suc, zero, Bool, true, false, ◌==◌, nat_lt, List, [], ◌∷◌, ◌++◌, codes, get_or, Some, None, arith}
use Rattle.std.specs.Prelude.{if◌then◌else◌, is_some, nat_le}
use Rattle.std.proofs.lemmas.Bool.{le-leb, ltb-true}
use Rattle.std.proofs.lemmas.Bool.Decides.{nat_tests}
use Rattle.std.proofs.lemmas.Fmt.{decimal_is_IsNumeral, decimal_digit, first_decimal}
use Rattle.std.proofs.lemmas.Str.Parse.{FoldsDigits, tells_digits, numerals_by_fold}
use Rattle.std.specs.Fmt.{decimal}
use Rattle.std.specs.Str.Parse.{AllDigits, digits_value}
use Rattle.hw_text.specs.Name.{is_digit}
use Rattle.c_tree.specs.Numerals.{begins_in, past_one, past_all, begins_hex, past_digits, number_from, numeral_value, candidates, first_holding, is_numeral}
use Rattle.c_tree.specs.Decimals.{decimal_text}
use Rattle.c_tree.specs.Spellings.{zero_is_numeral}
use Rattle.c_tree.specs.Types.{largest}
use Rattle.c_tree.specs.declared.byte_class.ByteClass.TheVariants.{Digit, Unsigned, Long}
use Rattle.c_tree.specs.declared.integer_type.IntegerType.{IntegerType}
use Rattle.c_tree.specs.declared.integer_type.IntegerType.TheVariants.{I32, I64, U32, U64}

a-digit : (c : ℕ) → 48 ≤ c → c ≤ 57 → is_digit c ≡ true
a-digit c low high = grind (arith, nat_tests)

not-zero : (c : ℕ) → 48 < c → (c == 48) ≡ false
not-zero c more = grind (arith, nat_tests)

folds : FoldsDigits (number_from Digit)
folds = record { empty = λ n. refl; more = λ n c cs k. rw (a-digit c k.0 k.1) refl }

all-past : (ds s : List ℕ) → AllDigits 10 ds → begins_in Digit s ≡ false → past_all Digit (ds ++ s) ≡ s
all-past [] [] digits ended = refl
all-past [] (b ∷ bs) digits ended = rw ended refl
all-past (c ∷ cs) s digits ended =
    let parts = tells_digits.parts c cs digits in
    rw (a-digit c parts.0.0 parts.0.1) (all-past cs s parts.1 ended)

number-over : (n : ℕ) (ds s : List ℕ) → AllDigits 10 ds → begins_in Digit s ≡ false → number_from Digit n (ds ++ s) ≡ number_from Digit n ds
number-over n [] [] digits ended = refl
number-over n [] (b ∷ bs) digits ended = rw ended refl
number-over n (c ∷ cs) s digits ended =
    let parts = tells_digits.parts c cs digits in
    rw (a-digit c parts.0.0 parts.0.1) (number-over (n * 10 + (c - 48)) cs s parts.1 ended)

-- a literal of which the parts are known
known : (text s : List ℕ) (v : ℕ) → begins_in Digit text ≡ true → begins_hex text ≡ false → past_digits text ≡ s → number_from Digit 0 text ≡ v → past_one Long (past_one Long (past_one Unsigned s)) ≡ [] → is_some (first_holding v (candidates false (begins_in Unsigned s) (begins_in Long (past_one Unsigned s)))) ≡ true → (is_numeral text ≡ true) × (numeral_value text ≡ v)
unfolding is_numeral
known text s v first no_hex behind value ended held = (rw (first, behind, ended, no_hex, value, held) refl, rw (no_hex, value) refl)

held-by : (b c : Bool) (t u : IntegerType) → c ≡ true → is_some (if b then Some t else if c then Some u else None) ≡ true
held-by true c t u is = refl
held-by false c t u is = rw is refl

-- digits that begin with no zero, with nothing or a `u` behind them
spelled : (ds s : List ℕ) (v : ℕ) → 48 < get_or ds 0 0 → AllDigits 10 ds → digits_value 10 ds ≡ v → begins_in Digit s ≡ false → past_one Long (past_one Long (past_one Unsigned s)) ≡ [] → is_some (first_holding v (candidates false (begins_in Unsigned s) (begins_in Long (past_one Unsigned s)))) ≡ true → (is_numeral (ds ++ s) ≡ true) × (numeral_value (ds ++ s) ≡ v)
spelled [] s v first digits value after ended held = absurd (omega (arith, first))
spelled (c ∷ cs) s v first digits value after ended held =
    let ds : List ℕ = c ∷ cs in
    let parts = tells_digits.parts c cs digits in
    let other = not-zero c first in
    let no_hex : begins_hex (ds ++ s) ≡ false = rw other refl in
    let same = (numerals_by_fold (AllDigits 10) tells_digits (number_from Digit) folds).same ds digits in
    known (ds ++ s) s v (a-digit c parts.0.0 parts.0.1) no_hex (rw (no_hex, other) (all-past ds s digits after)) (number-over 0 ds s digits after ∙ same ∙ value) ended held

some-spelled : (n : ℕ) (b : Bool) → nat_lt n (2 ^ 63) ≡ b → 0 < n → n < 2 ^ 64 → (is_numeral (decimal n ++ (if b then [] else codes "u")) ≡ true) × (numeral_value (decimal n ++ (if b then [] else codes "u")) ≡ n)
some-spelled n true small more fits =
    let numeral = decimal_is_IsNumeral n fits in
    let below = ltb-true n (2 ^ 63) small in
    spelled (decimal n) [] n (first_decimal n more fits) numeral.0.1 numeral.1 refl refl (held-by (nat_le n (largest I32)) (nat_le n (largest I64)) I32 I64 (le-leb n (largest I64) (omega (arith, below))))
some-spelled n false large more fits =
    let numeral = decimal_is_IsNumeral n fits in
    spelled (decimal n) (codes "u") n (first_decimal n more fits) numeral.0.1 numeral.1 refl refl (held-by (nat_le n (largest U32)) (nat_le n (largest U64)) U32 U64 (le-leb n (largest U64) (omega (arith, fits))))

-- a number in base ten is a literal, and its value is the number
pub decimal_numeral : (n : ℕ) → n < 2 ^ 64 → (is_numeral (decimal_text n) ≡ true) × (numeral_value (decimal_text n) ≡ n)
decimal_numeral zero fits =
    let same : decimal_text 0 ≡ codes "0" = ap (λ (l : List ℕ). l ++ []) (decimal_digit 0 (omega arith)) in
    (ap is_numeral same ∙ zero_is_numeral, ap numeral_value same)
decimal_numeral (suc n) fits = some-spelled (suc n) (nat_lt (suc n) (2 ^ 63)) refl (omega arith) fits
