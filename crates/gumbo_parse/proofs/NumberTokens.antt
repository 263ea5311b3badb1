-- Numbers at the front of a text.
use Rattle.std.proofs.Common.{◌≡◌, ℕ, ◌≤◌, ◌^◌, true, false, ◌==◌, nat_lt, pos, List, [], ◌∷◌, ◌++◌, length, take, drop, Some, refl, ◌∙◌, add-one, arith}
use Rattle.std.proofs.Math.Seq.{take-append_seam, drop-append_seam}
use Rattle.std.proofs.lemmas.Bool.{ltb-true}
use Rattle.std.proofs.lemmas.Bool.Decides.{nat_tests}
use Rattle.std.proofs.lemmas.Fmt.{decimal_is_IsNumeral_wide}
use Rattle.std.proofs.lemmas.Str.Parse.{FoldsDigits, tells_digits, numerals_by_fold}
use Rattle.std.specs.Fmt.{signed_decimal, decimal as written_decimal}
use Rattle.std.specs.Str.Parse.{AllDigits, IsNumeral}
use Rattle.hw_text.specs.Name.{is_letter, is_digit}
use Rattle.hw_text.specs.Text.{is_white, begins_with, run_length, decimal, skipped}
use Rattle.hw_text.specs.declared.bytes.ByteClass.TheVariants.{Digits}
use Rattle.gumbo_parse.specs.declared.token.Token.TheVariants as token
use Rattle.gumbo_parse.specs.Tokens.{number_token, token_at}
use Rattle.hw_reading.proofs.Runs.{Stops, run-over}
use Rattle.gumbo_parse.proofs.Written.{StandsBefore}

no-letter : (b : ℕ) → is_digit b ≡ true → is_letter b ≡ false
no-letter b h = grind (arith, nat_tests)

not-dash : (b : ℕ) → is_digit b ≡ true → (b == 45) ≡ false
not-dash b h = grind (arith, nat_tests)

not-greater : (b : ℕ) → is_digit b ≡ true → (b == 62) ≡ false
not-greater b h = grind (arith, nat_tests)

not-white : (b : ℕ) → is_digit b ≡ true → is_white b ≡ false
not-white b h = grind (arith, nat_tests)

digit-front : (b : ℕ) (bs : List ℕ) → is_digit b ≡ true → (skipped (b ∷ bs) ≡ b ∷ bs) × (token_at (b ∷ bs) ≡ number_token (b ∷ bs))
unfolding token_at
digit-front b bs h = (rw (not-dash b h, not-white b h) refl, rw (no-letter b h, h) refl)

-- a number of which the length is known
number-at : (all digits rest : List ℕ) (n v : ℕ) → run_length Digits all ≡ n → take n all ≡ digits → drop n all ≡ rest → decimal 0 digits ≡ v → nat_lt v (2 ^ 127) ≡ true → number_token all ≡ Some (token.Number v, rest)
unfolding number_token
number-at all digits rest n v a b c d e = rw (a, b, c, d, e) refl

a-digit : (c : ℕ) → 48 ≤ c → c ≤ 57 → is_digit c ≡ true
a-digit c low high = grind (arith, nat_tests)

digits-run : (ds : List ℕ) → AllDigits 10 ds → run_length Digits ds ≡ length ds
digits-run [] d = refl
digits-run (c ∷ cs) d =
    let parts = tells_digits.parts c cs d in
    rw (a-digit c parts.0.0 parts.0.1, digits-run cs parts.1, add-one) refl

folds : FoldsDigits decimal
folds = record { empty = λ n. refl; more = λ n c cs k. rw (a-digit c k.0 k.1) refl }

digits-stand : (v : ℕ) (ds rest : List ℕ) → nat_lt v (2 ^ 127) ≡ true → IsNumeral 10 ds → decimal 0 ds ≡ v → Stops Digits rest → StandsBefore ds (token.Number v) rest
digits-stand v [] rest small digits value stops = absurd (omega (arith, digits.0))
digits-stand v (b ∷ bs) rest small digits value stops =
    let ds : List ℕ = b ∷ bs in
    let first = (tells_digits.parts b bs digits.1).0 in
    let front = digit-front b (bs ++ rest) (a-digit b first.0 first.1) in
    let run = run-over Digits ds rest (digits-run ds digits.1) stops in
    (front.0, front.1 ∙ number-at (ds ++ rest) ds rest (length ds) v run (take-append_seam ds rest) (drop-append_seam ds rest) value small)

pub number-stands : (v : ℕ) (rest : List ℕ) → nat_lt v (2 ^ 127) ≡ true → Stops Digits rest → StandsBefore (signed_decimal (pos v)) (token.Number v) rest
number-stands v rest small stops =
    let numeral = decimal_is_IsNumeral_wide v (omega (arith, ltb-true v (2 ^ 127) small)) in
    let value = (numerals_by_fold (AllDigits 10) tells_digits decimal folds).same (written_decimal v) numeral.0.1 in
    digits-stand v (written_decimal v) rest small numeral.0 (value ∙ numeral.1) stops

-- what a minus may stand before: neither a minus nor `>`
abbrev pub NoSign : List ℕ → Type 0
NoSign rest = (begins_with 45 rest ≡ false) × (begins_with 62 rest ≡ false)

digits-no-sign : (ds rest : List ℕ) → IsNumeral 10 ds → NoSign (ds ++ rest)
digits-no-sign [] rest digits = absurd (omega (arith, digits.0))
digits-no-sign (b ∷ bs) rest digits =
    let first = (tells_digits.parts b bs digits.1).0 in
    let digit = a-digit b first.0 first.1 in
    (not-dash b digit, not-greater b digit)

pub number-no-sign : (v : ℕ) (rest : List ℕ) → nat_lt v (2 ^ 127) ≡ true → NoSign (signed_decimal (pos v) ++ rest)
number-no-sign v rest small = digits-no-sign (written_decimal v) rest (decimal_is_IsNumeral_wide v (omega (arith, ltb-true v (2 ^ 127) small))).0
