-- A number read digit by digit is the one whose decimal text the digits are.
use Rattle.std.proofs.Common.{◌≡◌, ℕ, ◌<◌, ◌≤◌, ◌+◌, ◌-◌, ◌*◌, ◌^◌, ◌&&◌, Bool, true, false, List, [], ◌∷◌, length, get_or, slice_index, Option, Some, None, cond, refl, sym, ◌∙◌, ap, inl, inr, arith}
use Rattle.std.specs.Prelude.{nat_lt, IfSome}
use Rattle.std.specs.Char.{is_ascii_digit, digit_value}
use Rattle.std.specs.Fmt.{decimal}
use Rattle.std.specs.Str.Parse.{AllDigits, digits_value, digits_value_after}
use Rattle.std.proofs.lemmas.Bool.{and_parts, and_from, ltb-true, lt-ltb, cases_order}
use Rattle.std.proofs.lemmas.Bool.Decides.{nat_tests}
use Rattle.std.proofs.lemmas.Fmt.{decimal_is_IsNumeral, decimal_digit, first_decimal, decimal-digits_value}
use Rattle.std.proofs.lemmas.Str.Parse.{IsNumeralModel, numerals_by_value, tells_digits}
use Rattle.hamr_cli.specs.TraceNumber.{number_from}

digit-value : (c : ℕ) → is_ascii_digit c ≡ true → digit_value c ≡ c - 48
digit-value c e = grind (arith, nat_tests)

digit-small : (c : ℕ) → is_ascii_digit c ≡ true → digit_value c < 10
digit-small c e = grind (arith, nat_tests)

digit-from : (c : ℕ) → digit_value c < 10 → is_ascii_digit c ≡ true
digit-from c h = grind (arith, nat_tests)

record Reads (n : ℕ) (bs : List ℕ) (v : ℕ) : Type 0 where
  digits : AllDigits 10 bs
  value : digits_value_after 10 n bs ≡ v
  small : v < 2 ^ 64

step : (t : Bool) (o : Option ℕ) (v : ℕ) → cond t o None ≡ Some v → (t ≡ true) × (o ≡ Some v)
step true o v e = (refl, e)
step false o v e = cc

read : (n : ℕ) (bs : List ℕ) (v : ℕ) → n < 2 ^ 64 → number_from n bs ≡ Some v → Reads n bs v
read n [] v h e = let same : n ≡ v = cc in record { digits = tt; value = same; small = omega arith }
read n (c ∷ cs) v h e =
    let next = n * 10 + (c - 48) in
    let s = step (is_ascii_digit c && nat_lt next (2 ^ 64)) (number_from next cs) v e in
    let p = and_parts (is_ascii_digit c) (nat_lt next (2 ^ 64)) s.0 in
    let r = read next cs v (ltb-true next (2 ^ 64) p.1) s.1 in
    record { digits = (digit-small c p.0, r.digits); value = ap (λ d. digits_value_after 10 (n * 10 + d) cs) (digit-value c p.0) ∙ r.value; small = r.small }

grows : (n : ℕ) (bs : List ℕ) → n ≤ digits_value_after 10 n bs
grows n [] = omega arith
grows n (c ∷ cs) = omega (arith, grows (n * 10 + digit_value c) cs)

written : (n : ℕ) (bs : List ℕ) → AllDigits 10 bs → digits_value_after 10 n bs < 2 ^ 64 → number_from n bs ≡ Some (digits_value_after 10 n bs)
written n [] a h = refl
written n (c ∷ cs) a h =
    let next = n * 10 + (c - 48) in
    let digit = digit-from c a.0 in
    let same : n * 10 + digit_value c ≡ next = ap (λ d. n * 10 + d) (digit-value c digit) in
    let after : digits_value_after 10 (n * 10 + digit_value c) cs ≡ digits_value_after 10 next cs = ap (λ m. digits_value_after 10 m cs) same in
    let below : digits_value_after 10 next cs < 2 ^ 64 = omega (arith, after) in
    let small : next < 2 ^ 64 = omega (arith, grows next cs) in
    let test : (is_ascii_digit c && nat_lt next (2 ^ 64)) ≡ true = and_from _ _ digit (lt-ltb next (2 ^ 64) small) in
    ap (λ t. cond t (number_from next cs) None) test ∙ (written next cs a.1 below ∙ ap Some (sym after))

plain_numerals : IsNumeralModel (AllDigits 10) (digits_value 10)
plain_numerals = numerals_by_value (AllDigits 10) tells_digits

-- what is read is written so
is-decimal : (bs : List ℕ) (v : ℕ) → 0 < length bs → (slice_index bs 0 ≡ 48 → length bs ≡ 1) → number_from 0 bs ≡ Some v → bs ≡ decimal v
is-decimal bs v some plain e =
    let r = read 0 bs v (omega arith) e in
    let small : digits_value 10 bs < 2 ^ 64 = omega (arith, r.value, r.small) in
    sym (decimal-digits_value plain_numerals bs r.digits some plain small) ∙ ap decimal r.value

-- what is written is read
pub number_from-decimal : (n : ℕ) (bs : List ℕ) → n < 2 ^ 64 → bs ≡ decimal n → number_from 0 bs ≡ Some n
number_from-decimal n bs h e =
    let d = decimal_is_IsNumeral n h in
    let small : digits_value_after 10 0 (decimal n) < 2 ^ 64 = omega (arith, d.1) in
    ap (number_from 0) e ∙ (written 0 (decimal n) d.0.1 small ∙ ap Some d.1)

-- and it has a digit, the first of them zero only alone
decimal-some : (n : ℕ) (bs : List ℕ) → n < 2 ^ 64 → bs ≡ decimal n → 0 < length bs
decimal-some n bs h e = rw e (decimal_is_IsNumeral n h).0.0

decimal-plain : (n : ℕ) (bs : List ℕ) → n < 2 ^ 64 → bs ≡ decimal n → slice_index bs 0 ≡ 48 → length bs ≡ 1
decimal-plain n bs h e z =
    elim (cases_order n 0) [
      | inl same ↦ ap length (e ∙ (ap decimal same ∙ decimal_digit 0 (omega arith)))
      | inr (inl below) ↦ absurd (omega arith)
      | inr (inr above) ↦ let first : 48 < get_or (decimal n) 0 0 = first_decimal n above h in let here : get_or (decimal n) 0 0 ≡ 48 = sym (ap (λ b. get_or b 0 0) e) ∙ z in absurd (omega arith)
    ]

-- a word of a digit or more, of which the first is zero only alone
abbrev pub IsPlain : List ℕ → Type 0
IsPlain bs = (0 < length bs) × (slice_index bs 0 ≡ 48 → length bs ≡ 1)

pub plain-read : (bs : List ℕ) (read : Option ℕ) → IsPlain bs → read ≡ number_from 0 bs → IfSome read (λ n. bs ≡ decimal n)
plain-read bs None plain e = tt
plain-read bs (Some n) plain e = is-decimal bs n plain.0 plain.1 (sym e)

pub decimal-is_plain : (n : ℕ) (bs : List ℕ) → n < 2 ^ 64 → bs ≡ decimal n → IsPlain bs
decimal-is_plain n bs h e = (decimal-some n bs h e, decimal-plain n bs h e)
