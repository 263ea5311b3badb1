-- Numbers at the front of a text.
use Rattle.std.proofs.Common.{◌≡◌, ℕ, ◌+◌, ◌≤◌, ◌^◌, suc, true, false, ◌&&◌, ◌==◌, nat_lt, List, [], ◌∷◌, ◌++◌, length, take, drop, Some, refl, sym, ap, ◌∙◌, subst, cond, add-one, append_assoc, arith}
use Rattle.std.proofs.Math.Seq.{take-append_seam, drop-append_seam}
use Rattle.std.proofs.lemmas.Bool.{and_parts, eqb-true, ltb-true, false≢true}
use Rattle.std.proofs.lemmas.Bool.Decides.{nat_tests}
use Rattle.std.proofs.lemmas.Fmt.{decimal_is_IsNumeral_wide}
use Rattle.std.proofs.lemmas.List.{length-append, take-append-drop}
use Rattle.std.proofs.lemmas.Str.Parse.{FoldsDigits, tells_digits, numerals_by_fold}
use Rattle.std.specs.Fmt.{decimal as written_decimal}
use Rattle.std.specs.Option.{option_map}
use Rattle.std.specs.Str.Parse.{AllDigits, IsNumeral}
use Rattle.hw_text.specs.Name.{is_letter, is_digit}
use Rattle.hw_text.specs.Text.{is_white, begins_with, begins_in, run_length, decimal, skipped}
use Rattle.hw_text.specs.declared.bytes.ByteClass.TheVariants.{Digits}
use Rattle.aadl_tree.specs.declared.token.Token.TheVariants as token
use Rattle.aadl_tree.specs.Text.{is_run_of_digits, is_real}
use Rattle.aadl_tree.specs.Tokens.{fraction_length, integer_token, real_token, number_token, token_at}
use Rattle.aadl_tree.proofs.Partings.{is_parted, parted-cases, parted-stops, StandsBefore}
use Rattle.aadl_tree.proofs.Runs.{run-over}

no-letter : (b : ℕ) → is_digit b ≡ true → is_letter b ≡ false
no-letter b h = grind (arith, nat_tests)

not-dash : (b : ℕ) → is_digit b ≡ true → (b == 45) ≡ false
not-dash b h = grind (arith, nat_tests)

not-white : (b : ℕ) → is_digit b ≡ true → is_white b ≡ false
not-white b h = grind (arith, nat_tests)

digit-front : (b : ℕ) (bs : List ℕ) → is_digit b ≡ true → (skipped (b ∷ bs) ≡ b ∷ bs) × (token_at (b ∷ bs) ≡ number_token (b ∷ bs))
unfolding token_at
digit-front b bs h = (rw (not-dash b h, not-white b h) refl, rw (no-letter b h, h) refl)

-- a number of which the parts are known
number-at : (all text rest : List ℕ) (whole fraction : ℕ) → run_length Digits all ≡ whole → fraction_length (drop whole all) ≡ fraction → take (whole + fraction) all ≡ text → drop (whole + fraction) all ≡ rest → number_token all ≡ option_map (λ t. (t, rest)) (cond (fraction == 0) (integer_token text) (real_token text))
unfolding number_token
number-at all text rest whole fraction a b c d = rw (a, b, c, d) refl

take-whole : (bs rest : List ℕ) (n : ℕ) → n ≡ length bs → take n (bs ++ rest) ≡ bs
take-whole bs rest n e = rw e (take-append_seam bs rest)

drop-whole : (bs rest : List ℕ) (n : ℕ) → n ≡ length bs → drop n (bs ++ rest) ≡ rest
drop-whole bs rest n e = rw e (drop-append_seam bs rest)

no-fraction : (rest : List ℕ) → is_parted rest ≡ true → fraction_length rest ≡ 0
no-fraction rest h = parted-cases (λ bs. fraction_length bs ≡ 0) refl (λ _. refl) (λ _. refl) (λ _. refl) (λ _. refl) rest h

a-digit : (c : ℕ) → 48 ≤ c → c ≤ 57 → is_digit c ≡ true
a-digit c low high = grind (arith, nat_tests)

digits-run : (ds : List ℕ) → AllDigits 10 ds → run_length Digits ds ≡ length ds
digits-run [] d = refl
digits-run (c ∷ cs) d =
    let parts = tells_digits.parts c cs d in
    rw (a-digit c parts.0.0 parts.0.1, digits-run cs parts.1, add-one) refl

folds : FoldsDigits decimal
folds = record { empty = λ n. refl; more = λ n c cs k. rw (a-digit c k.0 k.1) refl }

integer-front : (n : ℕ) (ds rest : List ℕ) → nat_lt n (2 ^ 127) ≡ true → IsNumeral 10 ds → decimal 0 ds ≡ n → is_parted rest ≡ true → (skipped (ds ++ rest) ≡ ds ++ rest) × (token_at (ds ++ rest) ≡ Some (token.Integer n, rest))
integer-front n [] rest small digits value h = absurd (omega (arith, digits.0))
integer-front n (b ∷ bs) rest small digits value h =
    let ds : List ℕ = b ∷ bs in
    let first = (tells_digits.parts b bs digits.1).0 in
    let front = digit-front b (bs ++ rest) (a-digit b first.0 first.1) in
    let run = run-over Digits ds rest (digits-run ds digits.1) (parted-stops Digits rest h) in
    let none : fraction_length (drop (length ds) (ds ++ rest)) ≡ 0 = ap fraction_length (drop-append_seam ds rest) ∙ no-fraction rest h in
    let all : length ds + 0 ≡ length ds = omega arith in
    (front.0, front.1 ∙ number-at (ds ++ rest) ds rest (length ds) 0 run none (take-whole ds rest (length ds + 0) all) (drop-whole ds rest (length ds + 0) all) ∙ rw (value, small) refl)

pub integer-stands : (n : ℕ) (rest : List ℕ) → nat_lt n (2 ^ 127) ≡ true → is_parted rest ≡ true → StandsBefore (token.Integer n) rest
integer-stands n rest small h =
    let numeral = decimal_is_IsNumeral_wide n (omega (arith, ltb-true n (2 ^ 127) small)) in
    let value = (numerals_by_fold (AllDigits 10) tells_digits decimal folds).same (written_decimal n) numeral.0.1 in
    integer-front n (written_decimal n) rest small numeral.0 (value ∙ numeral.1) h

no-zero : (n : ℕ) → (suc n == 0) ≡ false
no-zero n = grind (arith, nat_tests)

begins-on : (bs rest : List ℕ) → begins_in Digits bs ≡ true → begins_in Digits (bs ++ rest) ≡ true
begins-on [] rest h = absurd (false≢true h)
begins-on (b ∷ bs) rest h = h

-- the bytes before a point and those behind it, digits each
real-front : (w f rest : List ℕ) → is_real (w ++ 46 ∷ f) ≡ true → is_run_of_digits w ≡ true → is_run_of_digits f ≡ true → is_parted rest ≡ true → StandsBefore (token.Real (w ++ 46 ∷ f)) rest
real-front [] f rest real before behind h = absurd (false≢true before)
real-front (b ∷ bs) f rest real before behind h =
    let w : List ℕ = b ∷ bs in
    let r : List ℕ = w ++ 46 ∷ f in
    let left = and_parts (begins_in Digits w) (run_length Digits w == length w) before in
    let right = and_parts (begins_in Digits f) (run_length Digits f == length f) behind in
    let split : r ++ rest ≡ w ++ 46 ∷ (f ++ rest) = append_assoc w (46 ∷ f) rest in
    let run : run_length Digits (r ++ rest) ≡ length w =
    ap (run_length Digits) split ∙ run-over Digits w (46 ∷ (f ++ rest)) (eqb-true (run_length Digits w) (length w) left.1) (refl, refl) in
    let point : fraction_length (46 ∷ (f ++ rest)) ≡ suc (length f) =
    rw (begins-on f rest right.0, run-over Digits f rest (eqb-true (run_length Digits f) (length f) right.1) (parted-stops Digits rest h), add-one) refl in
    let fraction : fraction_length (drop (length w) (r ++ rest)) ≡ suc (length f) =
    ap (λ (x : List ℕ). fraction_length (drop (length w) x)) split ∙ ap fraction_length (drop-append_seam w (46 ∷ (f ++ rest))) ∙ point in
    let all : length w + suc (length f) ≡ length r = sym (length-append w (46 ∷ f)) in
    let front = digit-front b ((bs ++ 46 ∷ f) ++ rest) left.0 in
    (front.0, front.1 ∙ number-at (r ++ rest) r rest (length w) (suc (length f)) run fraction (take-whole r rest (length w + suc (length f)) all) (drop-whole r rest (length w + suc (length f)) all) ∙ rw (no-zero (length f), real) refl)

pointed : (bs : List ℕ) → begins_with 46 bs ≡ true → bs ≡ 46 ∷ drop 1 bs
pointed [] h = absurd (false≢true h)
pointed (b ∷ bs) h = ap (λ (x : ℕ). x ∷ bs) (eqb-true b 46 h)

pub real-stands : (r rest : List ℕ) → is_real r ≡ true → is_parted rest ≡ true → StandsBefore (token.Real r) rest
unfolding is_real
real-stands r rest real h =
    let whole = run_length Digits r in
    let w : List ℕ = take whole r in
    let v : List ℕ = drop whole r in
    let parts = and_parts (is_run_of_digits w) (nat_lt (decimal 0 w) (2 ^ 127) && (begins_with 46 v && is_run_of_digits (drop 1 v))) real in
    let more = and_parts (begins_with 46 v) (is_run_of_digits (drop 1 v)) (and_parts (nat_lt (decimal 0 w) (2 ^ 127)) (begins_with 46 v && is_run_of_digits (drop 1 v)) parts.1).1 in
    let is : r ≡ w ++ 46 ∷ drop 1 v = sym (take-append-drop whole r) ∙ ap (λ (x : List ℕ). w ++ x) (pointed v more.0) in
    subst (λ (x : List ℕ). StandsBefore (token.Real x) rest) (sym is)
    (real-front w (drop 1 v) rest (ap is_real (sym is) ∙ real) parts.0 more.1 h)
