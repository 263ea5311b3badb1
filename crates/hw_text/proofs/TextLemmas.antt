-- Numbers, and what stands before a quote.
use Rattle.std.proofs.Common.{◌≡◌, ◌≤◌, ◌<◌, ℕ, ◌+◌, ◌-◌, ◌*◌, Bool, true, false, ◌||◌, ◌==◌, List, [], ◌∷◌, length, get_or, take, drop, suc, drop-cons, add-one, ap, refl, arith, cond}
use Rattle.hw_text.specs.Name.{is_digit}
use Rattle.hw_text.specs.Text.{with_digit, decimal, text_length}

digit_grows : (n b : ℕ) → n ≤ with_digit n b
digit_grows n b = elim (is_digit b) as (λ d. n ≤ cond d (n * 10 + (b - 48)) n) [ true ↦ omega arith | false ↦ omega arith ]

-- more digits make no smaller number
decimal_grows : (n : ℕ) (bs : List ℕ) → n ≤ decimal n bs
decimal_grows n [] = omega arith
decimal_grows n (b ∷ bs) = omega (arith, digit_grows n b, decimal_grows (with_digit n b) bs)

-- the digits so far make no larger number than all of them
pub decimal_so_far : (n i : ℕ) (ds : List ℕ) → i < length ds → decimal n (drop i ds) ≡ decimal 0 ds → with_digit n (get_or ds i 0) ≤ decimal 0 ds
decimal_so_far n i ds within made =
    let step : decimal n (drop i ds) ≡ decimal (with_digit n (get_or ds i 0)) (drop (suc i) ds) = ap (λ xs. decimal n xs) (drop-cons ds i 0 within) in
    omega (arith, decimal_grows (with_digit n (get_or ds i 0)) (drop (suc i) ds))

take-step : (b : ℕ) (bs : List ℕ) (v : Bool) → ((b == 34) || (b == 10)) ≡ v → text_length (take (text_length bs) bs) ≡ text_length bs → text_length (take (cond v 0 (text_length bs + 1)) (b ∷ bs)) ≡ cond v 0 (text_length bs + 1)
take-step b bs true e same = refl
take-step b bs false e same = rw (add-one, e, same, add-one) refl

-- what stands before a quote has no quote in it
pub text_length-take : (bs : List ℕ) → text_length (take (text_length bs) bs) ≡ text_length bs
text_length-take [] = refl
text_length-take (b ∷ bs) = take-step b bs ((b == 34) || (b == 10)) refl (text_length-take bs)
