-- Numbers and their bytes.
use Rattle.std.proofs.Common.{◌≡◌, ℕ, ◌+◌, ◌-◌, ◌*◌, ◌/◌, ◌%◌, ◌^◌, ◌<◌, ◌≤◌, zero, suc, List, [], ◌∷◌, ◌++◌, length, get_or, refl, sym, subst, append_assoc, arith}
use Rattle.std.proofs.Math.Nat.{pow-suc, pow-le-pow_right}
use Rattle.hw_types.specs.Value.{number_in, bytes_of_number, zeros}

abbrev pub AreBytes : List ℕ → Type 0
AreBytes [] = Unit {0}
AreBytes (b ∷ bs) = (b < 256) × AreBytes bs

pub number_in-lt : (bs : List ℕ) → AreBytes bs → number_in bs < 256 ^ length bs
number_in-lt [] are = omega arith
number_in-lt (b ∷ bs) are =
    let more : 256 ^ suc (length bs) ≡ 256 ^ length bs * 256 = pow-suc 256 (length bs) in
    let here : b + 256 * number_in bs < 256 ^ length bs * 256 = omega (arith, are.0, number_in-lt bs are.1) in
    subst (λ n. b + 256 * number_in bs < n) (sym more) here

pub number_in-small : (bs : List ℕ) → AreBytes bs → length bs ≤ 8 → number_in bs < 18446744073709551616
number_in-small bs are h =
    let top : 256 ^ length bs ≤ 256 ^ 8 = pow-le-pow_right (omega arith) h in
    omega (arith, number_in-lt bs are, top)

pub length-bytes_of_number : (w n : ℕ) → length (bytes_of_number w n) ≡ w
length-bytes_of_number zero n = refl
length-bytes_of_number (suc w) n = omega (arith, length-bytes_of_number w (n / 256))

pub length-zeros : (n : ℕ) → length (zeros n) ≡ n
length-zeros zero = refl
length-zeros (suc n) = omega (arith, length-zeros n)

pub number_in-bytes_of_number : (w n : ℕ) → n < 256 ^ w → number_in (bytes_of_number w n) ≡ n
number_in-bytes_of_number zero n h = omega (arith, h)
number_in-bytes_of_number (suc w) n h =
    let more : 256 ^ suc w ≡ 256 ^ w * 256 = pow-suc 256 w in
    let less : n / 256 < 256 ^ w = omega (arith, h, more) in
    omega (arith, number_in-bytes_of_number w (n / 256) less)

pub AreBytes-get : (bs : List ℕ) → ((i : ℕ) → i < length bs → get_or bs i 0 < 256) → AreBytes bs
AreBytes-get [] h = tt
AreBytes-get (b ∷ bs) h = (h 0 (omega arith), AreBytes-get bs (λ i less. h (suc i) (omega arith)))

-- the first byte and the number of the others give a number of 64 bits
pub number-fits : (b : ℕ) (bs rest : List ℕ) → ((i : ℕ) → get_or bs i 0 < 256) → bs ≡ b ∷ rest → length bs ≤ 8 →
    b + 256 * number_in rest < 18446744073709551616
number-fits b bs rest h e le =
    let are : AreBytes (b ∷ rest) = subst AreBytes e (AreBytes-get bs (λ i less. h i)) in
    let few : length (b ∷ rest) ≤ 8 = rw e at le in
    number_in-small (b ∷ rest) are few

pub push_step : (old new whole : List ℕ) (w i n k : ℕ) → i < w → new ≡ old ++ k ∷ [] → k ≡ n % 256 →
    old ++ bytes_of_number (w - i) n ≡ whole → new ++ bytes_of_number (w - (i + 1)) (n / 256) ≡ whole
push_step old new whole w i n k h is low e =
    let more : w - i ≡ suc (w - (i + 1)) = omega arith in
    let f : old ++ (n % 256 ∷ bytes_of_number (w - (i + 1)) (n / 256)) ≡ whole = rw more at e in
    rw (is, low, append_assoc) f

pub pad_step : (old new whole : List ℕ) (end i : ℕ) → i < end → new ≡ old ++ 0 ∷ [] →
    old ++ zeros (end - i) ≡ whole → new ++ zeros (end - (i + 1)) ≡ whole
pad_step old new whole end i h is e =
    let more : end - i ≡ suc (end - (i + 1)) = omega arith in
    let f : old ++ (0 ∷ zeros (end - (i + 1))) ≡ whole = rw more at e in
    rw (is, append_assoc) f
