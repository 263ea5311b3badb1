-- Numbers, digit by digit.
use Rattle.std.proofs.Common.{◌≡◌, ◌≤◌, ◌<◌, ℕ, ◌+◌, ◌*◌, Bool, true, false, List, [], ◌∷◌, length, get_or, drop, suc, drop-cons, ap, refl, arith, cond}
use Rattle.c_tree.specs.declared.byte_class.ByteClass.{ByteClass}
use Rattle.c_tree.specs.declared.byte_class.ByteClass.TheVariants.{Zero, Digit, HexDigit, BaseMark, Unsigned, Long}
use Rattle.c_tree.specs.Numerals.{is_in, base, digit_value, number_from}

base_grows : (class : ByteClass) (n : ℕ) → n ≤ n * base class
base_grows Zero n = omega arith
base_grows Digit n = omega arith
base_grows HexDigit n = omega arith
base_grows BaseMark n = omega arith
base_grows Unsigned n = omega arith
base_grows Long n = omega arith

number_step : (class : ByteClass) (n b : ℕ) (bs : List ℕ) (v : Bool) → ((m : ℕ) → m ≤ number_from class m bs) → n ≤ cond v (number_from class (n * base class + digit_value b) bs) n
number_step class n b bs true grows = omega (arith, base_grows class n, grows (n * base class + digit_value b))
number_step class n b bs false grows = omega arith

-- more digits make no smaller number
number_grows : (class : ByteClass) (bs : List ℕ) (n : ℕ) → n ≤ number_from class n bs
number_grows class [] n = omega arith
number_grows class (b ∷ bs) n = number_step class n b bs (is_in class b) (number_grows class bs)

-- the digits so far make no larger number than all of them
pub number_so_far : (class : ByteClass) (n i : ℕ) (ds : List ℕ) → i < length ds → is_in class (get_or ds i 0) ≡ true → number_from class n (drop i ds) ≡ number_from class 0 ds → n * base class + digit_value (get_or ds i 0) ≤ number_from class 0 ds
number_so_far class n i ds within digit made =
    let b = get_or ds i 0 in
    let parted : number_from class n (drop i ds) ≡ number_from class n (b ∷ drop (suc i) ds) = ap (λ xs. number_from class n xs) (drop-cons ds i 0 within) in
    let taken : number_from class n (b ∷ drop (suc i) ds) ≡ number_from class (n * base class + digit_value b) (drop (suc i) ds) = rw digit refl in
    omega (arith, number_grows class (drop (suc i) ds) (n * base class + digit_value b))
