-- Putting a word in lower case changes nothing of whether it is a name.
use Rattle.std.proofs.Common.{◌≡◌, ℕ, Bool, true, false, ◌==◌, List, [], ◌∷◌, ap, refl, arith}
use Rattle.std.proofs.lemmas.Bool.Decides.{nat_tests}
use Rattle.std.specs.Char.{to_ascii_lowercase}
use Rattle.std.specs.List.{list_any}
use Rattle.std.specs.Str.{bytes_eq}
use Rattle.hw_text.specs.Name.{is_letter, is_letter_or_digit, is_name_tail, is_spelled_as_name, lowered, reserved_words, is_reserved, is_name}

letter-lower : (b : ℕ) → is_letter (to_ascii_lowercase b) ≡ is_letter b
letter-lower b = grind (arith, nat_tests)

word_byte-lower : (b : ℕ) → is_letter_or_digit (to_ascii_lowercase b) ≡ is_letter_or_digit b
word_byte-lower b = grind (arith, nat_tests)

underscore-lower : (b : ℕ) → (to_ascii_lowercase b == 95) ≡ (b == 95)
underscore-lower b = grind (arith, nat_tests)

lower-lower : (b : ℕ) → to_ascii_lowercase (to_ascii_lowercase b) ≡ to_ascii_lowercase b
lower-lower b = grind (arith, nat_tests)

pub lowered-lowered : (bs : List ℕ) → lowered (lowered bs) ≡ lowered bs
lowered-lowered [] = refl
lowered-lowered (b ∷ bs) = rw (lower-lower b, lowered-lowered bs) refl

tail-lowered : (after_underscore : Bool) (bs : List ℕ) → is_name_tail after_underscore (lowered bs) ≡ is_name_tail after_underscore bs
tail-lowered a [] = refl
tail-lowered a (b ∷ bs) = rw (word_byte-lower b, underscore-lower b, tail-lowered false bs, tail-lowered true bs) refl

spelled-lowered : (bs : List ℕ) → is_spelled_as_name (lowered bs) ≡ is_spelled_as_name bs
spelled-lowered [] = refl
spelled-lowered (b ∷ bs) = rw (letter-lower b, tail-lowered false bs) refl

reserved-lowered : (bs : List ℕ) → is_reserved (lowered bs) ≡ is_reserved bs
unfolding is_reserved
reserved-lowered bs = ap (λ (l : List ℕ). list_any (λ w. bytes_eq l (lowered w)) reserved_words) (lowered-lowered bs)

pub name-lowered : (bs : List ℕ) → is_name (lowered bs) ≡ is_name bs
name-lowered bs = rw (spelled-lowered bs, reserved-lowered bs) refl
