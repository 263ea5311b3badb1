-- A name is one word.
use Rattle.std.proofs.Common.{◌≡◌, ℕ, ◌&&◌, eqb, Bool, true, false, not, cond, List, [], ◌∷◌, refl, arith}
use Rattle.std.proofs.lemmas.Bool.{and_parts, and_from}
use Rattle.std.proofs.lemmas.Bool.Decides.{nat_tests}
use Rattle.hw_text.specs.Name.{is_letter, is_letter_or_digit, is_name, is_name_tail, is_spelled_as_name, is_reserved}
use Rattle.hamr_cli.specs.TraceWord.{is_word_byte, IsWord}

letter-word : (b : ℕ) → is_letter_or_digit b ≡ true → is_word_byte b ≡ true
letter-word b e = grind (arith, nat_tests)

first-word : (b : ℕ) → is_letter b ≡ true → is_word_byte b ≡ true
first-word b e = grind (arith, nat_tests)

underscore-word : (b : ℕ) → eqb b 95 ≡ true → is_word_byte b ≡ true
underscore-word b e = grind (arith, nat_tests)

tail_step : (t after : Bool) (b : ℕ) (bs : List ℕ) → is_letter_or_digit b ≡ t →
    cond t (is_name_tail false bs) (eqb b 95 && (not after && is_name_tail true bs)) ≡ true →
    ((before : Bool) → is_name_tail before bs ≡ true → IsWord bs) → IsWord (b ∷ bs)
tail_step true after b bs t e later = and_from (is_word_byte b) _ (letter-word b t) (later false e)
tail_step false after b bs t e later =
    let p = and_parts (eqb b 95) (not after && is_name_tail true bs) e in
    let q = and_parts (not after) (is_name_tail true bs) p.1 in
    and_from (is_word_byte b) _ (underscore-word b p.0) (later true q.1)

tail-word : (after : Bool) (bs : List ℕ) → is_name_tail after bs ≡ true → IsWord bs
tail-word after [] e = refl
tail-word after (b ∷ bs) e = tail_step (is_letter_or_digit b) after b bs refl e (λ before f. tail-word before bs f)

spelled-word : (bs : List ℕ) → is_spelled_as_name bs ≡ true → IsWord bs
spelled-word [] e = refl
spelled-word (b ∷ bs) e =
    let p = and_parts (is_letter b) (is_name_tail false bs) e in
    and_from (is_word_byte b) _ (first-word b p.0) (tail-word false bs p.1)

pub name-word : (bs : List ℕ) → is_name bs ≡ true → IsWord bs
name-word bs e = spelled-word bs (and_parts (is_spelled_as_name bs) (not (is_reserved bs)) e).0
