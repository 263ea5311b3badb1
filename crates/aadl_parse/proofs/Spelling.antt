-- Words at the front of a text are spelled as names are, and are reserved or names.
use Rattle.std.proofs.Common.{◌≡◌, ℕ, ◌+◌, Bool, true, false, ◌&&◌, ◌||◌, ◌==◌, List, [], ◌∷◌, map, take, Option, Some, None, refl, add-one, cond}
use Rattle.std.specs.List.{list_any}
use Rattle.hw_text.specs.Name.{is_letter_or_digit, is_name_tail, is_spelled_as_name, is_same_word, is_reserved, is_name}
use Rattle.hw_text.specs.Text.{begins_in, run_length}
use Rattle.hw_text.specs.declared.bytes.ByteClass.TheVariants.{LettersAndDigits}
use Rattle.aadl_tree.specs.declared.word.Word.{Word}
use Rattle.aadl_tree.specs.Words.{word_spelling, all_words, word_among, word_named}
use Rattle.aadl_parse.specs.Fronts.{begins_with_letter}

either : (bs : List ℕ) → begins_in LettersAndDigits bs ≡ true → is_name_tail true (take (run_length LettersAndDigits bs) bs) ≡ is_name_tail false (take (run_length LettersAndDigits bs) bs)
either [] h = cc
either (b ∷ bs) h = rw (h, add-one, h) refl

tail-step : (b : ℕ) (bs : List ℕ) (v u w : Bool) → is_letter_or_digit b ≡ v → (b == 95) ≡ u → is_name_tail false (take (run_length LettersAndDigits bs) bs) ≡ true → (w ≡ true → is_name_tail true (take (run_length LettersAndDigits bs) bs) ≡ is_name_tail false (take (run_length LettersAndDigits bs) bs)) → is_name_tail false (take (cond (v || (u && w)) (run_length LettersAndDigits bs + 1) 0) (b ∷ bs)) ≡ true
tail-step b bs true u w e f same other = rw (add-one, e, same) refl
tail-step b bs false true true e f same other = rw (add-one, e, f, other refl, same) refl
tail-step b bs false true false e f same other = refl
tail-step b bs false false w e f same other = refl

-- a word's run of letters and digits may stand behind a letter
run-tail : (bs : List ℕ) → is_name_tail false (take (run_length LettersAndDigits bs) bs) ≡ true
run-tail [] = refl
run-tail (b ∷ bs) = tail-step b bs (is_letter_or_digit b) (b == 95) (begins_in LettersAndDigits bs) refl refl (run-tail bs) (either bs)

pub run-spelled : (bs : List ℕ) → begins_with_letter bs ≡ true → is_spelled_as_name (take (run_length LettersAndDigits bs) bs) ≡ true
run-spelled [] h = cc
run-spelled (b ∷ bs) h = rw (h, add-one, h, run-tail bs) refl

among-step : (w : Word) (found : Option Word) (same any : Bool) → cond same (Some w) found ≡ None → (found ≡ None → any ≡ false) → (same || any) ≡ false
among-step w found true any e none = cc
among-step w found false any e none = none e

among-any : (ws : List Word) (bs : List ℕ) → word_among ws bs ≡ None → list_any (is_same_word bs) (map word_spelling ws) ≡ false
among-any [] bs e = refl
among-any (w ∷ ws) bs e = among-step w (word_among ws bs) (is_same_word bs (word_spelling w)) (list_any (is_same_word bs) (map word_spelling ws)) e (among-any ws bs)

not-reserved : (bs : List ℕ) → word_named bs ≡ None → is_reserved bs ≡ false
unfolding word_named is_reserved
not-reserved bs e = among-any all_words bs e

-- what is spelled as a name and is no reserved word is a name
pub spelled-name : (bs : List ℕ) → is_spelled_as_name bs ≡ true → word_named bs ≡ None → is_name bs ≡ true
spelled-name bs spelled none = rw (spelled, not-reserved bs none) refl
