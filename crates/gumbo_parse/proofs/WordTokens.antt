-- Names and words at the front of a text.
use Rattle.std.proofs.Common.{◌≡◌, ℕ, Bool, true, false, not, ◌&&◌, ◌==◌, is_some, List, [], ◌∷◌, ◌++◌, length, take, drop, Option, Some, None, refl, sym, ap, ◌∙◌, cond, add-one, arith}
use Rattle.std.proofs.Math.Seq.{take-append_seam, drop-append_seam}
use Rattle.std.proofs.lemmas.Bool.{and_parts, not-true, false≢true}
use Rattle.std.proofs.lemmas.Bool.Decides.{nat_tests}
use Rattle.hw_text.specs.Name.{is_letter, is_letter_or_digit, is_name_tail, is_spelled_as_name, is_reserved, is_name, lowered}
use Rattle.hw_text.specs.Text.{is_white, begins_in, run_length, skipped}
use Rattle.hw_text.specs.declared.bytes.ByteClass.TheVariants.{LettersAndDigits}
use Rattle.gumbo_parse.specs.declared.token.Token.{Token}
use Rattle.gumbo_parse.specs.declared.token.Token.TheVariants as token
use Rattle.gumbo_parse.specs.declared.word.Word.{Word}
use Rattle.gumbo_parse.specs.declared.word.Word.TheVariants as word
use Rattle.gumbo_parse.specs.Tokens.{word_or_name, word_token, token_at}
use Rattle.gumbo_parse.specs.Words.{word_spelling, word_named, is_identifier}
use Rattle.hw_reading.proofs.Runs.{Stops, run-over}
use Rattle.gumbo_parse.proofs.Written.{StandsBefore}

not-dash : (b : ℕ) → is_letter b ≡ true → (b == 45) ≡ false
not-dash b h = grind (arith, nat_tests)

not-white : (b : ℕ) → is_letter b ≡ true → is_white b ≡ false
not-white b h = grind (arith, nat_tests)

letter-kept : (b : ℕ) (bs : List ℕ) → is_letter b ≡ true → skipped (b ∷ bs) ≡ b ∷ bs
letter-kept b bs h = rw (not-dash b h, not-white b h) refl

tail-step : (u : Bool) (b : ℕ) (bs : List ℕ) (v : Bool) → is_letter_or_digit b ≡ v → cond v (is_name_tail false bs) ((b == 95) && (not u && is_name_tail true bs)) ≡ true → (is_name_tail false bs ≡ true → run_length LettersAndDigits bs ≡ length bs) → (is_name_tail true bs ≡ true → (run_length LettersAndDigits bs ≡ length bs) × (begins_in LettersAndDigits bs ≡ true)) → (run_length LettersAndDigits (b ∷ bs) ≡ length (b ∷ bs)) × (u ≡ true → is_letter_or_digit b ≡ true)
tail-step u b bs true h e plain behind = (rw (h, add-one, plain e) refl, λ _. h)
tail-step u b bs false h e plain behind =
    let parts = and_parts (b == 95) (not u && is_name_tail true bs) e in
    let inner = and_parts (not u) (is_name_tail true bs) parts.1 in
    let more = behind inner.1 in
    (rw (h, parts.0, more.1, add-one, more.0) refl, λ g. absurd (false≢true (sym (not-true u inner.0) ∙ g)))

-- what may stand behind the letter of a name is a run of letters and digits
tail-run : (u : Bool) (bs : List ℕ) → is_name_tail u bs ≡ true → (run_length LettersAndDigits bs ≡ length bs) × (u ≡ true → begins_in LettersAndDigits bs ≡ true)
tail-run true [] e = absurd (false≢true e)
tail-run false [] e = (refl, λ g. g)
tail-run u (b ∷ bs) e = tail-step u b bs (is_letter_or_digit b) refl e (λ g. (tail-run false bs g).0) (λ g. ((tail-run true bs g).0, (tail-run true bs g).1 refl))

spelled-run : (bs : List ℕ) → is_spelled_as_name bs ≡ true → run_length LettersAndDigits bs ≡ length bs
spelled-run [] e = refl
spelled-run (b ∷ bs) e =
    let parts = and_parts (is_letter b) (is_name_tail false bs) e in
    rw (parts.0, add-one, (tail-run false bs parts.1).0) refl

letter-front : (b : ℕ) (bs : List ℕ) → is_letter b ≡ true → token_at (b ∷ bs) ≡ Some (word_token (b ∷ bs))
unfolding token_at
letter-front b bs h = rw h refl

-- a word of which the length is known
word-at : (all w rest : List ℕ) (n : ℕ) → run_length LettersAndDigits all ≡ n → take n all ≡ w → drop n all ≡ rest → word_token all ≡ (word_or_name (word_named w) w, rest)
unfolding word_token
word-at all w rest n a b c = rw (a, b, c) refl

-- a word at the front, with a letter first
word-front : (b : ℕ) (bs rest : List ℕ) → is_letter b ≡ true → run_length LettersAndDigits (b ∷ bs) ≡ length (b ∷ bs) → Stops LettersAndDigits rest → token_at ((b ∷ bs) ++ rest) ≡ Some (word_or_name (word_named (b ∷ bs)) (b ∷ bs), rest)
word-front b bs rest letter run stops =
    let w : List ℕ = b ∷ bs in
    letter-front b (bs ++ rest) letter ∙
    ap (λ (p : Token × List ℕ). Some p) (word-at (w ++ rest) w rest (length w) (run-over LettersAndDigits w rest run stops) (take-append_seam w rest) (drop-append_seam w rest))

no-word : (o : Option Word) → is_some o ≡ false → o ≡ None
no-word None e = refl
no-word (Some w) e = absurd (false≢true (sym e))

pub letter-first : (n : List ℕ) → is_identifier n ≡ true → (b : ℕ) × (bs : List ℕ) × (n ≡ b ∷ bs) × (is_letter b ≡ true)
letter-first [] h = absurd (false≢true h)
letter-first (b ∷ bs) h =
    let name = (and_parts (is_name (b ∷ bs)) (not (is_some (word_named (b ∷ bs)))) h).0 in
    (b, bs, refl, (and_parts (is_letter b) (is_name_tail false bs) (and_parts (is_spelled_as_name (b ∷ bs)) (not (is_reserved (b ∷ bs))) name).0).0)

pub name-stands : (n rest : List ℕ) → is_identifier n ≡ true → lowered n ≡ n → Stops LettersAndDigits rest → StandsBefore n (token.Name n) rest
name-stands [] rest name lower stops = absurd (false≢true name)
name-stands (b ∷ bs) rest identifier lower stops =
    let both = and_parts (is_name (b ∷ bs)) (not (is_some (word_named (b ∷ bs)))) identifier in
    let parts = and_parts (is_spelled_as_name (b ∷ bs)) (not (is_reserved (b ∷ bs))) both.0 in
    let letter = (and_parts (is_letter b) (is_name_tail false bs) parts.0).0 in
    let none = no-word (word_named (b ∷ bs)) (not-true (is_some (word_named (b ∷ bs))) both.1) in
    (letter-kept b (bs ++ rest) letter, word-front b bs rest letter (spelled-run (b ∷ bs) parts.0) stops ∙ rw (none, both.0, lower) refl)

-- letters and digits that spell the word, the first a letter
abbrev pub IsSpelledSo : Word → List ℕ → Type 0
IsSpelledSo w [] = ⊥
IsSpelledSo w (b ∷ bs) = (is_letter b ≡ true) × (run_length LettersAndDigits (b ∷ bs) ≡ length (b ∷ bs)) × (word_named (b ∷ bs) ≡ Some w)

pub spelled-so : (w : Word) → IsSpelledSo w (word_spelling w)
unfolding word_named
spelled-so word.State = (refl, refl, refl)
spelled-so _ = (refl, refl, refl)

pub word-stands : (w : Word) (s rest : List ℕ) → IsSpelledSo w s → Stops LettersAndDigits rest → StandsBefore s (token.Word w) rest
word-stands w [] rest is stops = absurd is
word-stands w (b ∷ bs) rest is stops = (letter-kept b (bs ++ rest) is.0, word-front b bs rest is.0 is.1 stops ∙ rw is.2 refl)
