-- The bytes of a text: classes of bytes, blanks, comments, numbers, and what may stand between quotes (after SAE AS5506, lexical
-- elements; docs/formats/contracts.md).
use Rattle.std.specs.Prelude.{ℕ, ◌+◌, ◌-◌, ◌*◌, Bool, true, false, ◌&&◌, ◌||◌, not, ◌==◌, if◌then◌else◌, List, [], ◌∷◌, Option, Some, None}
use Rattle.hw_text.specs.Name.{is_digit, is_letter_or_digit}
use Rattle.hw_text.specs.declared.bytes.ByteClass.{ByteClass}
use Rattle.hw_text.specs.declared.bytes.ByteClass.TheVariants.{Digits, LettersAndDigits}

abbrev pub begins_with : ℕ → List ℕ → Bool
begins_with byte [] = false
begins_with byte (b ∷ bs) = b == byte

-- space, TAB, LF and CR
abbrev pub is_white : ℕ → Bool
is_white b = (b == 32) || ((b == 9) || ((b == 10) || (b == 13)))

-- the text behind white space and comments; a comment runs from `--` to the next LF or the end
abbrev pub skipped_from : Bool → List ℕ → List ℕ
skipped_from true [] = []
skipped_from true (b ∷ bs) = skipped_from (not (b == 10)) bs
skipped_from false [] = []
skipped_from false (b ∷ bs) =
    if (b == 45) && begins_with 45 bs then skipped_from true bs
    else (if is_white b then skipped_from false bs else b ∷ bs)

abbrev pub skipped : List ℕ → List ℕ
skipped bs = skipped_from false bs

abbrev pub is_in : ByteClass → ℕ → Bool
is_in Digits b = is_digit b
is_in LettersAndDigits b = is_letter_or_digit b

abbrev pub begins_in : ByteClass → List ℕ → Bool
begins_in class [] = false
begins_in class (b ∷ bs) = is_in class b

-- how far a word or number goes: its bytes, with single underscores between them
abbrev pub run_length : ByteClass → List ℕ → ℕ
run_length class [] = 0
run_length class (b ∷ bs) =
    if is_in class b || ((b == 95) && begins_in class bs) then run_length class bs + 1 else 0

-- the number, with one more digit behind it; an underscore is none
abbrev pub with_digit : ℕ → ℕ → ℕ
with_digit n b = if is_digit b then n * 10 + (b - 48) else n

-- the number in base ten, the digits before these having made `n`
abbrev pub decimal : ℕ → List ℕ → ℕ
decimal n [] = n
decimal n (b ∷ bs) = decimal (with_digit n b) bs

-- how many bytes stand before a quote, a line end, or the end
abbrev pub text_length : List ℕ → ℕ
text_length [] = 0
text_length (b ∷ bs) = if (b == 34) || (b == 10) then 0 else text_length bs + 1

-- the text behind these bytes, where it begins with them
abbrev pub behind_bytes : List ℕ → List ℕ → Option (List ℕ)
behind_bytes [] bs = Some bs
behind_bytes (c ∷ cs) [] = None
behind_bytes (c ∷ cs) (b ∷ bs) = if b == c then behind_bytes cs bs else None

-- the mark with what stands behind it, where that is there
abbrev pub mark_or : {M : Type 0} → M → Option (List ℕ) → Option (M × List ℕ) → Option (M × List ℕ)
mark_or m None other = other
mark_or m (Some rest) other = Some (m, rest)

-- the first of these marks that the text begins with, each as it is spelled, and the text behind it
abbrev pub mark_among : {M : Type 0} → (M → List ℕ) → List M → List ℕ → Option (M × List ℕ)
mark_among spelling [] bs = None
mark_among spelling (m ∷ ms) bs = mark_or m (behind_bytes (spelling m) bs) (mark_among spelling ms bs)
