-- The tokens of models (SAE AS5506, lexical elements; docs/formats/model.md).
use Rattle.std.specs.Prelude.{ℕ, ◌+◌, ◌^◌, ◌&&◌, ◌==◌, nat_lt, if◌then◌else◌, List, [], ◌∷◌, length, take, drop, codes, Option, Some, None}
use Rattle.std.specs.Option.{option_map}
use Rattle.hw_text.specs.Name.{is_letter, is_digit, lowered}
use Rattle.hw_text.specs.Text.{run_length, begins_in, begins_with, behind_bytes, decimal, text_length}
use Rattle.hw_text.specs.declared.bytes.ByteClass.TheVariants.{Digits, LettersAndDigits}
use Rattle.aadl_tree.specs.declared.token.Token.{Token}
use Rattle.aadl_tree.specs.declared.token.Token.TheVariants as token
use Rattle.aadl_tree.specs.declared.word.Word.{Word}
use Rattle.aadl_tree.specs.Marks.{mark_at}
use Rattle.aadl_tree.specs.Text.{quotable_length, annex_length, is_real}
use Rattle.aadl_tree.specs.Words.{word_named}

-- a reserved word, or else a name
abbrev pub word_or_name : Option Word → List ℕ → Token
word_or_name (Some word) bs = token.Word word
word_or_name None bs = token.Name (lowered bs)

unfoldable pub word_token : List ℕ → Token × List ℕ
word_token bs =
    let n = run_length LettersAndDigits bs in
    (word_or_name (word_named (take n bs)) (take n bs), drop n bs)

-- how far a point with digits behind it goes
abbrev pub fraction_length : List ℕ → ℕ
fraction_length [] = 0
fraction_length (b ∷ bs) = if (b == 46) && begins_in Digits bs then run_length Digits bs + 1 else 0

-- a real number, where one is written so
abbrev pub real_token : List ℕ → Option Token
real_token bs = if is_real bs then Some (token.Real bs) else None

-- a whole number below 2^127
abbrev pub integer_token : List ℕ → Option Token
integer_token bs = if nat_lt (decimal 0 bs) (2 ^ 127) then Some (token.Integer (decimal 0 bs)) else None

-- a number, with a fraction where one stands there; with 2^127 or more before the point no token begins
unfoldable pub number_token : List ℕ → Option (Token × List ℕ)
number_token bs =
    let whole = run_length Digits bs in
    let fraction = fraction_length (drop whole bs) in
    let text = take (whole + fraction) bs in
    option_map (λ t. (t, drop (whole + fraction) bs)) (if fraction == 0 then integer_token text else real_token text)

-- a text between quotes, spoilt where a byte that may not stand there is in it
abbrev pub quoted_token : List ℕ → Token
quoted_token bs = if quotable_length bs == length bs then token.Text bs else token.SpoiltText (quotable_length bs)

-- what stands behind a quote, up to the next quote on the line; with a quote that has none no token begins
unfoldable pub text_token : List ℕ → Option (Token × List ℕ)
text_token bs =
    let n = text_length bs in
    if begins_with 34 (drop n bs) then Some (quoted_token (take n bs), drop 1 (drop n bs)) else None

-- what stands behind `{**`, up to the first `**}`; with a `{**` that has none no token begins
unfoldable pub annex_token : List ℕ → Option (Token × List ℕ)
annex_token bs =
    let n = annex_length bs in
    option_map (λ after. (token.Annex (take n bs), after)) (behind_bytes (codes "**}") (drop n bs))

unfoldable pub mark_token : List ℕ → Option (Token × List ℕ)
mark_token bs = option_map (λ r. (token.Mark r.0, r.1)) (mark_at bs)

-- an annex text where the text behind `{**` is there, else a mark
abbrev pub annex_or_mark : Option (List ℕ) → List ℕ → Option (Token × List ℕ)
annex_or_mark (Some inner) bs = annex_token inner
annex_or_mark None bs = mark_token bs

-- the longest token at the front, and the text behind it
unfoldable pub token_at : List ℕ → Option (Token × List ℕ)
token_at [] = None
token_at (b ∷ bs) =
    if is_letter b then Some (word_token (b ∷ bs))
    else if is_digit b then number_token (b ∷ bs)
    else if b == 34 then text_token bs
    else annex_or_mark (behind_bytes (codes "{**") (b ∷ bs)) (b ∷ bs)
