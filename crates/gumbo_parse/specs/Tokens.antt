-- The tokens of contracts (after SAE AS5506, lexical elements; docs/formats/contracts.md).
use Rattle.std.specs.Prelude.{ℕ, ◌^◌, ◌==◌, nat_lt, if◌then◌else◌, List, [], ◌∷◌, take, drop, Option, Some, None}
use Rattle.std.specs.Option.{option_map}
use Rattle.hw_text.specs.Name.{is_letter, is_digit, is_name, lowered}
use Rattle.hw_text.specs.declared.bytes.ByteClass.TheVariants.{Digits, LettersAndDigits}
use Rattle.hw_text.specs.Text.{run_length, decimal, text_length, begins_with}
use Rattle.gumbo_parse.specs.declared.token.Token.{Token}
use Rattle.gumbo_parse.specs.declared.token.Token.TheVariants as token
use Rattle.gumbo_parse.specs.declared.word.Word.{Word}
use Rattle.gumbo_parse.specs.Marks.{mark_at}
use Rattle.gumbo_parse.specs.Words.{word_named}

abbrev pub word_or_name : Option Word → List ℕ → Token
word_or_name (Some word) bs = token.Word word
word_or_name None bs = if is_name bs then token.Name (lowered bs) else token.Reserved

-- a word of contracts, or else a name, or else a word that is reserved in models
unfoldable pub word_token : List ℕ → Token × List ℕ
word_token bs =
    let word = take (run_length LettersAndDigits bs) bs in
    (word_or_name (word_named word) word, drop (run_length LettersAndDigits bs) bs)

-- a whole number; with one of 2^127 or more no token begins
unfoldable pub number_token : List ℕ → Option (Token × List ℕ)
number_token bs =
    let digits = take (run_length Digits bs) bs in
    if nat_lt (decimal 0 digits) (2 ^ 127) then Some (token.Number (decimal 0 digits), drop (run_length Digits bs) bs) else None

-- what stands behind a quote, up to the next quote on the line; with a quote that has none no token begins
unfoldable pub text_token : List ℕ → Option (Token × List ℕ)
text_token bs =
    let rest = drop (text_length bs) bs in
    if begins_with 34 rest then Some (token.Text (take (text_length bs) bs), drop 1 rest) else None

unfoldable pub mark_token : List ℕ → Option (Token × List ℕ)
mark_token bs = option_map (λ r. (token.Mark r.0, r.1)) (mark_at bs)

-- the longest token at the front, and the text behind it
unfoldable pub token_at : List ℕ → Option (Token × List ℕ)
token_at [] = None
token_at (b ∷ bs) =
    if is_letter b then Some (word_token (b ∷ bs))
    else if is_digit b then number_token (b ∷ bs)
    else if b == 34 then text_token bs
    else mark_token (b ∷ bs)
