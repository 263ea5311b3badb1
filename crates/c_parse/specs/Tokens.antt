-- The tokens of C (ISO/IEC 9899:2011, 6.4), as far as the subset has them (docs/formats/c.md).
use Rattle.std.specs.Prelude.{ℕ, ◌+◌, ◌-◌, Bool, false, ◌&&◌, ◌==◌, if◌then◌else◌, List, [], ◌∷◌, length, take, drop, Option, Some, None}
use Rattle.std.specs.Option.{option_map}
use Rattle.hw_text.specs.Name.{is_digit}
use Rattle.hw_text.specs.Text.{begins_with}
use Rattle.hw_text.specs.Places.{place_of_rest}
use Rattle.hw_text.specs.Tokens.{AreTokensOf}
use Rattle.hw_text.specs.declared.place.Place.{Place}
use Rattle.hw_text.specs.declared.placed.Placed.{Placed}
use Rattle.c_tree.specs.Names.{begins_name, continues_name}
use Rattle.c_tree.specs.Numerals.{past_numeral}
use Rattle.c_tree.specs.Spellings.{identifier_of, numeral_of}
use Rattle.c_tree.specs.declared.identifier.Identifier.{Identifier}
use Rattle.c_parse.specs.declared.token.Token.{Token}
use Rattle.c_parse.specs.declared.token.Token.TheVariants as token
use Rattle.c_parse.specs.declared.keyword.Keyword.{Keyword}
use Rattle.c_parse.specs.Keywords.{keyword_named}
use Rattle.c_parse.specs.Marks.{mark_at}
use Rattle.c_parse.specs.Blanks.{first_skipped, skipped}

-- how many letters, digits and underscores a text begins with
abbrev pub name_length : List ℕ → ℕ
name_length [] = 0
name_length (b ∷ bs) = if continues_name b then name_length bs + 1 else 0

-- a name, or else a word of C that the grammar does not use
abbrev pub name_or_reserved : Option Identifier → List ℕ → Token
name_or_reserved (Some name) bs = token.Name name
name_or_reserved None bs = token.Reserved bs

-- a word of the grammar, or else a name, or else another word of C
abbrev pub word_or_name : Option Keyword → List ℕ → Token
word_or_name (Some word) bs = token.Keyword word
word_or_name None bs = name_or_reserved (identifier_of bs) bs

unfoldable pub word_token : List ℕ → Token × List ℕ
word_token bs =
    let word = take (name_length bs) bs in
    (word_or_name (keyword_named word) word, drop (name_length bs) bs)

-- the longest literal; with one that no type holds no token begins
unfoldable pub literal_token : List ℕ → Option (Token × List ℕ)
literal_token bs =
    let spelling = take (length bs - length (past_numeral bs)) bs in
    option_map (λ literal. (token.Literal literal, past_numeral bs)) (numeral_of spelling)

-- the beginning of a comment, which stands here where it is not closed
abbrev pub begins_comment : List ℕ → Bool
begins_comment [] = false
begins_comment (b ∷ bs) = (b == 47) && begins_with 42 bs

-- a mark, but not the beginning of a comment
unfoldable pub mark_token : List ℕ → Option (Token × List ℕ)
mark_token bs =
    if begins_comment bs then None else option_map (λ r. (token.Mark r.0, r.1)) (mark_at bs)

-- the longest token at the front, and the text behind it
unfoldable pub token_at : List ℕ → Option (Token × List ℕ)
token_at [] = None
token_at (b ∷ bs) =
    if begins_name b then Some (word_token (b ∷ bs))
    else if is_digit b then literal_token (b ∷ bs)
    else mark_token (b ∷ bs)

-- where a text begins
abbrev pub start : Place
start = record { line = 1; column = 1 }

-- a text has these tokens, and then what begins no token; it is read whole where that is empty
abbrev pub HasTokens : List ℕ → List (Placed Token) → Place → List ℕ → Type 0
HasTokens bs ts end rest = AreTokensOf token_at skipped (place_of_rest start bs (first_skipped bs)) (first_skipped bs) ts end rest
