-- Names and words at the front of a text.
use Rattle.std.proofs.Common.{◌≡◌, ℕ, Bool, true, false, not, ◌==◌, List, [], ◌∷◌, ◌++◌, length, take, drop, Option, Some, None, refl, sym, ap, ◌∙◌, cond, add-one, arith}
use Rattle.std.proofs.Math.Seq.{take-append_seam, drop-append_seam}
use Rattle.std.proofs.lemmas.Bool.{and_parts, not-true, false≢true}
use Rattle.std.proofs.lemmas.Bool.Decides.{nat_tests}
use Rattle.std.proofs.lemmas.Option.{same_Some}
use Rattle.std.proofs.lemmas.Slice.Eq.{bytes_eq-Decides}
use Rattle.std.specs.List.{list_all}
use Rattle.std.specs.Str.{bytes_eq}
use Rattle.hw_text.specs.Reading.{begins}
use Rattle.hw_types.specs.CWords.{is_c_word}
use Rattle.c_tree.specs.Names.{begins_name, continues_name, is_spelled_as_name, is_identifier}
use Rattle.c_tree.specs.Spellings.{identifier_of}
use Rattle.c_tree.proofs.Spellings.{identifier_of_bytes}
use Rattle.c_tree.specs.declared.identifier.Identifier.{Identifier}
use Rattle.c_tree.specs.declared.integer_type.IntegerType.TheVariants as integer
use Rattle.c_parse.specs.Blanks.{skipped}
use Rattle.c_parse.specs.Keywords.{keyword_text, all_keywords, keyword_among, keyword_named}
use Rattle.c_parse.specs.Tokens.{name_length, word_or_name, word_token, token_at}
use Rattle.c_parse.specs.declared.keyword.Keyword.{Keyword}
use Rattle.c_parse.specs.declared.keyword.Keyword.TheVariants as keyword
use Rattle.c_parse.specs.declared.token.Token.{Token}
use Rattle.c_parse.specs.declared.token.Token.TheVariants as token
use Rattle.c_parse.proofs.Standing.{StandsBefore}
use Rattle.c_parse.proofs.TokenKinds.{none-some}

-- what goes on with no name, word or literal
abbrev pub Ended : List ℕ → Type 0
Ended rest = begins continues_name rest ≡ false

-- the bytes that begin no blank
no-blank : (b : ℕ) (bs : List ℕ) → (b == 10) ≡ false → (b == 32) ≡ false → (b == 9) ≡ false → (b == 13) ≡ false → (b == 47) ≡ false → skipped (b ∷ bs) ≡ b ∷ bs
no-blank b bs line space tab return slash = rw (line, space, tab, return, slash) refl

no-line : (b : ℕ) → continues_name b ≡ true → (b == 10) ≡ false
no-line b h = grind (arith, nat_tests)

no-space : (b : ℕ) → continues_name b ≡ true → (b == 32) ≡ false
no-space b h = grind (arith, nat_tests)

no-tab : (b : ℕ) → continues_name b ≡ true → (b == 9) ≡ false
no-tab b h = grind (arith, nat_tests)

no-return : (b : ℕ) → continues_name b ≡ true → (b == 13) ≡ false
no-return b h = grind (arith, nat_tests)

no-slash : (b : ℕ) → continues_name b ≡ true → (b == 47) ≡ false
no-slash b h = grind (arith, nat_tests)

-- what stands in a name is no blank
pub word-kept : (b : ℕ) (bs : List ℕ) → continues_name b ≡ true → skipped (b ∷ bs) ≡ b ∷ bs
word-kept b bs h = no-blank b bs (no-line b h) (no-space b h) (no-tab b h) (no-return b h) (no-slash b h)

pub begins-continues : (b : ℕ) → begins_name b ≡ true → continues_name b ≡ true
begins-continues b h = grind (arith, nat_tests)

-- how far a word goes
run-over : (w rest : List ℕ) → list_all continues_name w ≡ true → Ended rest → name_length (w ++ rest) ≡ length w
run-over [] [] all ended = refl
run-over [] (r ∷ rest) all ended = rw ended refl
run-over (b ∷ w) rest all ended =
    let parts = and_parts (continues_name b) (list_all continues_name w) all in
    rw (parts.0, run-over w rest parts.1 ended, add-one) refl

-- a word of which the length is known
word-at : (all w rest : List ℕ) (n : ℕ) → name_length all ≡ n → take n all ≡ w → drop n all ≡ rest → word_token all ≡ (word_or_name (keyword_named w) w, rest)
unfolding word_token
word-at all w rest n a b c = rw (a, b, c) refl

letter-front : (b : ℕ) (bs : List ℕ) → begins_name b ≡ true → token_at (b ∷ bs) ≡ Some (word_token (b ∷ bs))
unfolding token_at
letter-front b bs h = rw h refl

word-front : (b : ℕ) (bs rest : List ℕ) → begins_name b ≡ true → list_all continues_name bs ≡ true → Ended rest → token_at ((b ∷ bs) ++ rest) ≡ Some (word_or_name (keyword_named (b ∷ bs)) (b ∷ bs), rest)
word-front b bs rest letter run ended =
    let w : List ℕ = b ∷ bs in
    let length_is : name_length (w ++ rest) ≡ length w = rw (begins-continues b letter, run-over bs rest run ended, add-one) refl in
    letter-front b (bs ++ rest) letter ∙
    ap (λ (p : Token × List ℕ). Some p) (word-at (w ++ rest) w rest (length w) length_is (take-append_seam w rest) (drop-append_seam w rest))

-- the first of some words that bytes spell is spelled by them
among-step : (v : Bool) (w u : Keyword) (more : Option Keyword) (bs : List ℕ) → bytes_eq bs (keyword_text w) ≡ v → cond v (Some w) more ≡ Some u → (more ≡ Some u → bs ≡ keyword_text u) → bs ≡ keyword_text u
among-step true w u more bs e is later = (bytes_eq-Decides bs (keyword_text w)).0 e ∙ ap keyword_text (same_Some w u is)
among-step false w u more bs e is later = later is

among-spelled : (ws : List Keyword) (bs : List ℕ) (u : Keyword) → keyword_among ws bs ≡ Some u → bs ≡ keyword_text u
among-spelled [] bs u is = absurd (none-some u is)
among-spelled (w ∷ ws) bs u is = among-step (bytes_eq bs (keyword_text w)) w u (keyword_among ws bs) bs refl is (λ later. among-spelled ws bs u later)

-- the words of the grammar are words of C
keyword-word : (w : Keyword) → is_c_word (keyword_text w) ≡ true
unfolding is_c_word
keyword-word keyword.Static = refl
keyword-word (keyword.Integer integer.I8) = refl
keyword-word (keyword.Integer _) = refl
keyword-word _ = refl

none-named : (bs : List ℕ) (o : Option Keyword) → keyword_named bs ≡ o → is_c_word bs ≡ false → o ≡ None
unfolding keyword_named
none-named bs None is other = refl
none-named bs (Some w) is other =
    absurd (false≢true (sym other ∙ ap is_c_word (among-spelled all_keywords bs w is) ∙ keyword-word w))

pub name-letter : (n : List ℕ) → is_identifier n ≡ true → (b : ℕ) × (bs : List ℕ) × (n ≡ b ∷ bs) × (begins_name b ≡ true)
unfolding is_identifier
name-letter [] h = absurd (false≢true h)
name-letter (b ∷ bs) h =
    (b, bs, refl, (and_parts (begins_name b) (list_all continues_name bs) (and_parts (is_spelled_as_name (b ∷ bs)) (not (is_c_word (b ∷ bs))) h).0).0)

stands-so : (n rest : List ℕ) (x : Identifier) → identifier_of n ≡ Some x → is_identifier n ≡ true → Ended rest → StandsBefore n (token.Name x) rest
unfolding is_identifier
stands-so [] rest x is name ended = absurd (false≢true name)
stands-so (b ∷ bs) rest x is name ended =
    let both = and_parts (is_spelled_as_name (b ∷ bs)) (not (is_c_word (b ∷ bs))) name in
    let parts = and_parts (begins_name b) (list_all continues_name bs) both.0 in
    let none = none-named (b ∷ bs) (keyword_named (b ∷ bs)) refl (not-true (is_c_word (b ∷ bs)) both.1) in
    (word-kept b (bs ++ rest) (begins-continues b parts.0), word-front b bs rest parts.0 parts.1 ended ∙ rw (none, is) refl)

pub name-stands : (x : Identifier) (rest : List ℕ) → Ended rest → StandsBefore x.bytes (token.Name x) rest
name-stands x rest ended = stands-so x.bytes rest x (identifier_of_bytes x) x.spelled ended

-- letters that spell the word
abbrev IsSpelledSo : Keyword → List ℕ → Type 0
IsSpelledSo w [] = ⊥
IsSpelledSo w (b ∷ bs) = (begins_name b ≡ true) × (list_all continues_name bs ≡ true) × (keyword_named (b ∷ bs) ≡ Some w)

spelled-so : (w : Keyword) → IsSpelledSo w (keyword_text w)
unfolding keyword_named
spelled-so keyword.Static = (refl, refl, refl)
spelled-so (keyword.Integer integer.I8) = (refl, refl, refl)
spelled-so (keyword.Integer _) = (refl, refl, refl)
spelled-so _ = (refl, refl, refl)

pub keyword-stands : (w : Keyword) (rest : List ℕ) → Ended rest → StandsBefore (keyword_text w) (token.Keyword w) rest
keyword-stands w rest ended = at (keyword_text w) (spelled-so w)
  where
    at : (s : List ℕ) → IsSpelledSo w s → StandsBefore s (token.Keyword w) rest
    at [] is = absurd is
    at (b ∷ bs) is = (word-kept b (bs ++ rest) (begins-continues b is.0), word-front b bs rest is.0 is.1 ended ∙ rw is.2 refl)
