-- The words, names, numbers and marks of which canonical texts are written.
use Rattle.std.proofs.Common.{◌≡◌, ◌==◌, ℕ, pos, true, false, List, [], ◌∷◌, ◌++◌, codes, refl, sym, subst, arith}
use Rattle.std.proofs.lemmas.Bool.{and_parts, or_parts}
use Rattle.std.proofs.lemmas.Bool.Decides.{nat_tests}
use Rattle.std.proofs.lemmas.List.Elements.{All-head}
use Rattle.std.proofs.lemmas.Slice.Eq.{bytes_eq-Decides}
use Rattle.std.specs.Fmt.{signed_decimal}
use Rattle.std.specs.Str.{bytes_eq}
use Rattle.hw_text.specs.Name.{is_letter, is_digit, lowered}
use Rattle.hw_text.specs.Text.{begins_in, begins_with}
use Rattle.hw_text.specs.declared.bytes.ByteClass.TheVariants.{Digits, LettersAndDigits}
use Rattle.gumbo_parse.specs.declared.mark.Mark.{Mark}
use Rattle.gumbo_parse.specs.declared.mark.Mark.TheVariants as mark
use Rattle.gumbo_parse.specs.declared.token.Token.{Token}
use Rattle.gumbo_parse.specs.declared.token.Token.TheVariants as token
use Rattle.gumbo_parse.specs.declared.word.Word.{Word}
use Rattle.gumbo_parse.specs.declared.word.Word.TheVariants as word
use Rattle.gumbo_parse.specs.Allowed.{IsAllowed, AreAllowed}
use Rattle.gumbo_parse.specs.Marks.{mark_spelling}
use Rattle.gumbo_parse.specs.Words.{word_spelling, word_named, is_identifier}
use Rattle.gumbo_parse.proofs.NumberTokens.{NoSign, number-stands}
use Rattle.hw_reading.proofs.Runs.{Stops}
use Rattle.gumbo_parse.proofs.Written.{StandsBefore}
use Rattle.gumbo_parse.proofs.SymbolTokens.{is_closed, closed-stands, before-space, dot-stands, minus-stands}
use Rattle.gumbo_parse.proofs.WordTokens.{letter-first, name-stands, spelled-so, word-stands}
use Rattle.gumbo_parse.proofs.Written.{Writes}
use Rattle.hw_reading.proofs.Written.{Anything, blank-behind}
use Rattle.hw_reading.proofs.Written as written

-- what goes on with no name, word or number
abbrev pub Ended : List ℕ → Type 0
Ended rest = Stops LettersAndDigits rest

pub space : (rest : List ℕ) → Ended (codes " " ++ rest)
space rest = (refl, refl)

same-bytes : (xs ys : List ℕ) → bytes_eq xs ys ≡ true → xs ≡ ys
same-bytes xs ys e = (bytes_eq-Decides xs ys).0 e

pub name : (n : List ℕ) → Writes Ended n (token.Name n ∷ [])
name n = written.token Ended n (token.Name n) (λ rest allowed ended.
    let parts = and_parts (is_identifier n) (bytes_eq (lowered n) n) allowed in
    name-stands n rest parts.0 (same-bytes (lowered n) n parts.1) ended)

pub a_word : (w : Word) → Writes Ended (word_spelling w) (token.Word w ∷ [])
a_word w = written.token Ended (word_spelling w) (token.Word w) (λ rest allowed ended. word-stands w (word_spelling w) rest (spelled-so w) ended)

-- `in` is the word `In`
pub in_word : Writes Ended (codes "in") (token.Word word.In ∷ [])
unfolding word_named
in_word = written.token Ended (codes "in") (token.Word word.In) (λ rest allowed ended. word-stands word.In (codes "in") rest (refl, refl, refl) ended)

no-digit : (rest : List ℕ) → begins_in LettersAndDigits rest ≡ false → begins_in Digits rest ≡ false
no-digit [] e = refl
no-digit (b ∷ bs) e = (or_parts (is_letter b) (is_digit b) e).1

pub number : (v : ℕ) → Writes Ended (signed_decimal (pos v)) (token.Number v ∷ [])
number v = written.token Ended (signed_decimal (pos v)) (token.Number v) (λ rest allowed ended. number-stands v rest allowed (no-digit rest ended.0, ended.1))

-- a mark that nothing goes on with
pub closed : (m : Mark) → is_closed m ≡ true → Writes Anything (mark_spelling m) (token.Mark m ∷ [])
closed m e = written.token Anything (mark_spelling m) (token.Mark m) (λ rest allowed any. closed-stands m rest e)

-- what begins with a space
abbrev pub Spaced : List ℕ → Type 0
Spaced rest = (more : List ℕ) × (rest ≡ 32 ∷ more)

pub any_mark : (m : Mark) → Writes Spaced (mark_spelling m) (token.Mark m ∷ [])
any_mark m = written.token Spaced (mark_spelling m) (token.Mark m) (λ rest allowed spaced. subst (λ (bs : List ℕ). StandsBefore (mark_spelling m) (token.Mark m) bs) (sym spaced.1) (before-space m spaced.0))

pub spaced : (m : Mark) → Writes Anything (mark_spelling m ++ codes " ") (token.Mark m ∷ [])
spaced m = blank-behind (codes " ") (λ rest. refl) (any_mark m) (λ rest. (rest, refl))

pub minus : Writes NoSign (codes "-") (token.Mark mark.Minus ∷ [])
minus = written.token NoSign (codes "-") (token.Mark mark.Minus) (λ rest allowed no_sign. minus-stands rest no_sign)

abbrev pub NoDot : List ℕ → Type 0
NoDot rest = begins_with 46 rest ≡ false

pub dot : Writes NoDot (codes ".") (token.Mark mark.Dot ∷ [])
dot = written.token NoDot (codes ".") (token.Mark mark.Dot) (λ rest allowed no_dot. dot-stands rest no_dot)

letter-no-dot : (b : ℕ) → is_letter b ≡ true → (b == 46) ≡ false
letter-no-dot b h = grind (arith, nat_tests)

letter-no-dash : (b : ℕ) → is_letter b ≡ true → (b == 45) ≡ false
letter-no-dash b h = grind (arith, nat_tests)

letter-no-greater : (b : ℕ) → is_letter b ≡ true → (b == 62) ≡ false
letter-no-greater b h = grind (arith, nat_tests)

identifier : (n : List ℕ) (us : List Token) → AreAllowed (token.Name n ∷ us) → is_identifier n ≡ true
identifier n us all = (and_parts (is_identifier n) (bytes_eq (lowered n) n) (All-head IsAllowed (token.Name n) us all)).0

pub name-no-dot : (n rest : List ℕ) (us : List Token) → AreAllowed (token.Name n ∷ us) → NoDot (n ++ rest)
name-no-dot n rest us all =
    let first = letter-first n (identifier n us all) in
    subst (λ (bs : List ℕ). NoDot (bs ++ rest)) (sym first.2) (letter-no-dot first.0 first.3)

pub name-no-sign : (n rest : List ℕ) (us : List Token) → AreAllowed (token.Name n ∷ us) → NoSign (n ++ rest)
name-no-sign n rest us all =
    let first = letter-first n (identifier n us all) in
    subst (λ (bs : List ℕ). NoSign (bs ++ rest)) (sym first.2) (letter-no-dash first.0 first.3, letter-no-greater first.0 first.3)
