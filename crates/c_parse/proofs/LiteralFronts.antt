-- Literals at the front of a text.
use Rattle.std.proofs.Common.{◌≡◌, ℕ, ◌-◌, Bool, true, false, ◌&&◌, ◌==◌, if◌then◌else◌, List, [], ◌∷◌, ◌++◌, length, length-append, take, drop, Some, is_some, refl, sym, ap, ◌∙◌, cond, arith}
use Rattle.std.proofs.Math.Seq.{take-append_seam}
use Rattle.std.proofs.lemmas.Bool.{and_parts, false≢true}
use Rattle.std.proofs.lemmas.Bool.Decides.{nat_tests}
use Rattle.hw_text.specs.Name.{is_digit}
use Rattle.c_tree.specs.Numerals.{is_in, begins_in, past_one, past_all, begins_hex, past_digits, past_numeral, numeral_type, is_empty, is_numeral}
use Rattle.c_tree.specs.Spellings.{numeral_of}
use Rattle.c_tree.proofs.Spellings.{numeral_of_bytes}
use Rattle.c_tree.specs.declared.numeral.Numeral.{Numeral}
use Rattle.c_tree.specs.Names.{begins_name, continues_name}
use Rattle.c_tree.specs.declared.byte_class.ByteClass.{ByteClass}
use Rattle.c_tree.specs.declared.byte_class.ByteClass.TheVariants.{Zero, Digit, HexDigit, BaseMark, Unsigned, Long}
use Rattle.c_parse.specs.Tokens.{literal_token, token_at}
use Rattle.c_parse.specs.declared.token.Token.TheVariants as token
use Rattle.c_parse.proofs.Standing.{StandsBefore}
use Rattle.c_parse.proofs.WordFronts.{Ended, word-kept}

-- each class of bytes in literals is of those in names
in-class : (c : ByteClass) (b : ℕ) → continues_name b ≡ false → is_in c b ≡ false
in-class Zero b h = grind (arith, nat_tests)
in-class Digit b h = grind (arith, nat_tests)
in-class HexDigit b h = grind (arith, nat_tests)
in-class BaseMark b h = grind (arith, nat_tests)
in-class Unsigned b h = grind (arith, nat_tests)
in-class Long b h = grind (arith, nat_tests)

none-ahead : (c : ByteClass) (rest : List ℕ) → Ended rest → begins_in c rest ≡ false
none-ahead c [] ended = refl
none-ahead c (r ∷ rest) ended = in-class c r ended

one-over : (c : ByteClass) (bs rest : List ℕ) → Ended rest → past_one c (bs ++ rest) ≡ past_one c bs ++ rest
one-over c [] rest ended = rw (none-ahead c rest ended) refl
one-over c (b ∷ bs) rest ended =
    elim (is_in c b) as (λ v. cond v (bs ++ rest) (b ∷ (bs ++ rest)) ≡ cond v bs (b ∷ bs) ++ rest) [ true ↦ refl | false ↦ refl ]

all-over : (c : ByteClass) (bs rest : List ℕ) → Ended rest → past_all c (bs ++ rest) ≡ past_all c bs ++ rest
all-over c [] [] ended = refl
all-over c [] (r ∷ rest) ended = rw (in-class c r ended) refl
all-over c (b ∷ bs) rest ended =
    let more = all-over c bs rest ended in
    elim (is_in c b) as (λ v. cond v (past_all c (bs ++ rest)) (b ∷ (bs ++ rest)) ≡ cond v (past_all c bs) (b ∷ bs) ++ rest) [ true ↦ more | false ↦ refl ]

-- the digits of decimal literals
abbrev decimal : List ℕ → List ℕ
decimal bs = if begins_in Zero bs then drop 1 bs else past_all Digit bs

decimal-over : (b : ℕ) (bs rest : List ℕ) → Ended rest → decimal ((b ∷ bs) ++ rest) ≡ decimal (b ∷ bs) ++ rest
decimal-over b bs rest ended =
    let more = all-over Digit (b ∷ bs) rest ended in
    elim (is_in Zero b) as (λ v. cond v (bs ++ rest) (past_all Digit ((b ∷ bs) ++ rest)) ≡ cond v bs (past_all Digit (b ∷ bs)) ++ rest) [ true ↦ refl | false ↦ more ]

no-hex : (bs : List ℕ) → begins_hex bs ≡ false → past_digits bs ≡ decimal bs
no-hex bs e = rw e refl

and-false : (x : Bool) → (x && false) ≡ false
and-false true = refl
and-false false = refl

one-no-hex : (a : ℕ) (rest : List ℕ) → Ended rest → begins_hex (a ∷ rest) ≡ false
one-no-hex a rest ended = rw (none-ahead BaseMark rest ended) (and-false (a == 48))

two-no-hex : (a b : ℕ) (rest : List ℕ) → Ended rest → begins_hex (a ∷ b ∷ rest) ≡ false
two-no-hex a b rest ended = rw (none-ahead HexDigit rest ended, and-false (b == 120)) (and-false (a == 48))

digits-over : (b : ℕ) (bs rest : List ℕ) → Ended rest → past_digits ((b ∷ bs) ++ rest) ≡ past_digits (b ∷ bs) ++ rest
digits-over a [] rest ended =
    no-hex (a ∷ rest) (one-no-hex a rest ended) ∙ decimal-over a [] rest ended ∙
    ap (λ (l : List ℕ). l ++ rest) (sym (no-hex (a ∷ []) (one-no-hex a [] refl)))
digits-over a (b ∷ []) rest ended =
    no-hex (a ∷ b ∷ rest) (two-no-hex a b rest ended) ∙ decimal-over a (b ∷ []) rest ended ∙
    ap (λ (l : List ℕ). l ++ rest) (sym (no-hex (a ∷ b ∷ []) (two-no-hex a b [] refl)))
digits-over a (b ∷ c ∷ bs) rest ended =
    let hex = all-over HexDigit (c ∷ bs) rest ended in
    let plain = decimal-over a (b ∷ c ∷ bs) rest ended in
    elim ((a == 48) && ((b == 120) && is_in HexDigit c))
    as (λ v. cond v (past_all HexDigit ((c ∷ bs) ++ rest)) (decimal ((a ∷ b ∷ c ∷ bs) ++ rest)) ≡ cond v (past_all HexDigit (c ∷ bs)) (decimal (a ∷ b ∷ c ∷ bs)) ++ rest) [ true ↦ hex | false ↦ plain ]

-- a literal goes as far with something behind it that goes on with no name
numeral-over : (b : ℕ) (bs rest : List ℕ) → Ended rest → past_numeral ((b ∷ bs) ++ rest) ≡ past_numeral (b ∷ bs) ++ rest
numeral-over b bs rest ended =
    let digits : List ℕ = past_digits (b ∷ bs) in
    ap (λ (l : List ℕ). past_one Long (past_one Long (past_one Unsigned l))) (digits-over b bs rest ended) ∙
    ap (λ (l : List ℕ). past_one Long (past_one Long l)) (one-over Unsigned digits rest ended) ∙
    ap (λ (l : List ℕ). past_one Long l) (one-over Long (past_one Unsigned digits) rest ended) ∙
    one-over Long (past_one Long (past_one Unsigned digits)) rest ended

empty-is : (bs : List ℕ) → is_empty bs ≡ true → bs ≡ []
empty-is [] e = refl
empty-is (b ∷ bs) e = absurd (false≢true e)

digit-no-letter : (b : ℕ) → is_digit b ≡ true → begins_name b ≡ false
digit-no-letter b h = grind (arith, nat_tests)

digit-continues : (b : ℕ) → is_digit b ≡ true → continues_name b ≡ true
digit-continues b h = grind (arith, nat_tests)

literal-front : (n all rest : List ℕ) (x : Numeral) → all ≡ n ++ rest → past_numeral all ≡ rest → numeral_of n ≡ Some x → literal_token all ≡ Some (token.Literal x, rest)
unfolding literal_token
literal-front n all rest x is past numeral =
    let width : length all - length rest ≡ length n = ap (λ (l : List ℕ). length l - length rest) is ∙ omega (arith, length-append n rest) in
    let spelling : take (length all - length (past_numeral all)) all ≡ n =
    ap (λ (l : List ℕ). take (length all - length l) all) past ∙ ap (λ (k : ℕ). take k all) width ∙ ap (λ (l : List ℕ). take (length n) l) is ∙ take-append_seam n rest in
    rw (spelling, numeral, past) refl

digit-front : (b : ℕ) (bs : List ℕ) → is_digit b ≡ true → token_at (b ∷ bs) ≡ literal_token (b ∷ bs)
unfolding token_at
digit-front b bs h = rw (digit-no-letter b h, h) refl

pub literal-digit : (n : List ℕ) → is_numeral n ≡ true → (b : ℕ) × (bs : List ℕ) × (n ≡ b ∷ bs) × (is_digit b ≡ true)
unfolding is_numeral
literal-digit [] h = absurd (false≢true h)
literal-digit (b ∷ bs) h = (b, bs, refl, (and_parts (is_digit b) (is_empty (past_numeral (b ∷ bs)) && is_some (numeral_type (b ∷ bs))) h).0)

stands-so : (n rest : List ℕ) (x : Numeral) → numeral_of n ≡ Some x → is_numeral n ≡ true → Ended rest → StandsBefore n (token.Literal x) rest
unfolding is_numeral
stands-so [] rest x is numeral ended = absurd (false≢true numeral)
stands-so (b ∷ bs) rest x is numeral ended =
    let parts = and_parts (is_digit b) (is_empty (past_numeral (b ∷ bs)) && is_some (numeral_type (b ∷ bs))) numeral in
    let none = empty-is (past_numeral (b ∷ bs)) (and_parts (is_empty (past_numeral (b ∷ bs))) (is_some (numeral_type (b ∷ bs))) parts.1).0 in
    let past : past_numeral ((b ∷ bs) ++ rest) ≡ rest = numeral-over b bs rest ended ∙ ap (λ (l : List ℕ). l ++ rest) none in
    (word-kept b (bs ++ rest) (digit-continues b parts.0), digit-front b (bs ++ rest) parts.0 ∙ literal-front (b ∷ bs) ((b ∷ bs) ++ rest) rest x refl past is)

pub literal-stands : (x : Numeral) (rest : List ℕ) → Ended rest → StandsBefore x.bytes (token.Literal x) rest
literal-stands x rest ended = stands-so x.bytes rest x (numeral_of_bytes x) x.spelled ended
