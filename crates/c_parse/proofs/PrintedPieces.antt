-- The words, names, literals and marks of which canonical texts are written.
use Rattle.std.proofs.Common.{◌≡◌, ◌==◌, ℕ, Bool, true, false, List, [], ◌∷◌, ◌++◌, codes, refl, sym, subst, arith}
use Rattle.std.proofs.lemmas.Bool.Decides.{nat_tests}
use Rattle.hw_text.specs.Name.{is_digit}
use Rattle.c_tree.specs.Names.{begins_name}
use Rattle.c_tree.specs.declared.identifier.Identifier.{Identifier}
use Rattle.c_tree.specs.declared.numeral.Numeral.{Numeral}
use Rattle.c_tree.specs.Types.{integer_text}
use Rattle.c_tree.specs.Printing.{truth_text}
use Rattle.c_tree.specs.declared.integer_type.IntegerType.{IntegerType}
use Rattle.c_parse.specs.Keywords.{keyword_text}
use Rattle.c_parse.specs.Marks.{mark_text}
use Rattle.c_parse.specs.PrintedExpressions.{integer_token, truth_token}
use Rattle.c_parse.specs.declared.keyword.Keyword.{Keyword}
use Rattle.c_parse.specs.declared.keyword.Keyword.TheVariants as keyword
use Rattle.c_parse.specs.declared.mark.Mark.{Mark}
use Rattle.c_parse.specs.declared.mark.Mark.TheVariants as mark
use Rattle.c_parse.specs.declared.token.Token.TheVariants as token
use Rattle.c_parse.proofs.LiteralFronts.{literal-digit, literal-stands}
use Rattle.c_parse.proofs.MarkFronts.{is_closed, closed-stands, before-space, NoSign, NoEqual, NoAnd, minus-stands, bang-stands, ampersand-stands}
use Rattle.c_parse.proofs.Standing.{StandsBefore}
use Rattle.c_parse.proofs.WordFronts.{Ended, name-letter, name-stands, keyword-stands}
use Rattle.c_parse.proofs.Written.{Writes, Anything, blank-behind, space}
use Rattle.c_parse.proofs.Written as written

pub name : (x : Identifier) → Writes Ended x.bytes (token.Name x ∷ [])
name x = written.token Ended x.bytes (token.Name x) (λ rest ended. name-stands x rest ended)

pub literal : (x : Numeral) → Writes Ended x.bytes (token.Literal x ∷ [])
literal x = written.token Ended x.bytes (token.Literal x) (λ rest ended. literal-stands x rest ended)

pub word : (w : Keyword) → Writes Ended (keyword_text w) (token.Keyword w ∷ [])
word w = written.token Ended (keyword_text w) (token.Keyword w) (λ rest ended. keyword-stands w rest ended)

pub integer : (c : IntegerType) → Writes Ended (integer_text c) (integer_token c ∷ [])
integer c = word (keyword.Integer c)

pub truth : (b : Bool) → Writes Ended (truth_text b) (truth_token b ∷ [])
truth true = word keyword.True
truth false = word keyword.False

-- a word with a space behind it
pub word_space : (w : Keyword) → Writes Anything (keyword_text w ++ codes " ") (token.Keyword w ∷ [])
word_space w = blank-behind (codes " ") space (word w) (λ rest. refl)

-- a mark that nothing goes on with
pub closed : (m : Mark) → is_closed m ≡ true → Writes Anything (mark_text m) (token.Mark m ∷ [])
closed m e = written.token Anything (mark_text m) (token.Mark m) (λ rest any. closed-stands m rest e)

-- what begins with a space
abbrev pub Spaced : List ℕ → Type 0
Spaced rest = (more : List ℕ) × (rest ≡ 32 ∷ more)

before_space : (m : Mark) → Writes Spaced (mark_text m) (token.Mark m ∷ [])
before_space m = written.token Spaced (mark_text m) (token.Mark m) (λ rest spaced. subst (λ (bs : List ℕ). StandsBefore (mark_text m) (token.Mark m) bs) (sym spaced.1) (before-space m spaced.0))

-- a mark with a space behind it
pub mark_space : (m : Mark) → Writes Anything (mark_text m ++ codes " ") (token.Mark m ∷ [])
mark_space m = blank-behind (codes " ") space (before_space m) (λ rest. (rest, refl))

pub minus : Writes NoSign (codes "-") (token.Mark mark.Minus ∷ [])
minus = written.token NoSign (codes "-") (token.Mark mark.Minus) (λ rest e. minus-stands rest e)

pub bang : Writes NoEqual (codes "!") (token.Mark mark.Bang ∷ [])
bang = written.token NoEqual (codes "!") (token.Mark mark.Bang) (λ rest e. bang-stands rest e)

pub ampersand : Writes NoAnd (codes "&") (token.Mark mark.Ampersand ∷ [])
ampersand = written.token NoAnd (codes "&") (token.Mark mark.Ampersand) (λ rest e. ampersand-stands rest e)

-- what an operator before an operand does not go on with
pub record NoOperator (rest : List ℕ) : Type 0 where
  pub no_sign : NoSign rest
  pub no_equal : NoEqual rest
  pub no_and : NoAnd rest

letter-no-dash : (b : ℕ) → begins_name b ≡ true → (b == 45) ≡ false
letter-no-dash b h = grind (arith, nat_tests)

letter-no-greater : (b : ℕ) → begins_name b ≡ true → (b == 62) ≡ false
letter-no-greater b h = grind (arith, nat_tests)

letter-no-equal : (b : ℕ) → begins_name b ≡ true → (b == 61) ≡ false
letter-no-equal b h = grind (arith, nat_tests)

letter-no-and : (b : ℕ) → begins_name b ≡ true → (b == 38) ≡ false
letter-no-and b h = grind (arith, nat_tests)

digit-no-dash : (b : ℕ) → is_digit b ≡ true → (b == 45) ≡ false
digit-no-dash b h = grind (arith, nat_tests)

digit-no-greater : (b : ℕ) → is_digit b ≡ true → (b == 62) ≡ false
digit-no-greater b h = grind (arith, nat_tests)

digit-no-equal : (b : ℕ) → is_digit b ≡ true → (b == 61) ≡ false
digit-no-equal b h = grind (arith, nat_tests)

digit-no-and : (b : ℕ) → is_digit b ≡ true → (b == 38) ≡ false
digit-no-and b h = grind (arith, nat_tests)

pub name-no-operator : (x : Identifier) (rest : List ℕ) → NoOperator (x.bytes ++ rest)
name-no-operator x rest =
    let first = name-letter x.bytes x.spelled in
    let b = first.0 in
    let letter = first.3 in
    subst (λ (bs : List ℕ). NoOperator (bs ++ rest)) (sym first.2)
    (record { no_sign = (letter-no-dash b letter, letter-no-greater b letter); no_equal = letter-no-equal b letter; no_and = letter-no-and b letter })

pub literal-no-operator : (x : Numeral) (rest : List ℕ) → NoOperator (x.bytes ++ rest)
literal-no-operator x rest =
    let first = literal-digit x.bytes x.spelled in
    let b = first.0 in
    let digit = first.3 in
    subst (λ (bs : List ℕ). NoOperator (bs ++ rest)) (sym first.2)
    (record { no_sign = (digit-no-dash b digit, digit-no-greater b digit); no_equal = digit-no-equal b digit; no_and = digit-no-and b digit })
