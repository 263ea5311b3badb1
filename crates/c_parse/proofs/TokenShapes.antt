-- The shapes of the tokens of C: the spelling of a word or a mark, and the kind of another token. What each test of tokens means in
-- shapes, and how single tokens begin.
use Rattle.std.proofs.Common.{◌≡◌, ◌∙◌, refl, sym, ℕ, List, [], ◌∷◌, ◌++◌, map, Bool, true, false, ◌||◌, Option, Some}
use Rattle.std.specs.Prelude.{is_some}
use Rattle.std.specs.List.{list_all}
use Rattle.std.specs.Str.{bytes_eq}
use Rattle.hw_text.specs.declared.place.Place.{Place}
use Rattle.hw_text.specs.declared.placed.Placed.{Placed}
use Rattle.hw_text.specs.Language.{One}
use Rattle.c_tree.specs.declared.integer_type.IntegerType.TheVariants as integer
use Rattle.c_parse.specs.declared.keyword.Keyword.{Keyword}
use Rattle.c_parse.specs.declared.keyword.Keyword.TheVariants as keyword
use Rattle.c_parse.specs.declared.mark.Mark.{Mark}
use Rattle.c_parse.specs.declared.mark.Mark.TheVariants as mark
use Rattle.c_parse.specs.declared.token.Token.{Token}
use Rattle.c_parse.specs.declared.token.Token.TheVariants as token
use Rattle.c_parse.specs.Keywords.{keyword_text, all_keywords}
use Rattle.c_parse.specs.Marks.{mark_text, all_marks}
use Rattle.c_parse.specs.Values.{Tokens, found, mark_in, keyword_in, again_in, zero_in, again_of, literal_of, integer_of, truth_of, zero_of, is_mark, is_word, is_name, is_literal, is_integer, is_plain_type, is_truth}
use Rattle.c_tree.specs.declared.dialect.Dialect.{Dialect}
use Rattle.c_tree.specs.declared.identifier.Identifier.{Identifier}
use Rattle.c_tree.specs.declared.numeral.Numeral.{Numeral}
use Rattle.c_parse.specs.Levels.{loosest_level, prefix_level}
use Rattle.c_parse.specs.Operators.{unary_of, is_unary, is_part, is_selector, goes_on, right_goes_on}
use Rattle.c_parse.specs.ExpressionGrammar.{Sign, Name, InFull}
use Rattle.c_parse.specs.CallGrammar.{Word}
use Rattle.c_parse.proofs.Shapes.{has, is_within, one, wider, as_other}
use Rattle.c_parse.proofs.Shapes as shapes
use Rattle.c_parse.proofs.Spellings.{by_word, by_mark, alike}
use Rattle.c_parse.proofs.TokenKinds.{none-some, some-is}

abbrev pub sign_shape : Mark → List ℕ
sign_shape m = 0 ∷ mark_text m

abbrev pub word_shape : Keyword → List ℕ
word_shape w = 1 ∷ keyword_text w

abbrev pub name_shape : List ℕ
name_shape = 2 ∷ []

abbrev pub literal_shape : List ℕ
literal_shape = 3 ∷ []

abbrev shape_in : Token → List ℕ
shape_in (token.Name n) = name_shape
shape_in (token.Literal n) = literal_shape
shape_in (token.Reserved n) = 4 ∷ []
shape_in (token.Keyword w) = word_shape w
shape_in (token.Mark m) = sign_shape m

abbrev pub shape : Placed Token → List ℕ
shape t = shape_in t.token

abbrev put : Token → Place → Placed Token
put t p = record { token = t; place = p }

abbrev pub integers : List (List ℕ)
integers = map (λ c. word_shape (keyword.Integer c)) (integer.I8 ∷ integer.I16 ∷ integer.I32 ∷ integer.I64 ∷ integer.U8 ∷ integer.U16 ∷ integer.U32 ∷ integer.U64 ∷ [])

abbrev pub truths : List (List ℕ)
truths = word_shape keyword.True ∷ word_shape keyword.False ∷ []

abbrev pub starts_so : List (List ℕ) → Placed Token → Bool
starts_so xs t = has xs (shape t)

abbrev pub Means : (Placed Token → Bool) → List (List ℕ) → Type 0
Means = shapes.Means shape

abbrev pub Starts : {X : Type 0} → List (List ℕ) → (X → Tokens → Type 0) → Type 0
Starts = shapes.Starts shape

found-is : (b : Bool) (at : Place) → is_some (found b at) ≡ (b || false)
found-is true at = refl
found-is false at = refl

pub this_sign : (m : Mark) → Means (is_mark m) (sign_shape m ∷ [])
this_sign m = record { is = λ t. at t.token t.place }
  where
    at : (t : Token) (p : Place) → is_some (mark_in m t p) ≡ has (sign_shape m ∷ []) (shape_in t)
    at (token.Name n) p = refl
    at (token.Literal n) p = refl
    at (token.Reserved n) p = refl
    at (token.Keyword w) p = refl
    at (token.Mark n) p = found-is (bytes_eq (mark_text n) (mark_text m)) p

pub this_word : (w : Keyword) → Means (is_word w) (word_shape w ∷ [])
this_word w = record { is = λ t. at t.token t.place }
  where
    at : (t : Token) (p : Place) → is_some (keyword_in w t p) ≡ has (word_shape w ∷ []) (shape_in t)
    at (token.Name n) p = refl
    at (token.Literal n) p = refl
    at (token.Reserved n) p = refl
    at (token.Mark n) p = refl
    at (token.Keyword v) p = found-is (bytes_eq (keyword_text v) (keyword_text w)) p

-- what a test means in shapes, by computing it at each mark and word, and at the other kinds
pub by_kinds : (test : Placed Token → Bool) (xs : List (List ℕ)) → ((p : Place) → list_all (λ m. alike (test (put (token.Mark m) p)) (has xs (sign_shape m))) all_marks ≡ true) → ((p : Place) → list_all (λ w. alike (test (put (token.Keyword w) p)) (has xs (word_shape w))) all_keywords ≡ true) → ((n : Identifier) (p : Place) → test (put (token.Name n) p) ≡ has xs name_shape) → ((n : Numeral) (p : Place) → test (put (token.Literal n) p) ≡ has xs literal_shape) → ((n : List ℕ) (p : Place) → test (put (token.Reserved n) p) ≡ has xs (4 ∷ [])) → Means test xs
by_kinds test xs marks words name literal reserved = record { is = λ t. at t.token t.place }
  where
    at : (t : Token) (p : Place) → test (put t p) ≡ has xs (shape_in t)
    at (token.Name n) p = name n p
    at (token.Literal n) p = literal n p
    at (token.Reserved n) p = reserved n p
    at (token.Keyword w) p = by_word (λ v. test (put (token.Keyword v) p)) (λ v. has xs (word_shape v)) (words p) w
    at (token.Mark n) p = by_mark (λ m. test (put (token.Mark m) p)) (λ m. has xs (sign_shape m)) (marks p) n

pub a_name : Means is_name (name_shape ∷ [])
a_name = by_kinds is_name (name_shape ∷ []) (λ p. refl) (λ p. refl) (λ n p. refl) (λ n p. refl) (λ n p. refl)

pub a_literal : Means is_literal (literal_shape ∷ [])
a_literal = by_kinds is_literal (literal_shape ∷ []) (λ p. refl) (λ p. refl) (λ n p. refl) (λ n p. refl) (λ n p. refl)

pub an_integer : Means is_integer integers
an_integer = by_kinds is_integer integers (λ p. refl) (λ p. refl) (λ n p. refl) (λ n p. refl) (λ n p. refl)

pub a_plain_type : Means is_plain_type (word_shape keyword.Bool ∷ integers)
a_plain_type = by_kinds is_plain_type (word_shape keyword.Bool ∷ integers) (λ p. refl) (λ p. refl) (λ n p. refl) (λ n p. refl) (λ n p. refl)

pub a_truth : Means is_truth truths
a_truth = by_kinds is_truth truths (λ p. refl) (λ p. refl) (λ n p. refl) (λ n p. refl) (λ n p. refl)

-- the operators before operands, what leads to parts, and with what an expression goes on
abbrev pub unaries : List (List ℕ)
unaries = map sign_shape (mark.Minus ∷ mark.Bang ∷ mark.Tilde ∷ [])

pub a_unary : Means is_unary unaries
a_unary = by_kinds is_unary unaries (λ p. refl) (λ p. refl) (λ n p. refl) (λ n p. refl) (λ n p. refl)

abbrev pub parts : List (List ℕ)
parts = map sign_shape (mark.Dot ∷ mark.OpenBracket ∷ [])

pub a_part : Means is_part parts
a_part = by_kinds is_part parts (λ p. refl) (λ p. refl) (λ n p. refl) (λ n p. refl) (λ n p. refl)

abbrev pub selectors : List (List ℕ)
selectors = map sign_shape (mark.Dot ∷ mark.OpenBracket ∷ mark.Arrow ∷ [])

pub a_selector : Means is_selector selectors
a_selector = by_kinds is_selector selectors (λ p. refl) (λ p. refl) (λ n p. refl) (λ n p. refl) (λ n p. refl)

abbrev pub binary_operators : List (List ℕ)
binary_operators = map sign_shape
    (mark.Or ∷ mark.And ∷ mark.Bar ∷ mark.Caret ∷ mark.Ampersand ∷ mark.Equal ∷ mark.NotEqual ∷ mark.Less ∷ mark.LessOrEqual ∷ mark.Greater ∷
    mark.GreaterOrEqual ∷ mark.ShiftLeft ∷ mark.ShiftRight ∷ mark.Plus ∷ mark.Minus ∷ mark.Star ∷ mark.Slash ∷ mark.Percent ∷ [])

abbrev pub operators : List (List ℕ)
operators = selectors ++ binary_operators

pub prefix_going_on : Means (goes_on prefix_level) selectors
prefix_going_on = by_kinds (goes_on prefix_level) selectors (λ p. refl) (λ p. refl) (λ n p. refl) (λ n p. refl) (λ n p. refl)

pub going_on : Means (goes_on loosest_level) operators
going_on = by_kinds (goes_on loosest_level) operators (λ p. refl) (λ p. refl) (λ n p. refl) (λ n p. refl) (λ n p. refl)

pub right_going_on : Means right_goes_on (sign_shape mark.OpenParenthesis ∷ operators)
right_going_on = by_kinds right_goes_on (sign_shape mark.OpenParenthesis ∷ operators) (λ p. refl) (λ p. refl) (λ n p. refl) (λ n p. refl) (λ n p. refl)

-- single tokens begin as the tests of them mean
module _ {X : Type 0} {value : Placed Token → Option X} {xs : List (List ℕ)} where
  pub of_kind : Means (λ t. is_some (value t)) xs → Starts xs (One value)
  of_kind means = one (λ t x is. sym (means.is t) ∙ some-is (value t) x is)

module _ {zs : List (List ℕ)} where
  pub sign : (m : Mark) → is_within (sign_shape m ∷ []) zs ≡ true → Starts zs (Sign m)
  sign m = wider (of_kind (this_sign m))

  pub word : (w : Keyword) → is_within (word_shape w ∷ []) zs ≡ true → Starts zs (Word w)
  word w = wider (of_kind (this_word w))

  pub name : is_within (name_shape ∷ []) zs ≡ true → Starts zs Name
  name = wider (of_kind a_name)

  pub literal : is_within (literal_shape ∷ []) zs ≡ true → Starts zs (One literal_of)
  literal = wider (of_kind a_literal)

  pub integer_type : is_within integers zs ≡ true → Starts zs (One integer_of)
  integer_type = wider (of_kind an_integer)

  pub unary : is_within unaries zs ≡ true → Starts zs (One unary_of)
  unary = wider (of_kind a_unary)

  pub full : {X : Type 0} (dialect : Dialect) {A : X → Tokens → Type 0} → Starts zs A → Starts zs (InFull dialect A)
  full dialect so = as_other (λ x w text. text.1) so

  pub truth : is_within truths zs ≡ true → Starts zs (One truth_of)
  truth = wider (of_kind a_truth)

again-shape : (n : Identifier) (t : Token) (at p : Place) → again_in n t at ≡ Some p → has (name_shape ∷ []) (shape_in t) ≡ true
again-shape n (token.Name m) at p is = refl
again-shape n (token.Literal m) at p is = absurd (none-some p is)
again-shape n (token.Reserved m) at p is = absurd (none-some p is)
again-shape n (token.Keyword m) at p is = absurd (none-some p is)
again-shape n (token.Mark m) at p is = absurd (none-some p is)

pub again_starts : (n : Identifier) → Starts (name_shape ∷ []) (One (again_of n))
again_starts n = one (λ t p is. again-shape n t.token t.place p is)

zero-shape : (t : Token) (at p : Place) → zero_in t at ≡ Some p → has (literal_shape ∷ []) (shape_in t) ≡ true
zero-shape (token.Literal m) at p is = refl
zero-shape (token.Name m) at p is = absurd (none-some p is)
zero-shape (token.Reserved m) at p is = absurd (none-some p is)
zero-shape (token.Keyword m) at p is = absurd (none-some p is)
zero-shape (token.Mark m) at p is = absurd (none-some p is)

pub zero_starts : Starts (literal_shape ∷ []) (One zero_of)
zero_starts = one (λ t p is. zero-shape t.token t.place p is)
