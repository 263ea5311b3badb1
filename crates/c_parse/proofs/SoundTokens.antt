-- Tokens in which no loop has an empty range, whatever stands behind them.
use Rattle.std.proofs.Common.{◌≡◌, ◌∙◌, refl, sym, ap, subst, Bool, true, false, List, [], ◌∷◌, ◌++◌, map, get_or, append_assoc, append-nil, Some}
use Rattle.std.specs.Prelude.{◌≤ℤ◌, is_some, ⊤}
use Rattle.std.specs.List.{flat_map}
use Rattle.std.specs.Str.{bytes_eq}
use Rattle.std.proofs.lemmas.Bool.{false≢true}
use Rattle.hw_text.specs.declared.place.Place.{Place}
use Rattle.hw_text.specs.declared.placed.Placed.{Placed}
use Rattle.c_tree.specs.Literals.{signed_value}
use Rattle.c_tree.specs.declared.integer_type.IntegerType.{IntegerType}
use Rattle.c_tree.specs.declared.integer_type.IntegerType.TheVariants as integers
use Rattle.c_tree.specs.declared.identifier.Identifier.{Identifier}
use Rattle.c_tree.specs.declared.numeral.Numeral.{Numeral}
use Rattle.c_parse.specs.Keywords.{keyword_text}
use Rattle.c_parse.specs.Ranges.{Bounds, SpellsBounds}
use Rattle.c_parse.specs.Tokens.{start}
use Rattle.c_parse.specs.Values.{Tokens, found, keyword_in}
use Rattle.c_parse.specs.declared.keyword.Keyword.{Keyword}
use Rattle.c_parse.specs.declared.keyword.Keyword.TheVariants as keyword
use Rattle.c_parse.specs.declared.mark.Mark.{Mark}
use Rattle.c_parse.specs.declared.token.Token.{Token}
use Rattle.c_parse.specs.declared.token.Token.TheVariants as token
use Rattle.c_parse.proofs.TokenKinds.{none-some}

abbrev pub tokens_of : Tokens → List Token
tokens_of ts = map (λ t. t.token) ts

-- what begins with these tokens is no empty range
abbrev pub Good : List Token → Type 0
Good ts = (b : Bounds) (head behind : Tokens) → ts ≡ tokens_of (head ++ behind) → SpellsBounds b head → signed_value b.1 ≤ℤ signed_value b.0 → ⊥

-- with none of these begins one, where those stand behind
abbrev Fine : List Token → List Token → Type 0
Fine [] a = ⊤
Fine (t ∷ ts) a = Good (t ∷ (ts ++ a)) × Fine ts a

pub record Sound (ts : List Token) : Type 0 where
  pub fine : (a : List Token) → Fine ts a

fine-append : (us vs a : List Token) → Fine us (vs ++ a) → Fine vs a → Fine (us ++ vs) a
fine-append [] vs a first second = second
fine-append (u ∷ us) vs a first second = (subst (λ (l : List Token). Good (u ∷ l)) (sym (append_assoc us vs a)) first.0, fine-append us vs a first.1 second)

fine-behind : (us vs a : List Token) → Fine (us ++ vs) a → Fine vs a
fine-behind [] vs a fine = fine
fine-behind (u ∷ us) vs a fine = fine-behind us vs a fine.1

-- one such text behind another, and what consists of them
pub none : Sound []
none = record { fine = λ a. tt }

pub and-then : {us vs : List Token} → Sound us → Sound vs → Sound (us ++ vs)
and-then {us} {vs} first second = record { fine = λ a. fine-append us vs a (first.fine (vs ++ a)) (second.fine a) }

pub all : {X : Type 0} (tokens : X → List Token) → ((x : X) → Sound (tokens x)) → (xs : List X) → Sound (flat_map tokens xs)
all tokens each [] = none
all tokens each (x ∷ xs) = and-then (each x) (all tokens each xs)

-- the word `for`
abbrev is_for : Token → Bool
is_for t = is_some (keyword_in keyword.For t start)

for-there : (t : Token) (at p : Place) → keyword_in keyword.For t at ≡ Some p → is_for t ≡ true
for-there (token.Keyword w) at p is = some (bytes_eq (keyword_text w) (keyword_text keyword.For)) is
  where
    some : (b : Bool) → found b at ≡ Some p → is_some (found b start) ≡ true
    some true e = refl
    some false e = absurd (none-some p e)
for-there (token.Name n) at p is = absurd (none-some p is)
for-there (token.Reserved n) at p is = absurd (none-some p is)
for-there (token.Literal n) at p is = absurd (none-some p is)
for-there (token.Mark m) at p is = absurd (none-some p is)

front-is : (t : Token) (ts : List Token) (u : Placed Token) (us : Tokens) → t ∷ ts ≡ tokens_of (u ∷ us) → t ≡ u.token
front-is t ts u us e = ap (λ (l : List Token). get_or l 0 t) e

-- what begins with another token is no range
other-good : (t : Token) (ts : List Token) → is_for t ≡ false → Good (t ∷ ts)
other-good t ts other b head behind same (y, is, (fs, m, split, word, more)) order =
    let whole : head ++ behind ≡ word.0 ∷ (m ++ behind) = ap (λ (l : Tokens). l ++ behind) (split ∙ ap (λ (l : Tokens). l ++ m) word.1) in
    let front = front-is t ts word.0 (m ++ behind) (same ∙ ap tokens_of whole) in
    false≢true (sym other ∙ ap is_for front ∙ for-there word.0.token word.0.place y.0 word.2)

first : (t : Token) {ts : List Token} → is_for t ≡ false → Sound ts → Sound (t ∷ ts)
first t {ts} other more = record { fine = λ a. (other-good t (ts ++ a) other, more.fine a) }

pub sign : (m : Mark) {ts : List Token} → Sound ts → Sound (token.Mark m ∷ ts)
sign m more = first (token.Mark m) refl more

pub word : (w : Keyword) → is_for (token.Keyword w) ≡ false → {ts : List Token} → Sound ts → Sound (token.Keyword w ∷ ts)
word w other more = first (token.Keyword w) other more

pub named : (x : Identifier) {ts : List Token} → Sound ts → Sound (token.Name x ∷ ts)
named x more = first (token.Name x) refl more

pub literal : (x : Numeral) {ts : List Token} → Sound ts → Sound (token.Literal x ∷ ts)
literal x more = first (token.Literal x) refl more

integer-no-for : (c : IntegerType) → is_for (token.Keyword (keyword.Integer c)) ≡ false
integer-no-for integers.I8 = refl
integer-no-for _ = refl

pub integer : (c : IntegerType) {ts : List Token} → Sound ts → Sound (token.Keyword (keyword.Integer c) ∷ ts)
integer c more = word (keyword.Integer c) (integer-no-for c) more

-- a loop of which no range is empty
pub loop : {ts : List Token} → ((a : List Token) → Good (token.Keyword keyword.For ∷ (ts ++ a))) → Sound ts → Sound (token.Keyword keyword.For ∷ ts)
loop good more = record { fine = λ a. (good a, more.fine a) }

-- with no token behind some of them begins an empty range
pub good-at : (ts us vs : List Token) → Sound ts → ts ≡ us ++ vs → (vs ≡ [] → ⊥) → Good vs
good-at ts us vs sound split some = at vs (fine-behind us vs [] (subst (λ (l : List Token). Fine l []) split (sound.fine []))) some
  where
    at : (l : List Token) → Fine l [] → (l ≡ [] → ⊥) → Good l
    at [] fine some = absurd (some refl)
    at (t ∷ l) fine some = subst (λ (m : List Token). Good (t ∷ m)) (append-nil l) fine.0
