-- What tokens end with, told from the last token to the first: how an empty range is found at its end.
use Rattle.std.specs.Prelude.{ℕ, ◌+◌, int_le, nat_lt, if◌then◌else◌, [], ◌∷◌, length, reverse, take, option_and_then, Option, Some, None}
use Rattle.std.specs.Option.{option_map}
use Rattle.hw_text.specs.declared.place.Place.{Place}
use Rattle.hw_text.specs.declared.placed.Placed.{Placed}
use Rattle.c_tree.specs.Literals.{signed_value}
use Rattle.c_tree.specs.declared.named.Literal.{Literal}
use Rattle.c_tree.specs.declared.named.SignedLiteral.{SignedLiteral}
use Rattle.c_parse.specs.declared.keyword.Keyword.TheVariants as keyword
use Rattle.c_parse.specs.declared.mark.Mark.TheVariants as mark
use Rattle.c_parse.specs.declared.bounds.Bound.{Bound}
use Rattle.c_parse.specs.declared.token.Token.{Token}
use Rattle.c_parse.specs.Values.{Tokens, mark_of, keyword_of, name_of, literal_of, integer_of}
use Rattle.c_parse.specs.CallGrammar.{plain_literal, negative_literal}

infixl 20 ◌>>=◌
-- a step, where those before it gave something
abbrev ◌>>=◌ : {A B : Type 0} → Option A → (A → Option B) → Option B
o >>= f = option_and_then f o

-- what the last token stands for, and the tokens before it
abbrev pub last : {X : Type 0} → (Placed Token → Option X) → Tokens → Option (X × Tokens)
last value [] = None
last value (t ∷ ts) = option_map (λ x. (x, ts)) (value t)

-- the tokens before the last, where that stands for something
abbrev pub before_last : {X : Type 0} → (Placed Token → Option X) → Tokens → Option Tokens
before_last value ts = option_map (λ r. r.1) (last value ts)

-- a literal with the minus before it, if one is there
abbrev pub with_minus : Literal → Tokens → Option (Place × Tokens) → SignedLiteral × Tokens
with_minus l ts None = (plain_literal l, ts)
with_minus l ts (Some r) = (negative_literal (r.0, l), r.1)

-- a literal, maybe behind a minus, and the tokens before it
abbrev pub last_signed : Tokens → Option (SignedLiteral × Tokens)
last_signed ts = option_map (λ r. with_minus r.0 r.1 (last (mark_of mark.Minus) r.1)) (last literal_of ts)

-- the tokens before the `;`, name and `<` between the literals of a range
unfoldable pub before_between : Tokens → Option Tokens
before_between ts = do
  us ← before_last (mark_of mark.Less) ts
  vs ← before_last name_of us
  before_last (mark_of mark.Semicolon) vs

-- the tokens before the `for`, bracket, type, name and `=` of a range
unfoldable pub before_start : Tokens → Option Tokens
before_start ts = do
  us ← before_last (mark_of mark.Assign) ts
  vs ← before_last name_of us
  ws ← before_last integer_of vs
  xs ← before_last (mark_of mark.OpenParenthesis) ws
  before_last (keyword_of keyword.For) xs

abbrev pub bound_of : SignedLiteral → Bound
bound_of l = record { place = l.start; value = signed_value l }

abbrev pub last_bound : Tokens → Option (Bound × Tokens)
last_bound ts = option_map (λ r. (bound_of r.0, r.1)) (last_signed ts)

-- where the second of these literals begins, if it is not above the first
abbrev pub start_of_empty : Bound → Bound → Option Place
start_of_empty from below = if int_le below.value from.value then Some below.place else None

-- where the second literal begins of the empty range that the tokens end with
unfoldable pub last_empty : Tokens → Option Place
last_empty ts = do
  below ← last_bound ts
  us ← before_between below.1
  from ← last_bound us
  ws ← before_start from.1
  start_of_empty from.0 below.0

-- where the second literal begins of the empty range that ends with the token
abbrev pub empty_range_at : Tokens → ℕ → Option Place
empty_range_at ts i = if nat_lt i (length ts) then last_empty (reverse (take (i + 1) ts)) else None
