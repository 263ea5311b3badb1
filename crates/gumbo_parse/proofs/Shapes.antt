-- How texts begin, told by the shapes of their first tokens.
use Rattle.std.proofs.Common.{◌≡◌, refl, ap, ℕ, List, [], ◌∷◌, ◌++◌, Bool, true, false, cond, codes, Some, rules}
use Rattle.std.specs.Prelude.{is_some}
use Rattle.std.specs.List.{list_any}
use Rattle.std.specs.Str.{bytes_eq}
use Rattle.std.proofs.lemmas.Bool.{false≢true}
use Rattle.hw_text.specs.Language.{◌∣◌}
use Rattle.hw_text.specs.Reading.{begins, Begins}
use Rattle.hw_text.specs.declared.place.Place.{Place}
use Rattle.hw_text.specs.declared.placed.Placed.{Placed}
use Rattle.hw_text.proofs.Reading.{either-begins}
use Rattle.hw_reading.specs.Shapes.{shapes_of}
use Rattle.hw_reading.proofs.Choices.{Apart}
use Rattle.hw_reading.proofs.Shapes as shapes
use Rattle.gumbo_parse.specs.declared.class_name.ClassName.{ClassName}
use Rattle.gumbo_parse.specs.declared.expression.Named.{Named}
use Rattle.gumbo_parse.specs.declared.shape.Shape.{Shape}
use Rattle.gumbo_parse.specs.declared.shape.Shape.TheVariants as shape
use Rattle.gumbo_parse.specs.declared.token.Token.{Token}
use Rattle.gumbo_parse.specs.declared.token.Token.TheVariants as token
use Rattle.gumbo_parse.specs.ClassNames.{other_name_by, other_in, other_of}
use Rattle.gumbo_parse.specs.ShapeSamples.{a_token}
use Rattle.gumbo_parse.specs.Values.{Tokens, shape_of, same_shape, one_of, Without, is_disjoint, place_of, one_listed, name_in, number_in, text_in, is_base_package, name_shapes, start}

alike : (a b : Shape) → same_shape a b ≡ true → a ≡ b
alike a b is = search rules

-- a token has no shape of the one list where it has one of the other
pub apart : (xs ys : List Shape) → is_disjoint xs ys ≡ true → Apart (one_of xs) (one_of ys)
apart = shapes.apart shape_of same_shape alike

pub without-left : (xs ys : List Shape) (m : Tokens) → Without (xs ++ ys) m → Without xs m
without-left = shapes.without-left shape_of same_shape

pub without-right : (xs ys : List Shape) (m : Tokens) → Without (xs ++ ys) m → Without ys m
without-right = shapes.without-right shape_of same_shape

pub begins-more : (xs ys : List Shape) (l : Tokens) → begins (one_of ys) l ≡ true → begins (one_of (xs ++ ys)) l ≡ true
begins-more = shapes.begins-more shape_of same_shape

pub begins-left : {X : Type 0} (A : X → Tokens → Type 0) (xs ys : List Shape) → Begins (one_of xs) true A → Begins (one_of (xs ++ ys)) true A
begins-left = shapes.begins-left shape_of same_shape

-- how one or another begins
pub either-starts : {Z : Type 0} (A B : Z → Tokens → Type 0) (xs ys : List Shape) → Begins (one_of xs) true A → Begins (one_of ys) true B → Begins (one_of (xs ++ ys)) true (A ∣ B)
either-starts A B xs ys one other = either-begins (one_of (xs ++ ys)) true A B (begins-left A xs ys one) (shapes.begins-right shape_of same_shape B xs ys other)

pub place-shaped : (s : Shape) (t : Placed Token) (at : Place) → place_of s t ≡ Some at → one_of (s ∷ []) t ≡ true
place-shaped = shapes.place-shaped shape_of same_shape

pub listed-shaped : {X : Type 0} (rows : List (Shape × X)) (t : Placed Token) (p : Place × X) → one_listed rows t ≡ Some p → one_of (shapes_of rows) t ≡ true
listed-shaped = shapes.listed-shaped shape_of same_shape

-- a token of the shape
pub a_shape : (s : Shape) → (t : Placed Token) × (x : Place) × (place_of s t ≡ Some x)
a_shape s = shapes.a_symbol shape_of same_shape s (a_token s) start

pub name-shaped : (t : Token) (at : Place) (x : Named) → name_in t at ≡ Some x → one_of name_shapes (record { token = t; place = at }) ≡ true
name-shaped (token.Name n) at x e = at_base (bytes_eq n (codes "base_types"))
  where
    at_base : (b : Bool) → list_any (same_shape (cond b shape.BasePackage shape.Name)) name_shapes ≡ true
    at_base true = refl
    at_base false = refl
name-shaped (token.Word w) at x e = absurd (false≢true (ap is_some e))
name-shaped token.Reserved at x e = absurd (false≢true (ap is_some e))
name-shaped (token.Number v) at x e = absurd (false≢true (ap is_some e))
name-shaped (token.Text d) at x e = absurd (false≢true (ap is_some e))
name-shaped (token.Mark m) at x e = absurd (false≢true (ap is_some e))

pub number-shaped : (t : Token) (at : Place) (x : Place × ℕ) → number_in t at ≡ Some x → one_of (shape.Number ∷ []) (record { token = t; place = at }) ≡ true
number-shaped (token.Number v) at x e = refl
number-shaped (token.Word w) at x e = absurd (false≢true (ap is_some e))
number-shaped token.Reserved at x e = absurd (false≢true (ap is_some e))
number-shaped (token.Name n) at x e = absurd (false≢true (ap is_some e))
number-shaped (token.Text d) at x e = absurd (false≢true (ap is_some e))
number-shaped (token.Mark m) at x e = absurd (false≢true (ap is_some e))

pub text-shaped : (t : Token) (at : Place) (x : List ℕ) → text_in t ≡ Some x → one_of (shape.Text ∷ []) (record { token = t; place = at }) ≡ true
text-shaped (token.Text d) at x e = refl
text-shaped (token.Word w) at x e = absurd (false≢true (ap is_some e))
text-shaped token.Reserved at x e = absurd (false≢true (ap is_some e))
text-shaped (token.Name n) at x e = absurd (false≢true (ap is_some e))
text-shaped (token.Number v) at x e = absurd (false≢true (ap is_some e))
text-shaped (token.Mark m) at x e = absurd (false≢true (ap is_some e))

other-either : (n : List ℕ) (at : Place) (b : Bool) (is : is_base_package n ≡ b) (x : ClassName) → other_name_by n at b is ≡ Some x → list_any (same_shape (cond b shape.BasePackage shape.Name)) (shape.Name ∷ []) ≡ true
other-either n at true is x e = absurd (false≢true (ap is_some e))
other-either n at false is x e = refl

other-at : (t : Token) (at : Place) (x : ClassName) → other_in t at ≡ Some x → one_of (shape.Name ∷ []) (record { token = t; place = at }) ≡ true
other-at (token.Name n) at x e = other-either n at (is_base_package n) refl x e
other-at (token.Word w) at x e = absurd (false≢true (ap is_some e))
other-at token.Reserved at x e = absurd (false≢true (ap is_some e))
other-at (token.Number v) at x e = absurd (false≢true (ap is_some e))
other-at (token.Text d) at x e = absurd (false≢true (ap is_some e))
other-at (token.Mark m) at x e = absurd (false≢true (ap is_some e))

pub other-shaped : (t : Placed Token) (x : ClassName) → other_of t ≡ Some x → one_of (shape.Name ∷ []) t ≡ true
other-shaped t x e = other-at t.token t.place x e
