-- The tokens that have values in property values, and their shapes.
use Rattle.std.specs.Prelude.{◌≡◌, ℕ, Bool, true, false, List, [], ◌∷◌, codes, Option, Some, None, refl, is_some}
use Rattle.std.proofs.Common.{ap}
use Rattle.std.proofs.lemmas.Bool.{false≢true}
use Rattle.std.specs.List.{list_any}
use Rattle.std.specs.Str.{bytes_eq}
use Rattle.hw_text.specs.declared.placed.Placed.{Placed}
use Rattle.aadl_tree.specs.declared.token.Token.{Token}
use Rattle.aadl_tree.specs.declared.token.Token.TheVariants as token
use Rattle.aadl_tree.specs.declared.mark.Mark.TheVariants as mark
use Rattle.aadl_tree.specs.declared.word.Word.TheVariants as word
use Rattle.aadl_tree.specs.declared.value.Sign.{Sign}
use Rattle.aadl_tree.specs.declared.value.Sign.TheVariants as sign
use Rattle.aadl_tree.specs.declared.value.Number.{Number}
use Rattle.aadl_tree.specs.declared.value.Number.TheVariants as number
use Rattle.aadl_tree.specs.declared.value.PropertyValue.{PropertyValue}
use Rattle.aadl_tree.specs.declared.value.PropertyValue.TheVariants as value
use Rattle.aadl_parse.specs.Shapes.{shape, one_of}

never_some : {X : Type 0} (x : X) → None ≡ Some x → ⊥
never_some x e = false≢true (ap is_some e)

abbrev pub sign_shapes : List (List ℕ)
sign_shapes = codes "+" ∷ codes "-" ∷ []

abbrev pub sign_at : Token → Option Sign
sign_at (token.Mark mark.Plus) = Some sign.Plus
sign_at (token.Mark mark.Minus) = Some sign.Minus
sign_at _ = None

abbrev pub sign_of : Placed Token → Option Sign
sign_of t = sign_at t.token

sign_at-shaped : (t : Token) (x : Sign) → sign_at t ≡ Some x → list_any (bytes_eq (shape t)) sign_shapes ≡ true
sign_at-shaped (token.Mark mark.Plus) x e = refl
sign_at-shaped (token.Mark mark.Minus) x e = refl
sign_at-shaped (token.Mark _) x e = absurd (never_some x e)
sign_at-shaped _ x e = absurd (never_some x e)

pub sign-shaped : (t : Placed Token) (x : Sign) → sign_of t ≡ Some x → one_of sign_shapes t ≡ true
sign-shaped t x e = sign_at-shaped t.token x e

abbrev pub number_shapes : List (List ℕ)
number_shapes = codes "INT" ∷ codes "REAL" ∷ []

abbrev pub number_at : Token → Option Number
number_at (token.Integer n) = Some (number.Integer n)
number_at (token.Real r) = Some (number.Real r)
number_at _ = None

abbrev pub number_of : Placed Token → Option Number
number_of t = number_at t.token

number_at-shaped : (t : Token) (x : Number) → number_at t ≡ Some x → list_any (bytes_eq (shape t)) number_shapes ≡ true
number_at-shaped (token.Integer n) x e = refl
number_at-shaped (token.Real r) x e = refl
number_at-shaped _ x e = absurd (never_some x e)

pub number-shaped : (t : Placed Token) (x : Number) → number_of t ≡ Some x → one_of number_shapes t ≡ true
number-shaped t x e = number_at-shaped t.token x e

abbrev pub text_shapes : List (List ℕ)
text_shapes = codes "STRING" ∷ codes "SPOILT" ∷ []

-- a spoilt text stands where a text may, so that its bad byte is what is wrong there; no model has one
abbrev pub text_at : Token → Option PropertyValue
text_at (token.Text t) = Some (value.Text t)
text_at (token.SpoiltText n) = Some (value.Text [])
text_at _ = None

abbrev pub text_of : Placed Token → Option PropertyValue
text_of t = text_at t.token

text_at-shaped : (t : Token) (x : PropertyValue) → text_at t ≡ Some x → list_any (bytes_eq (shape t)) text_shapes ≡ true
text_at-shaped (token.Text t) x e = refl
text_at-shaped (token.SpoiltText n) x e = refl
text_at-shaped _ x e = absurd (never_some x e)

pub text-shaped : (t : Placed Token) (x : PropertyValue) → text_of t ≡ Some x → one_of text_shapes t ≡ true
text-shaped t x e = text_at-shaped t.token x e

abbrev pub truth_shapes : List (List ℕ)
truth_shapes = codes "true" ∷ codes "false" ∷ []

abbrev pub truth_at : Token → Option Bool
truth_at (token.Word word.True) = Some true
truth_at (token.Word word.False) = Some false
truth_at _ = None

abbrev pub truth_of : Placed Token → Option Bool
truth_of t = truth_at t.token

truth_at-shaped : (t : Token) (x : Bool) → truth_at t ≡ Some x → list_any (bytes_eq (shape t)) truth_shapes ≡ true
truth_at-shaped (token.Word word.True) x e = refl
truth_at-shaped (token.Word word.False) x e = refl
truth_at-shaped (token.Word _) x e = absurd (never_some x e)
truth_at-shaped _ x e = absurd (never_some x e)

pub truth-shaped : (t : Placed Token) (x : Bool) → truth_of t ≡ Some x → one_of truth_shapes t ≡ true
truth-shaped t x e = truth_at-shaped t.token x e
