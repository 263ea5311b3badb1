-- The marks in values and associations stand between names.
use Rattle.std.proofs.Common.{◌≡◌, ℕ, Bool, true, false, List, [], ◌∷◌, ◌++◌, Option, Some, None, refl, sym, subst}
use Rattle.std.specs.List.{flat_map}
use Rattle.aadl_tree.specs.declared.association.Association.{Association}
use Rattle.aadl_tree.specs.declared.association.Operator.{Operator}
use Rattle.aadl_tree.specs.declared.association.Operator.TheVariants.{Set, Append}
use Rattle.aadl_tree.specs.declared.mark.Mark.TheVariants as mark
use Rattle.aadl_tree.specs.declared.names.Path.{Path}
use Rattle.aadl_tree.specs.declared.token.Token.{Token}
use Rattle.aadl_tree.specs.declared.token.Token.TheVariants as token
use Rattle.aadl_tree.specs.declared.value.Number.{Number}
use Rattle.aadl_tree.specs.declared.value.Number.TheVariants as number
use Rattle.aadl_tree.specs.declared.value.PropertyValue.{PropertyValue}
use Rattle.aadl_tree.specs.declared.value.Quantity.{Quantity}
use Rattle.aadl_tree.specs.declared.value.RecordField.{RecordField}
use Rattle.aadl_tree.specs.declared.value.Sign.{Sign}
use Rattle.aadl_tree.specs.declared.value.Sign.TheVariants as sign
use Rattle.aadl_tree.specs.declared.word.Word.{Word}
use Rattle.aadl_tree.specs.declared.word.Word.TheVariants as word
use Rattle.aadl_tree.specs.Canonical.{behind_comma, qualified_tokens, path_tokens, class_tokens}
use Rattle.aadl_tree.specs.Values.{operator_mark, sign_tokens, number_token, unit_tokens, quantity_tokens, truth_token, separated, range_tokens, value_tokens, field_tokens, constant_tokens, applies_tokens, association_tokens}
use Rattle.aadl_tree.proofs.Apart.{is_tight_token, AreApart, apart-then, loose-then}
use Rattle.aadl_tree.proofs.ApartNames.{qualified-apart, path-apart, class-apart, further-apart}
use Rattle.aadl_tree.proofs.ValueLemmas.{value_tokens-Quantity, value_tokens-Range, value_tokens-Text, value_tokens-Truth, value_tokens-Name, value_tokens-Classifier, value_tokens-Reference, value_tokens-List, value_tokens-Record, field_tokens-of}
use Rattle.aadl_tree.proofs.ValueInduction.{OfEach, OfField, of_each_value}

sign-apart : (o : Option Sign) → AreApart (sign_tokens o)
sign-apart None = tt
sign-apart (Some sign.Plus) = (refl, refl)
sign-apart (Some sign.Minus) = (refl, refl)

unit-apart : (o : Option (List ℕ)) → AreApart (unit_tokens o)
unit-apart None = tt
unit-apart (Some n) = (refl, refl)

number-apart : (n : Number) (us : List Token) → AreApart us → AreApart (number_token n ∷ us)
number-apart (number.Integer n) us more = loose-then (token.Integer n) us refl more
number-apart (number.Real r) us more = loose-then (token.Real r) us refl more

quantity-apart : (q : Quantity) → AreApart (quantity_tokens q)
quantity-apart q = apart-then (sign_tokens q.sign) (number_token q.number ∷ unit_tokens q.unit) (sign-apart q.sign) (number-apart q.number (unit_tokens q.unit) (unit-apart q.unit))

range-apart : (from to : Quantity) → AreApart (range_tokens from to)
range-apart from to =
    apart-then (quantity_tokens from) (token.Mark mark.Range ∷ quantity_tokens to) (quantity-apart from) (loose-then (token.Mark mark.Range) (quantity_tokens to) refl (quantity-apart to))

-- what stands between a token and another one
pub between : (a b : Token) (ts : List Token) → is_tight_token a ≡ false → is_tight_token b ≡ false → AreApart ts → AreApart (a ∷ ts ++ b ∷ [])
between a b ts before behind inner = loose-then a (ts ++ b ∷ []) before (apart-then ts (b ∷ []) inner (behind, behind))

-- the same behind a word
called : (w : Word) (ts : List Token) → AreApart ts → AreApart (token.Word w ∷ token.Mark mark.OpenParenthesis ∷ ts ++ token.Mark mark.CloseParenthesis ∷ [])
called w ts inner = loose-then (token.Word w) (token.Mark mark.OpenParenthesis ∷ ts ++ token.Mark mark.CloseParenthesis ∷ []) refl (between (token.Mark mark.OpenParenthesis) (token.Mark mark.CloseParenthesis) ts refl refl inner)

truth-apart : (b : Bool) → AreApart (truth_token b ∷ [])
truth-apart true = (refl, refl)
truth-apart false = (refl, refl)

constant-apart : (b : Bool) → AreApart (constant_tokens b)
constant-apart true = (refl, refl)
constant-apart false = tt

applies-apart : (ps : List Path) → AreApart (applies_tokens ps)
applies-apart [] = tt
applies-apart (p ∷ ps) =
    apart-then (token.Word word.Applies ∷ token.Word word.To ∷ path_tokens p) (flat_map (behind_comma path_tokens) ps)
    (loose-then (token.Word word.Applies) (token.Word word.To ∷ path_tokens p) refl (loose-then (token.Word word.To) (path_tokens p) refl (path-apart p)))
    (further-apart path_tokens path-apart ps)

abbrev IsApart : PropertyValue → Type 0
IsApart v = AreApart (value_tokens v)

further-values : (vs : List PropertyValue) → OfEach IsApart vs → AreApart (flat_map (behind_comma value_tokens) vs)
further-values [] all = tt
further-values (v ∷ vs) all =
    apart-then (token.Mark mark.Comma ∷ value_tokens v) (flat_map (behind_comma value_tokens) vs) (loose-then (token.Mark mark.Comma) (value_tokens v) refl all.0) (further-values vs all.1)

separated-apart : (vs : List PropertyValue) → OfEach IsApart vs → AreApart (separated value_tokens vs)
separated-apart [] all = tt
separated-apart (v ∷ vs) all = apart-then (value_tokens v) (flat_map (behind_comma value_tokens) vs) all.0 (further-values vs all.1)

field-apart : (f : RecordField) → IsApart f.value → AreApart (field_tokens f)
field-apart f apart =
    subst AreApart (sym (field_tokens-of f))
    (loose-then (token.Name f.name) (token.Mark mark.Association ∷ value_tokens f.value ++ token.Mark mark.Semicolon ∷ []) refl
    (between (token.Mark mark.Association) (token.Mark mark.Semicolon) (value_tokens f.value) refl refl apart))

fields-apart : (fs : List RecordField) → OfEach (OfField IsApart) fs → AreApart (flat_map field_tokens fs)
fields-apart [] all = tt
fields-apart (f ∷ fs) all = apart-then (field_tokens f) (flat_map field_tokens fs) (field-apart f all.0) (fields-apart fs all.1)

pub value-apart : (v : PropertyValue) → AreApart (value_tokens v)
value-apart = of_each_value IsApart (record {
  quantity = λ q. subst AreApart (sym (value_tokens-Quantity q)) (quantity-apart q);
  range = λ from to. subst AreApart (sym (value_tokens-Range from to)) (range-apart from to);
  text = λ t. subst AreApart (sym (value_tokens-Text t)) (refl, refl);
  truth = λ b. subst AreApart (sym (value_tokens-Truth b)) (truth-apart b);
  name = λ q. subst AreApart (sym (value_tokens-Name q)) (qualified-apart q);
  list = λ vs all.
      subst AreApart (sym (value_tokens-List vs)) (between (token.Mark mark.OpenParenthesis) (token.Mark mark.CloseParenthesis) (separated value_tokens vs) refl refl (separated-apart vs all));
  fields = λ fs all.
      subst AreApart (sym (value_tokens-Record fs)) (between (token.Mark mark.OpenBracket) (token.Mark mark.CloseBracket) (flat_map field_tokens fs) refl refl (fields-apart fs all));
  classifier = λ c. subst AreApart (sym (value_tokens-Classifier c)) (called word.Classifier (class_tokens c) (class-apart c));
  reference = λ p. subst AreApart (sym (value_tokens-Reference p)) (called word.Reference (path_tokens p) (path-apart p));
})

pub association-apart : (a : Association) → AreApart (association_tokens a)
unfolding association_tokens
association-apart a =
    let name : List Token = qualified_tokens a.property in
    let constant : List Token = token.Mark (operator_mark a.operator) ∷ constant_tokens a.constant in
    let first : List Token = value_tokens a.first in
    let others : List Token = flat_map (behind_comma value_tokens) a.others in
    let applies : List Token = applies_tokens a.applies_to in
    apart-then (name ++ constant ++ first ++ others ++ applies) (token.Mark mark.Semicolon ∷ [])
    (apart-then (name ++ constant ++ first ++ others) applies
    (apart-then (name ++ constant ++ first) others
    (apart-then (name ++ constant) first
    (apart-then name constant (qualified-apart a.property) (operator-apart a.operator (constant_tokens a.constant) (constant-apart a.constant)))
    (value-apart a.first))
    (further-apart value_tokens value-apart a.others))
    (applies-apart a.applies_to))
    (refl, refl)
  where
    operator-apart : (o : Operator) (us : List Token) → AreApart us → AreApart (token.Mark (operator_mark o) ∷ us)
    operator-apart Set us apart = loose-then (token.Mark mark.Association) us refl apart
    operator-apart Append us apart = loose-then (token.Mark mark.Addition) us refl apart
