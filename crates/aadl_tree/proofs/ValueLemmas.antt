-- The tokens of values, one equation for each kind of value.
use Rattle.std.proofs.Common.{◌≡◌, ℕ, Bool, List, [], ◌∷◌, ◌++◌, map, refl, ap, sym, ◌∙◌}
use Rattle.std.specs.List.{flat_map}
use Rattle.aadl_tree.specs.declared.class.Class.{Class}
use Rattle.aadl_tree.specs.declared.mark.Mark.TheVariants as mark
use Rattle.aadl_tree.specs.declared.names.Path.{Path}
use Rattle.aadl_tree.specs.declared.names.QualifiedName.{QualifiedName}
use Rattle.aadl_tree.specs.declared.token.Token.{Token}
use Rattle.aadl_tree.specs.declared.token.Token.TheVariants as token
use Rattle.aadl_tree.specs.declared.value.PropertyValue.{PropertyValue}
use Rattle.aadl_tree.specs.declared.value.PropertyValue.TheVariants as value
use Rattle.aadl_tree.specs.declared.value.PropertyValue.TheOpen as open_value
use Rattle.aadl_tree.specs.declared.value.Quantity.{Quantity}
use Rattle.aadl_tree.specs.declared.value.RecordField.{RecordField}
use Rattle.aadl_tree.specs.declared.value.PropertyValue.TheFolds.{fold-roll-PropertyValue, fold_out-RecordField}
use Rattle.aadl_tree.specs.Canonical.{behind_comma, qualified_tokens}
use Rattle.aadl_tree.specs.Values.{quantity_tokens, range_tokens, truth_token, classifier_tokens, reference_tokens, separated, value_step, field_step, value_tokens, field_tokens}

flat_map-map : {X : Type 0} (tokens : X → List Token) (xs : List X) → flat_map (λ ts. ts) (map tokens xs) ≡ flat_map tokens xs
flat_map-map tokens [] = refl
flat_map-map tokens (x ∷ xs) = ap (λ (ts : List Token). tokens x ++ ts) (flat_map-map tokens xs)

behind_comma-map : {X : Type 0} (tokens : X → List Token) (xs : List X) → flat_map (behind_comma (λ ts. ts)) (map tokens xs) ≡ flat_map (behind_comma tokens) xs
behind_comma-map tokens [] = refl
behind_comma-map tokens (x ∷ xs) = ap (λ (ts : List Token). token.Mark mark.Comma ∷ tokens x ++ ts) (behind_comma-map tokens xs)

separated-map : {X : Type 0} (tokens : X → List Token) (xs : List X) → separated (λ ts. ts) (map tokens xs) ≡ separated tokens xs
separated-map tokens [] = refl
separated-map tokens (x ∷ xs) = ap (λ (ts : List Token). tokens x ++ ts) (behind_comma-map tokens xs)

pub value_tokens-Quantity : (q : Quantity) → value_tokens (value.Quantity q) ≡ quantity_tokens q
value_tokens-Quantity q = ap value_tokens (sym (value.rolls-Quantity q)) ∙ fold-roll-PropertyValue (List Token) (List Token) value_step field_step (open_value.Quantity q)

pub value_tokens-Range : (from to : Quantity) → value_tokens (value.Range from to) ≡ range_tokens from to
value_tokens-Range from to = ap value_tokens (sym (value.rolls-Range from to)) ∙ fold-roll-PropertyValue (List Token) (List Token) value_step field_step (open_value.Range from to)

pub value_tokens-Text : (t : List ℕ) → value_tokens (value.Text t) ≡ token.Text t ∷ []
value_tokens-Text t = ap value_tokens (sym (value.rolls-Text t)) ∙ fold-roll-PropertyValue (List Token) (List Token) value_step field_step (open_value.Text t)

pub value_tokens-Truth : (b : Bool) → value_tokens (value.Truth b) ≡ truth_token b ∷ []
value_tokens-Truth b = ap value_tokens (sym (value.rolls-Truth b)) ∙ fold-roll-PropertyValue (List Token) (List Token) value_step field_step (open_value.Truth b)

pub value_tokens-Name : (q : QualifiedName) → value_tokens (value.Name q) ≡ qualified_tokens q
value_tokens-Name q = ap value_tokens (sym (value.rolls-Name q)) ∙ fold-roll-PropertyValue (List Token) (List Token) value_step field_step (open_value.Name q)

pub value_tokens-Classifier : (c : Class) → value_tokens (value.Classifier c) ≡ classifier_tokens c
value_tokens-Classifier c = ap value_tokens (sym (value.rolls-Classifier c)) ∙ fold-roll-PropertyValue (List Token) (List Token) value_step field_step (open_value.Classifier c)

pub value_tokens-Reference : (p : Path) → value_tokens (value.Reference p) ≡ reference_tokens p
value_tokens-Reference p = ap value_tokens (sym (value.rolls-Reference p)) ∙ fold-roll-PropertyValue (List Token) (List Token) value_step field_step (open_value.Reference p)

-- "(" [ value { "," value } ] ")"
pub value_tokens-List : (vs : List PropertyValue) → value_tokens (value.List vs) ≡ token.Mark mark.OpenParenthesis ∷ separated value_tokens vs ++ token.Mark mark.CloseParenthesis ∷ []
value_tokens-List vs =
    ap value_tokens (sym (value.rolls-List vs)) ∙
    fold-roll-PropertyValue (List Token) (List Token) value_step field_step (open_value.List vs) ∙
    ap (λ (ts : List Token). token.Mark mark.OpenParenthesis ∷ ts ++ token.Mark mark.CloseParenthesis ∷ []) (separated-map value_tokens vs)

-- "[" { field } "]"
pub value_tokens-Record : (fs : List RecordField) → value_tokens (value.Record fs) ≡ token.Mark mark.OpenBracket ∷ flat_map field_tokens fs ++ token.Mark mark.CloseBracket ∷ []
value_tokens-Record fs =
    ap value_tokens (sym (value.rolls-Record fs)) ∙
    fold-roll-PropertyValue (List Token) (List Token) value_step field_step (open_value.Record fs) ∙
    ap (λ (ts : List Token). token.Mark mark.OpenBracket ∷ ts ++ token.Mark mark.CloseBracket ∷ []) (flat_map-map field_tokens fs)

-- NAME "=>" value ";"
pub field_tokens-of : (f : RecordField) → field_tokens f ≡ token.Name f.name ∷ token.Mark mark.Association ∷ value_tokens f.value ++ token.Mark mark.Semicolon ∷ []
field_tokens-of f = fold_out-RecordField (List Token) (List Token) value_step field_step f
