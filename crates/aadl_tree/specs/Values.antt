-- The canonical tokens of values and property associations, one case for each production (docs/formats/model.md).
use Rattle.std.specs.Prelude.{ℕ, Bool, if◌then◌else◌, List, [], ◌∷◌, ◌++◌, Option, Some, None}
use Rattle.std.specs.List.{flat_map}
use Rattle.aadl_tree.specs.declared.token.Token.{Token}
use Rattle.aadl_tree.specs.declared.token.Token.TheVariants as token
use Rattle.aadl_tree.specs.declared.word.Word.TheVariants as word
use Rattle.aadl_tree.specs.declared.mark.Mark.{Mark}
use Rattle.aadl_tree.specs.declared.mark.Mark.TheVariants as mark
use Rattle.aadl_tree.specs.declared.class.Class.{Class}
use Rattle.aadl_tree.specs.declared.names.Path.{Path}
use Rattle.aadl_tree.specs.declared.association.Operator.{Operator}
use Rattle.aadl_tree.specs.declared.association.Operator.TheVariants.{Set, Append}
use Rattle.aadl_tree.specs.declared.association.Association.{Association}
use Rattle.aadl_tree.specs.declared.value.Sign.{Sign}
use Rattle.aadl_tree.specs.declared.value.Sign.TheVariants as sign
use Rattle.aadl_tree.specs.declared.value.Number.{Number}
use Rattle.aadl_tree.specs.declared.value.Number.TheVariants as number
use Rattle.aadl_tree.specs.declared.value.Quantity.{Quantity}
use Rattle.aadl_tree.specs.declared.value.RecordField.{RecordField}
use Rattle.aadl_tree.specs.declared.value.PropertyValue.{PropertyValue}
use Rattle.aadl_tree.specs.declared.value.PropertyValue.TheOpen.{PropertyValue-F, RecordField-F}
use Rattle.aadl_tree.specs.declared.value.PropertyValue.TheOpen as value
use Rattle.aadl_tree.specs.declared.value.PropertyValue.TheFolds.{fold-PropertyValue, fold-RecordField}
use Rattle.aadl_tree.specs.Canonical.{behind_comma, qualified_tokens, path_tokens, class_tokens}

abbrev pub operator_mark : Operator → Mark
operator_mark Set = mark.Association
operator_mark Append = mark.Addition

-- [ "+" | "-" ]
abbrev pub sign_tokens : Option Sign → List Token
sign_tokens None = []
sign_tokens (Some sign.Plus) = token.Mark mark.Plus ∷ []
sign_tokens (Some sign.Minus) = token.Mark mark.Minus ∷ []

-- INT | REAL
abbrev pub number_token : Number → Token
number_token (number.Integer n) = token.Integer n
number_token (number.Real r) = token.Real r

-- [ NAME ]
abbrev pub unit_tokens : Option (List ℕ) → List Token
unit_tokens None = []
unit_tokens (Some n) = token.Name n ∷ []

-- [ "+" | "-" ] ( INT | REAL ) [ NAME ]
abbrev pub quantity_tokens : Quantity → List Token
quantity_tokens q = sign_tokens q.sign ++ number_token q.number ∷ unit_tokens q.unit

-- "true" | "false"
abbrev pub truth_token : Bool → Token
truth_token b = token.Word (if b then word.True else word.False)

-- [ x { "," x } ]
abbrev pub separated : {X : Type 0} → (X → List Token) → List X → List Token
separated tokens [] = []
separated tokens (x ∷ xs) = tokens x ++ flat_map (behind_comma tokens) xs

-- quantity ".." quantity
abbrev pub range_tokens : Quantity → Quantity → List Token
range_tokens from to = quantity_tokens from ++ token.Mark mark.Range ∷ quantity_tokens to

-- "classifier" "(" class ")"
abbrev pub classifier_tokens : Class → List Token
classifier_tokens c = token.Word word.Classifier ∷ token.Mark mark.OpenParenthesis ∷ class_tokens c ++ token.Mark mark.CloseParenthesis ∷ []

-- "reference" "(" path ")"
abbrev pub reference_tokens : Path → List Token
reference_tokens p = token.Word word.Reference ∷ token.Mark mark.OpenParenthesis ∷ path_tokens p ++ token.Mark mark.CloseParenthesis ∷ []

-- the tokens of a value, those of its parts being given
abbrev pub value_step : PropertyValue-F (List Token) (List Token) → List Token
value_step (value.Quantity q) = quantity_tokens q
value_step (value.Range from to) = range_tokens from to
value_step (value.Text t) = token.Text t ∷ []
value_step (value.Truth b) = truth_token b ∷ []
value_step (value.Name q) = qualified_tokens q
value_step (value.List vs) = token.Mark mark.OpenParenthesis ∷ separated (λ ts. ts) vs ++ token.Mark mark.CloseParenthesis ∷ []
value_step (value.Record fs) = token.Mark mark.OpenBracket ∷ flat_map (λ ts. ts) fs ++ token.Mark mark.CloseBracket ∷ []
value_step (value.Classifier c) = classifier_tokens c
value_step (value.Reference p) = reference_tokens p

-- NAME "=>" value ";"
abbrev pub field_step : RecordField-F (List Token) (List Token) → List Token
field_step f = token.Name f.name ∷ token.Mark mark.Association ∷ f.value ++ token.Mark mark.Semicolon ∷ []

abbrev pub value_tokens : PropertyValue → List Token
value_tokens v = fold-PropertyValue (List Token) (List Token) value_step field_step v

abbrev pub field_tokens : RecordField → List Token
field_tokens f = fold-RecordField (List Token) (List Token) value_step field_step f

-- [ "constant" ]
abbrev pub constant_tokens : Bool → List Token
constant_tokens b = if b then token.Word word.Constant ∷ [] else []

-- [ "applies" "to" path { "," path } ]
abbrev pub applies_tokens : List Path → List Token
applies_tokens [] = []
applies_tokens (p ∷ ps) = token.Word word.Applies ∷ token.Word word.To ∷ path_tokens p ++ flat_map (behind_comma path_tokens) ps

-- pname ( "=>" | "+=>" ) [ "constant" ] value { "," value } [ "applies" "to" path { "," path } ] ";"
unfoldable pub association_tokens : Association → List Token
association_tokens a =
    qualified_tokens a.property ++ token.Mark (operator_mark a.operator) ∷ constant_tokens a.constant ++ value_tokens a.first ++
    flat_map (behind_comma value_tokens) a.others ++ applies_tokens a.applies_to ++ token.Mark mark.Semicolon ∷ []
