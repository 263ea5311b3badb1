-- What a value is at its outermost level (after SAE AS5506, property expressions).
use Rattle.std.specs.Prelude.{ℕ, List, [], ◌∷◌, Option, Some, None, option_and_then}
use Rattle.aadl_tree.specs.declared.association.Association.{Association}
use Rattle.aadl_tree.specs.declared.class.Class.{Class}
use Rattle.aadl_tree.specs.declared.names.Path.{Path}
use Rattle.aadl_tree.specs.declared.value.PropertyValue.{PropertyValue}
use Rattle.aadl_tree.specs.declared.value.PropertyValue.TheOpen.{PropertyValue-F}
use Rattle.aadl_tree.specs.declared.value.PropertyValue.TheOpen as value
use Rattle.aadl_tree.specs.declared.value.PropertyValue.TheViews.{out-PropertyValue}
use Rattle.aadl_tree.specs.declared.value.Quantity.{Quantity}
use Rattle.aadl_tree.specs.declared.value.RecordField.{RecordField}

-- a value whose parts are seen as they are
abbrev pub Layer : Type 0
Layer = PropertyValue-F PropertyValue RecordField

abbrev pub sole : {X : Type 0} → List X → Option X
sole [] = None
sole (x ∷ []) = Some x
sole (x ∷ other ∷ xs) = None

abbrev pub quantity_at : Layer → Option Quantity
quantity_at (value.Quantity q) = Some q
quantity_at _ = None

abbrev pub range_at : Layer → Option (Quantity × Quantity)
range_at (value.Range from to) = Some (from, to)
range_at _ = None

abbrev pub text_at : Layer → Option (List ℕ)
text_at (value.Text t) = Some t
text_at _ = None

-- a name without a set name before it
abbrev pub first_alone : List ℕ → List (List ℕ) → Option (List ℕ)
first_alone name [] = Some name
first_alone name (other ∷ others) = None

abbrev pub word_at : Layer → Option (List ℕ)
word_at (value.Name q) = first_alone q.first.name q.others
word_at _ = None

abbrev pub list_at : Layer → Option (List PropertyValue)
list_at (value.List vs) = Some vs
list_at _ = None

abbrev pub class_at : Layer → Option Class
class_at (value.Classifier c) = Some c
class_at _ = None

abbrev pub path_at : Layer → Option Path
path_at (value.Reference p) = Some p
path_at _ = None

abbrev pub quantity_in : PropertyValue → Option Quantity
quantity_in v = quantity_at (out-PropertyValue v)

abbrev pub range_in : PropertyValue → Option (Quantity × Quantity)
range_in v = range_at (out-PropertyValue v)

abbrev pub text_in : PropertyValue → Option (List ℕ)
text_in v = text_at (out-PropertyValue v)

abbrev pub word_in : PropertyValue → Option (List ℕ)
word_in v = word_at (out-PropertyValue v)

abbrev pub list_in : PropertyValue → Option (List PropertyValue)
list_in v = list_at (out-PropertyValue v)

abbrev pub class_in : PropertyValue → Option Class
class_in v = class_at (out-PropertyValue v)

abbrev pub path_in : PropertyValue → Option Path
path_in v = path_at (out-PropertyValue v)

-- the value that alone stands in one pair of brackets
abbrev pub bracketed : PropertyValue → Option PropertyValue
bracketed v = option_and_then sole (list_in v)

-- the value of an association that has one alone
abbrev pub sole_value : Association → Option PropertyValue
sole_value a = sole (a.first ∷ a.others)
