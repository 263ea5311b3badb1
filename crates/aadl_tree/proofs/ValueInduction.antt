-- What holds of each value, where it holds of one as soon as it holds of its parts.
use Rattle.std.proofs.Common.{List, [], ◌∷◌, Bool, ℕ, map, sym, subst}
use Rattle.aadl_tree.specs.declared.class.Class.{Class}
use Rattle.aadl_tree.specs.declared.names.Path.{Path}
use Rattle.aadl_tree.specs.declared.names.QualifiedName.{QualifiedName}
use Rattle.aadl_tree.specs.declared.value.PropertyValue.{PropertyValue}
use Rattle.aadl_tree.specs.declared.value.PropertyValue.TheFolds.{ind-PropertyValue, map-PropertyValue}
use Rattle.aadl_tree.specs.declared.value.PropertyValue.TheOpen.{PropertyValue-F}
use Rattle.aadl_tree.specs.declared.value.PropertyValue.TheOpen as open_value
use Rattle.aadl_tree.specs.declared.value.PropertyValue.TheVariants as value
use Rattle.aadl_tree.specs.declared.value.PropertyValue.TheViews.{roll-PropertyValue, roll-RecordField}
use Rattle.aadl_tree.specs.declared.value.Quantity.{Quantity}
use Rattle.aadl_tree.specs.declared.value.RecordField.{RecordField}

-- what holds of each member
abbrev pub OfEach : {X : Type 0} → (X → Type 0) → List X → Type 0
OfEach P [] = Unit {0}
OfEach P (x ∷ xs) = P x × OfEach P xs

module _ (P : PropertyValue → Type 0) where
  abbrev pub OfField : RecordField → Type 0
  OfField f = P f.value

  -- one case for each kind of value
  pub record Cases : Type 0 where
    pub quantity : (q : Quantity) → P (value.Quantity q)
    pub range : (from to : Quantity) → P (value.Range from to)
    pub text : (t : List ℕ) → P (value.Text t)
    pub truth : (b : Bool) → P (value.Truth b)
    pub name : (q : QualifiedName) → P (value.Name q)
    pub list : (vs : List PropertyValue) → OfEach P vs → P (value.List vs)
    pub fields : (fs : List RecordField) → OfEach OfField fs → P (value.Record fs)
    pub classifier : (c : Class) → P (value.Classifier c)
    pub reference : (p : Path) → P (value.Reference p)

  abbrev Known : Type 0
  Known = (v : PropertyValue) × P v

  abbrev KnownField : Type 0
  KnownField = (f : RecordField) × P f.value

  each : (es : List Known) → OfEach P (map (λ e. e.0) es)
  each [] = tt
  each (e ∷ es) = (e.1, each es)

  each-field : (es : List KnownField) → OfEach OfField (map (λ e. e.0) es)
  each-field [] = tt
  each-field (e ∷ es) = (e.1, each-field es)

  step : Cases → (y : PropertyValue-F Known KnownField) → P (roll-PropertyValue (map-PropertyValue Known KnownField PropertyValue RecordField (λ e. e.0) (λ e. e.0) y))
  step c (open_value.Quantity q) = subst P (sym (value.rolls-Quantity q)) (c.quantity q)
  step c (open_value.Range from to) = subst P (sym (value.rolls-Range from to)) (c.range from to)
  step c (open_value.Text t) = subst P (sym (value.rolls-Text t)) (c.text t)
  step c (open_value.Truth b) = subst P (sym (value.rolls-Truth b)) (c.truth b)
  step c (open_value.Name q) = subst P (sym (value.rolls-Name q)) (c.name q)
  step c (open_value.List es) = subst P (sym (value.rolls-List (map (λ e. e.0) es))) (c.list (map (λ e. e.0) es) (each es))
  step c (open_value.Record es) = subst P (sym (value.rolls-Record (map (λ e. e.0) es))) (c.fields (map (λ e. e.0) es) (each-field es))
  step c (open_value.Classifier k) = subst P (sym (value.rolls-Classifier k)) (c.classifier k)
  step c (open_value.Reference p) = subst P (sym (value.rolls-Reference p)) (c.reference p)

  pub of_each_value : Cases → (v : PropertyValue) → P v
  of_each_value c =
      ind-PropertyValue P (λ f. P f.value)
      (λ x y is. subst (λ z. P (roll-PropertyValue z)) is (step c y))
      (λ x y is. subst (λ z. P (roll-RecordField z).value) is y.value.1)
