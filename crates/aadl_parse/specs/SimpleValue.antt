-- The grammar of the values that have no other values in them (docs/formats/model.md).
use Rattle.std.specs.Prelude.{ℕ, true, List, [], ◌∷◌, ◌++◌, codes, Option, Some, None, ⊤, refl, Bool}
use Rattle.std.proofs.Common.{inl, inr}
use Rattle.hw_text.specs.declared.place.Place.{Place}
use Rattle.hw_text.specs.declared.placed.Placed.{Placed}
use Rattle.hw_text.specs.Language.{One, ◌⋅◌, ◌∣◌, Made, Maybe, Each}
use Rattle.hw_text.specs.Reading.{Begins}
use Rattle.aadl_tree.specs.declared.class.Class.{Class}
use Rattle.aadl_tree.specs.declared.class_name.ClassName.{ClassName}
use Rattle.aadl_tree.specs.declared.class.Class.TheVariants.{Base, Model}
use Rattle.hw_text.specs.declared.base_type.BaseType.{BaseType}
use Rattle.aadl_tree.specs.declared.names.Named.{Named}
use Rattle.aadl_tree.specs.declared.names.QualifiedName.{QualifiedName}
use Rattle.aadl_tree.specs.declared.names.Path.{Path}
use Rattle.aadl_tree.specs.declared.token.Token.{Token}
use Rattle.aadl_tree.specs.declared.token.Token.TheVariants as token
use Rattle.aadl_tree.specs.declared.value.Sign.{Sign}
use Rattle.aadl_tree.specs.declared.value.Number.{Number}
use Rattle.aadl_tree.specs.declared.value.Number.TheVariants as number
use Rattle.aadl_tree.specs.declared.mark.Mark.TheVariants as mark
use Rattle.aadl_tree.specs.declared.word.Word.TheVariants as word
use Rattle.aadl_tree.specs.declared.value.Quantity.{Quantity}
use Rattle.aadl_tree.specs.declared.value.PropertyValue.{PropertyValue}
use Rattle.aadl_tree.specs.declared.value.PropertyValue.TheVariants as value
use Rattle.aadl_parse.specs.Choice.{Choice, First, Second}
use Rattle.aadl_parse.specs.Builds.{either_of}
use Rattle.aadl_parse.specs.Laws.{one-begins, two-begins, maybe_then-begins, made-begins, either-begins, symbol-shaped}
use Rattle.aadl_parse.specs.Shapes.{one_of, symbol_of}
use Rattle.aadl_parse.specs.Stops.{start}
use Rattle.aadl_parse.specs.Terminals.{name_shapes, named_of, name_of, base_package_of, base_of, class_name_of, name-shaped}
use Rattle.aadl_parse.specs.ValueTokens.{sign_shapes, sign_of, sign-shaped, number_shapes, number_of, number-shaped, text_shapes, text_of, text-shaped, truth_shapes, truth_of, truth-shaped}

abbrev pub Symbol : List ℕ → ⊤ → List (Placed Token) → Type 0
Symbol text = One (symbol_of text)

abbrev pub name_behind : ⊤ × List ℕ → List ℕ
name_behind p = p.1

abbrev pub qualified_of : Named × List (List ℕ) → QualifiedName
qualified_of p = record { first = p.0; others = p.1 }

-- NAME { "::" NAME }
abbrev pub SpellsQualified : QualifiedName → List (Placed Token) → Type 0
SpellsQualified = Made qualified_of (One named_of ⋅ Each (Made name_behind (Symbol (codes "::") ⋅ One name_of)))

abbrev pub path_of : Named × List (List ℕ) → Path
path_of p = record { first = p.0; others = p.1 }

-- NAME { "." NAME }
abbrev pub SpellsPath : Path → List (Placed Token) → Type 0
SpellsPath = Made path_of (One named_of ⋅ Each (Made name_behind (Symbol (codes ".") ⋅ One name_of)))

abbrev pub base_class_of : Place × (⊤ × BaseType) → Class
base_class_of p = Base p.0 p.1.1

abbrev pub model_class_of : ((ClassName × Place) × List (List ℕ)) × Option (List ℕ) → Class
model_class_of p = Model (record { first = p.0.0.0; place = p.0.0.1; others = p.0.1; implementation = p.1 })

abbrev pub first_class : Class → Choice Class Class
first_class c = First c

abbrev pub second_class : Class → Choice Class Class
second_class c = Second c

-- "base_types" "::" BASE
abbrev pub SpellsBaseClass : Class → List (Placed Token) → Type 0
SpellsBaseClass = Made base_class_of (One base_package_of ⋅ (Symbol (codes "::") ⋅ One base_of))

-- NAME { "::" NAME } [ "." NAME ], whose first name is not `base_types`
abbrev pub SpellsModelClass : Class → List (Placed Token) → Type 0
SpellsModelClass = Made model_class_of ((One class_name_of ⋅ Each (Made name_behind (Symbol (codes "::") ⋅ One name_of))) ⋅ Maybe (Made name_behind (Symbol (codes ".") ⋅ One name_of)))

abbrev pub SpellsClass : Class → List (Placed Token) → Type 0
SpellsClass = Made either_of (Made first_class SpellsBaseClass ∣ Made second_class SpellsModelClass)

abbrev pub quantity_of : Option Sign × (Number × Option (List ℕ)) → Quantity
quantity_of p = record { sign = p.0; number = p.1.0; unit = p.1.1 }

-- [ "+" | "-" ] ( INT | REAL ) [ NAME ]
abbrev pub SpellsQuantity : Quantity → List (Placed Token) → Type 0
SpellsQuantity = Made quantity_of (Maybe (One sign_of) ⋅ (One number_of ⋅ Maybe (One name_of)))

abbrev pub range_with : Quantity → Option (⊤ × Quantity) → PropertyValue
range_with q None = value.Quantity q
range_with q (Some p) = value.Range q p.1

abbrev pub range_of : Quantity × Option (⊤ × Quantity) → PropertyValue
range_of p = range_with p.0 p.1

-- term [ ".." term ]
abbrev pub SpellsRange : PropertyValue → List (Placed Token) → Type 0
SpellsRange = Made range_of (SpellsQuantity ⋅ Maybe (Symbol (codes "..") ⋅ SpellsQuantity))

abbrev pub truth_value : Bool → PropertyValue
truth_value b = value.Truth b

abbrev pub name_value : QualifiedName → PropertyValue
name_value q = value.Name q

abbrev pub classifier_value : ⊤ × (⊤ × (Class × ⊤)) → PropertyValue
classifier_value p = value.Classifier p.1.1.0

abbrev pub reference_value : ⊤ × (⊤ × (Path × ⊤)) → PropertyValue
reference_value p = value.Reference p.1.1.0

-- "classifier" "(" class ")"
abbrev pub SpellsClassifier : PropertyValue → List (Placed Token) → Type 0
SpellsClassifier = Made classifier_value (Symbol (codes "classifier") ⋅ (Symbol (codes "(") ⋅ (SpellsClass ⋅ Symbol (codes ")"))))

-- "reference" "(" path ")"
abbrev pub SpellsReference : PropertyValue → List (Placed Token) → Type 0
SpellsReference = Made reference_value (Symbol (codes "reference") ⋅ (Symbol (codes "(") ⋅ (SpellsPath ⋅ Symbol (codes ")"))))

-- a part for one of the kinds or for the others
abbrev pub Either : {X Y : Type 0} → (X → List (Placed Token) → Type 0) → (Y → List (Placed Token) → Type 0) → Choice X Y → List (Placed Token) → Type 0
Either A B = Made (λ x. First x) A ∣ Made (λ y. Second y) B

abbrev pub SpellsNameValue : PropertyValue → List (Placed Token) → Type 0
SpellsNameValue = Made name_value SpellsQualified

abbrev pub SpellsTextValue : PropertyValue → List (Placed Token) → Type 0
SpellsTextValue = One text_of

abbrev pub SpellsTruthValue : PropertyValue → List (Placed Token) → Type 0
SpellsTruthValue = Made truth_value (One truth_of)

abbrev pub SpellsReferring : PropertyValue → List (Placed Token) → Type 0
SpellsReferring = Made either_of (Either SpellsClassifier SpellsReference)

abbrev pub SpellsNaming : PropertyValue → List (Placed Token) → Type 0
SpellsNaming = Made either_of (Either SpellsNameValue SpellsReferring)

abbrev pub SpellsTelling : PropertyValue → List (Placed Token) → Type 0
SpellsTelling = Made either_of (Either SpellsTruthValue SpellsNaming)

abbrev pub SpellsQuoting : PropertyValue → List (Placed Token) → Type 0
SpellsQuoting = Made either_of (Either SpellsTextValue SpellsTelling)

-- a number or range, a text, a truth, a name, a classifier, or a path
abbrev pub SpellsSimple : PropertyValue → List (Placed Token) → Type 0
SpellsSimple = Made either_of (Either SpellsRange SpellsQuoting)

abbrev pub before_sign : List ℕ × ⊤ → List ℕ
before_sign p = p.0

-- NAME "=>"
abbrev pub SpellsFieldName : List ℕ → List (Placed Token) → Type 0
SpellsFieldName = Made before_sign (One name_of ⋅ Symbol (codes "=>"))

abbrev pub quantity_starts : List (List ℕ)
quantity_starts = sign_shapes ++ number_shapes

abbrev pub referring_starts : List (List ℕ)
referring_starts = codes "classifier" ∷ codes "reference" ∷ []

abbrev pub naming_starts : List (List ℕ)
naming_starts = name_shapes ++ referring_starts

abbrev pub telling_starts : List (List ℕ)
telling_starts = truth_shapes ++ naming_starts

abbrev pub quoting_starts : List (List ℕ)
quoting_starts = text_shapes ++ telling_starts

abbrev pub simple_starts : List (List ℕ)
simple_starts = quantity_starts ++ quoting_starts

-- a longer name
abbrev pub naming_goes_on : List (List ℕ)
naming_goes_on = codes "::" ∷ []

-- a unit, or a range
abbrev pub range_goes_on : List (List ℕ)
range_goes_on = name_shapes ++ codes ".." ∷ name_shapes

abbrev pub value_starts : List (List ℕ)
value_starts = codes "(" ∷ codes "[" ∷ simple_starts

-- with which a text of a value may go on where another ends: a unit, a range, a longer name
abbrev pub value_goes_on : List (List ℕ)
value_goes_on = range_goes_on ++ naming_goes_on

-- beside these, a further value behind a comma
abbrev pub members_goes_on : List (List ℕ)
members_goes_on = codes "," ∷ value_goes_on

symbol-begins : (text : List ℕ) → Begins (one_of (text ∷ [])) true (Symbol text)
symbol-begins text = one-begins (symbol_of text) (text ∷ []) (symbol-shaped text)

pub quantity-begun : Begins (one_of quantity_starts) true SpellsQuantity
quantity-begun = made-begins _ quantity_of quantity_starts
    (maybe_then-begins (One sign_of) (One number_of ⋅ Maybe (One name_of)) sign_shapes number_shapes (one-begins sign_of sign_shapes sign-shaped)
    (two-begins (One number_of) (Maybe (One name_of)) number_shapes (one-begins number_of number_shapes number-shaped)))

pub range-begun : Begins (one_of quantity_starts) true SpellsRange
range-begun = made-begins _ range_of quantity_starts (two-begins SpellsQuantity (Maybe (Symbol (codes "..") ⋅ SpellsQuantity)) quantity_starts quantity-begun)

name-begun : Begins (one_of name_shapes) true SpellsNameValue
name-begun = made-begins SpellsQualified name_value name_shapes (made-begins _ qualified_of name_shapes (two-begins (One named_of) (Each (Made name_behind (Symbol (codes "::") ⋅ One name_of))) name_shapes
    (one-begins named_of name_shapes (name-shaped (λ n at. Some (record { name = n; place = at }))))))

pub classifier-begun : Begins (one_of (codes "classifier" ∷ [])) true SpellsClassifier
classifier-begun = made-begins _ classifier_value (codes "classifier" ∷ [])
    (two-begins (Symbol (codes "classifier")) (Symbol (codes "(") ⋅ (SpellsClass ⋅ Symbol (codes ")"))) (codes "classifier" ∷ []) (symbol-begins (codes "classifier")))

pub reference-begun : Begins (one_of (codes "reference" ∷ [])) true SpellsReference
reference-begun = made-begins _ reference_value (codes "reference" ∷ [])
    (two-begins (Symbol (codes "reference")) (Symbol (codes "(") ⋅ (SpellsPath ⋅ Symbol (codes ")"))) (codes "reference" ∷ []) (symbol-begins (codes "reference")))

module _ (A B : PropertyValue → List (Placed Token) → Type 0) (xs ys : List (List ℕ)) (a : Begins (one_of xs) true A) (b : Begins (one_of ys) true B) where
  choice-begun : Begins (one_of (xs ++ ys)) true (Made either_of (Either A B))
  choice-begun = made-begins (Either A B) either_of (xs ++ ys) (either-begins A B (λ x. First x) (λ y. Second y) xs ys a b)

pub referring-begun : Begins (one_of referring_starts) true SpellsReferring
referring-begun = choice-begun SpellsClassifier SpellsReference (codes "classifier" ∷ []) (codes "reference" ∷ []) classifier-begun reference-begun

pub naming-begun : Begins (one_of naming_starts) true SpellsNaming
naming-begun = choice-begun SpellsNameValue SpellsReferring name_shapes referring_starts name-begun referring-begun

pub telling-begun : Begins (one_of telling_starts) true SpellsTelling
telling-begun = choice-begun SpellsTruthValue SpellsNaming truth_shapes naming_starts
    (made-begins (One truth_of) truth_value truth_shapes (one-begins truth_of truth_shapes truth-shaped)) naming-begun

pub quoting-begun : Begins (one_of quoting_starts) true SpellsQuoting
quoting-begun = choice-begun SpellsTextValue SpellsTelling text_shapes telling_starts
    (one-begins text_of text_shapes text-shaped) telling-begun

-- each such value begins so
pub simple-begun : Begins (one_of simple_starts) true SpellsSimple
simple-begun = choice-begun SpellsRange SpellsQuoting quantity_starts quoting_starts range-begun quoting-begun

pub field_name-begun : Begins (one_of name_shapes) true SpellsFieldName
field_name-begun = made-begins _ before_sign name_shapes (two-begins (One name_of) (Symbol (codes "=>")) name_shapes (one-begins name_of name_shapes (name-shaped (λ n at. Some n))))

-- a token at the start
abbrev at_start : Token → Placed Token
at_start t = record { token = t; place = start }

abbrev alone : Token → List (Placed Token)
alone t = at_start t ∷ []

a_name : Token
a_name = token.Name (codes "a")

pub a_quantity : (q : Quantity) × (w : List (Placed Token)) × SpellsQuantity q w
a_quantity =
    let zero : Placed Token = at_start (token.Integer 0) in
    (quantity_of (None, (number.Integer 0, None)), zero ∷ [], ((None, (number.Integer 0, None)), refl, ([], zero ∷ [], refl, refl, (zero ∷ [], [], refl, (zero, refl, refl), refl))))

pub a_range : (v : PropertyValue) × (w : List (Placed Token)) × SpellsRange v w
a_range =
    let q = a_quantity in
    (range_of (q.0, None), q.1 ++ [], ((q.0, None), refl, (q.1, [], refl, q.2, refl)))

a_class : (c : Class) × (w : List (Placed Token)) × SpellsClass c w
unfolding a_name
a_class =
    let p : ((ClassName × Place) × List (List ℕ)) × Option (List ℕ) = (((record { name = codes "a"; other = refl }, start), []), None) in
    let w : List (Placed Token) = alone a_name in
    (model_class_of p, w, (Second (model_class_of p), refl, inr (model_class_of p, refl, (p, refl, (w, [], refl, (w, [], refl, (at_start a_name, refl, refl), refl), refl)))))

a_path : (p : Path) × (w : List (Placed Token)) × SpellsPath p w
unfolding a_name
a_path =
    let n : Named = record { name = codes "a"; place = start } in
    let w : List (Placed Token) = alone a_name in
    (path_of (n, []), w, ((n, []), refl, (w, [], refl, (at_start a_name, refl, refl), refl)))

pub a_classifier : (v : PropertyValue) × (w : List (Placed Token)) × SpellsClassifier v w
a_classifier =
    let c = a_class in
    let close : List (Placed Token) = alone (token.Mark mark.CloseParenthesis) in
    let opened : List (Placed Token) = alone (token.Mark mark.OpenParenthesis) in
    let begun : List (Placed Token) = alone (token.Word word.Classifier) in (
      classifier_value (tt, (tt, (c.0, tt))),
      begun ++ (opened ++ (c.1 ++ close)),
      (
        (tt, (tt, (c.0, tt))),
        refl,
        (
          begun,
          opened ++ (c.1 ++ close),
          refl,
          (at_start (token.Word word.Classifier), refl, refl),
          (
            opened,
            c.1 ++ close,
            refl,
            (at_start (token.Mark mark.OpenParenthesis), refl, refl),
            (c.1, close, refl, c.2, (at_start (token.Mark mark.CloseParenthesis), refl, refl)),
          ),
        ),
      ),
    )

pub a_reference : (v : PropertyValue) × (w : List (Placed Token)) × SpellsReference v w
a_reference =
    let c = a_path in
    let close : List (Placed Token) = alone (token.Mark mark.CloseParenthesis) in
    let opened : List (Placed Token) = alone (token.Mark mark.OpenParenthesis) in
    let begun : List (Placed Token) = alone (token.Word word.Reference) in (
      reference_value (tt, (tt, (c.0, tt))),
      begun ++ (opened ++ (c.1 ++ close)),
      (
        (tt, (tt, (c.0, tt))),
        refl,
        (
          begun,
          opened ++ (c.1 ++ close),
          refl,
          (at_start (token.Word word.Reference), refl, refl),
          (
            opened,
            c.1 ++ close,
            refl,
            (at_start (token.Mark mark.OpenParenthesis), refl, refl),
            (c.1, close, refl, c.2, (at_start (token.Mark mark.CloseParenthesis), refl, refl)),
          ),
        ),
      ),
    )

module _ (A B : PropertyValue → List (Placed Token) → Type 0) where
  one_of_two : ((v : PropertyValue) × (w : List (Placed Token)) × A v w) → (v : PropertyValue) × (w : List (Placed Token)) × Made either_of (Either A B) v w
  one_of_two a = (a.0, a.1, (First a.0, refl, inl (a.0, refl, a.2)))

  other_of_two : ((v : PropertyValue) × (w : List (Placed Token)) × B v w) → (v : PropertyValue) × (w : List (Placed Token)) × Made either_of (Either A B) v w
  other_of_two b = (b.0, b.1, (Second b.0, refl, inr (b.0, refl, b.2)))

pub a_referring : (v : PropertyValue) × (w : List (Placed Token)) × SpellsReferring v w
a_referring = one_of_two SpellsClassifier SpellsReference a_classifier

pub a_naming : (v : PropertyValue) × (w : List (Placed Token)) × SpellsNaming v w
a_naming = other_of_two SpellsNameValue SpellsReferring a_referring

pub a_telling : (v : PropertyValue) × (w : List (Placed Token)) × SpellsTelling v w
a_telling = other_of_two SpellsTruthValue SpellsNaming a_naming

pub a_quoting : (v : PropertyValue) × (w : List (Placed Token)) × SpellsQuoting v w
a_quoting = other_of_two SpellsTextValue SpellsTelling a_telling

-- a number is such a value
pub a_simple : (v : PropertyValue) × (w : List (Placed Token)) × SpellsSimple v w
a_simple = one_of_two SpellsRange SpellsQuoting a_range
