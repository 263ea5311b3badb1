-- Readers of state variables and their types, before their first part.
use Rattle.std.proofs.Common.{◌≡◌, refl, sym, subst, ℕ, List, [], ◌∷◌, ◌++◌, true, false, Option, inl}
use Rattle.hw_text.specs.Language.{One, ◌⋅◌, Maybe, Each, ◌∣◌}
use Rattle.hw_text.specs.Reading.{begins, Begins, Anything, Leaves}
use Rattle.hw_text.proofs.Reading.{begun, one-begins, made-begins, then-begins}
use Rattle.hw_text.specs.declared.place.Place.{Place}
use Rattle.hw_text.specs.declared.base_type.BaseType.{BaseType}
use Rattle.gumbo_parse.specs.declared.shape.Shape.{Shape}
use Rattle.gumbo_parse.specs.declared.shape.Shape.TheVariants as shape
use Rattle.gumbo_parse.specs.declared.class.Class.{Class}
use Rattle.gumbo_parse.specs.declared.mark.Mark.TheVariants as mark
use Rattle.gumbo_parse.specs.Classes.{base_class, SpellsBase, name_behind, SpellsStep, SpellsImplementation, model_class, SpellsModel, SpellsClass, variable_of, SpellsVariable}
use Rattle.gumbo_parse.specs.ClassNames.{other_of}
use Rattle.gumbo_parse.specs.Grammar.{Sign, Name}
use Rattle.gumbo_parse.specs.ShapeSamples.{a_base}
use Rattle.gumbo_parse.specs.Values.{Tokens, one_of, Without, place_of, base_of, name_shapes}
use Rattle.gumbo_parse.proofs.BoundForms.{sign-begins, name-begins}
use Rattle.hw_reading.proofs.Choices.{first_of, second_of, maybe-follows, begins-follow}
use Rattle.hw_reading.proofs.Choices.{both, made}
use Rattle.gumbo_parse.proofs.PortForms.{a_sign}
use Rattle.gumbo_parse.proofs.Shapes.{apart, place-shaped, other-shaped, a_shape, without-left, without-right}
use Rattle.hw_reading.proofs.Steps.{opening}

abbrev colons : List Shape
colons = shape.Mark mark.DoubleColon ∷ []

abbrev dots : List Shape
dots = shape.Mark mark.Dot ∷ []

abbrev pub ClassF : Tokens → Type 0
ClassF = Without (shape.Mark mark.DoubleColon ∷ shape.Mark mark.Dot ∷ [])

pub a_base_name : (b : BaseType) × (w : Tokens) × One base_of b w
a_base_name = (a_base.1, a_base.0 ∷ [], (a_base.0, refl, a_base.2))

pub a_class : (c : Class) × (w : Tokens) × SpellsClass c w
a_class =
    let first = a_shape shape.BasePackage in
    let b = made base_class (both (first.1, first.0 ∷ [], (first.0, refl, first.2)) (both (a_sign mark.DoubleColon) a_base_name)) in
    (b.0, b.1, inl b.2)

pub step-begins : Begins (one_of colons) true SpellsStep
step-begins = made-begins (one_of colons) true (Sign mark.DoubleColon ⋅ Name) name_behind (then-begins (one_of colons) true (Sign mark.DoubleColon) Name (sign-begins mark.DoubleColon))

pub dotted-begins : Begins (one_of dots) true SpellsImplementation
dotted-begins = made-begins (one_of dots) true (Sign mark.Dot ⋅ Name) name_behind (then-begins (one_of dots) true (Sign mark.Dot) Name (sign-begins mark.Dot))

base-begins : Begins (one_of (shape.BasePackage ∷ [])) true SpellsBase
base-begins = made-begins (one_of (shape.BasePackage ∷ [])) true (One (place_of shape.BasePackage) ⋅ Sign mark.DoubleColon ⋅ One base_of) base_class
    (then-begins (one_of (shape.BasePackage ∷ [])) true (One (place_of shape.BasePackage)) (Sign mark.DoubleColon ⋅ One base_of)
    (one-begins (one_of (shape.BasePackage ∷ [])) true (place_of shape.BasePackage) (place-shaped shape.BasePackage)))

model-begins : Begins (one_of (shape.Name ∷ [])) true SpellsModel
model-begins = made-begins (one_of (shape.Name ∷ [])) true (One other_of ⋅ Each SpellsStep ⋅ Maybe SpellsImplementation) model_class
    (then-begins (one_of (shape.Name ∷ [])) true (One other_of) (Each SpellsStep ⋅ Maybe SpellsImplementation) (one-begins (one_of (shape.Name ∷ [])) true other_of other-shaped))

pub variable-begins : Begins (one_of name_shapes) true SpellsVariable
variable-begins = made-begins (one_of name_shapes) true (Name ⋅ Sign mark.Colon ⋅ SpellsClass ⋅ Sign mark.Semicolon) variable_of
    (then-begins (one_of name_shapes) true Name (Sign mark.Colon ⋅ SpellsClass ⋅ Sign mark.Semicolon) name-begins)

pub dot-ends : (m : Tokens) → ClassF m → Without dots m
dot-ends m ends = without-right colons dots m ends

-- behind the names of a path stands no further one
pub path-ends : (o : Option (List ℕ)) (w m : Tokens) → Maybe SpellsImplementation o w → ClassF m → Without colons (w ++ m)
path-ends = maybe-follows SpellsImplementation (one_of dots) (one_of colons) dotted-begins (apart dots colons refl) (λ m ends. without-left colons dots m ends)

pub semicolon-class : (p : Place) (w m : Tokens) → Sign mark.Semicolon p w → Anything m → ClassF (w ++ m)
semicolon-class = begins-follow Anything (Sign mark.Semicolon) (one_of (shape.Mark mark.Semicolon ∷ [])) (one_of (shape.Mark mark.DoubleColon ∷ shape.Mark mark.Dot ∷ [])) (sign-begins mark.Semicolon) (apart (shape.Mark mark.Semicolon ∷ []) (shape.Mark mark.DoubleColon ∷ shape.Mark mark.Dot ∷ []) refl)

pub steps_opening : (read : List (List ℕ)) → read ≡ [] → (before : Tokens) → Leaves (Each SpellsStep) (Without colons) before before (λ later. read ++ later) (Each SpellsStep)
steps_opening read none before = subst (λ (r : List (List ℕ)). Leaves (Each SpellsStep) (Without colons) before before (λ later. r ++ later) (Each SpellsStep)) (sym none)
    (begun (Each SpellsStep) (Without colons) before (λ later. later) (Each SpellsStep) (λ z w text. (z, refl, text)) (λ y w text. text))

module _ (before : Tokens) where
  pub base_opening : Leaves SpellsBase Anything before before base_class (One (place_of shape.BasePackage) ⋅ Sign mark.DoubleColon ⋅ One base_of)
  base_opening = opening base_class (One (place_of shape.BasePackage) ⋅ Sign mark.DoubleColon ⋅ One base_of) Anything before

  pub step_opening : Leaves SpellsStep Anything before before name_behind (Sign mark.DoubleColon ⋅ Name)
  step_opening = opening name_behind (Sign mark.DoubleColon ⋅ Name) Anything before

  pub dotted_opening : Leaves SpellsImplementation Anything before before name_behind (Sign mark.Dot ⋅ Name)
  dotted_opening = opening name_behind (Sign mark.Dot ⋅ Name) Anything before

  pub model_opening : Leaves SpellsModel ClassF before before model_class (One other_of ⋅ Each SpellsStep ⋅ Maybe SpellsImplementation)
  model_opening = opening model_class (One other_of ⋅ Each SpellsStep ⋅ Maybe SpellsImplementation) ClassF before

  pub variable_opening : Leaves SpellsVariable Anything before before variable_of (Name ⋅ Sign mark.Colon ⋅ SpellsClass ⋅ Sign mark.Semicolon)
  variable_opening = opening variable_of (Name ⋅ Sign mark.Colon ⋅ SpellsClass ⋅ Sign mark.Semicolon) Anything before

  class_opening : Leaves SpellsClass ClassF before before (λ c. c) (SpellsBase ∣ SpellsModel)
  class_opening = begun SpellsClass ClassF before (λ c. c) (SpellsBase ∣ SpellsModel) (λ c w text. (c, refl, text)) (λ c w text. text)

  pub base_there : begins (one_of (shape.BasePackage ∷ [])) before ≡ true → Leaves SpellsClass ClassF before before (λ c. c) SpellsBase
  base_there there = first_of SpellsBase SpellsModel (one_of (shape.BasePackage ∷ [])) (one_of (shape.Name ∷ [])) model-begins (apart (shape.Name ∷ []) (shape.BasePackage ∷ []) refl) there class_opening

  pub model_there : begins (one_of (shape.BasePackage ∷ [])) before ≡ false → Leaves SpellsClass ClassF before before (λ c. c) SpellsModel
  model_there not_there = second_of SpellsBase SpellsModel (one_of (shape.BasePackage ∷ [])) base-begins not_there class_opening
