-- The tokens that have values, and their shapes.
use Rattle.std.specs.Prelude.{◌≡◌, ℕ, Bool, true, false, List, [], ◌∷◌, codes, Option, Some, None, if◌then◌else◌, refl, is_some}
use Rattle.std.specs.Option.{option_map}
use Rattle.std.specs.Str.{bytes_eq}
use Rattle.std.specs.List.{list_any}
use Rattle.std.proofs.Common.{ap}
use Rattle.std.proofs.lemmas.Bool.{false≢true}
use Rattle.hw_text.specs.declared.place.Place.{Place}
use Rattle.hw_text.specs.declared.placed.Placed.{Placed}
use Rattle.aadl_tree.specs.declared.token.Token.{Token}
use Rattle.aadl_tree.specs.declared.token.Token.TheVariants as token
use Rattle.aadl_tree.specs.declared.mark.Mark.TheVariants as mark
use Rattle.aadl_tree.specs.declared.association.Operator.{Operator}
use Rattle.aadl_tree.specs.declared.association.Operator.TheVariants as operator
use Rattle.aadl_tree.specs.declared.word.Word.{Word}
use Rattle.aadl_tree.specs.declared.word.Word.TheVariants as word
use Rattle.aadl_tree.specs.declared.names.Named.{Named}
use Rattle.aadl_tree.specs.declared.category.Category.{Category}
use Rattle.aadl_tree.specs.declared.category.Category.TheVariants as category
use Rattle.aadl_tree.specs.declared.feature.Direction.{Direction}
use Rattle.aadl_tree.specs.declared.feature.Direction.TheVariants as direction
use Rattle.hw_text.specs.BaseTypes.{base_name, base_named}
use Rattle.hw_text.specs.declared.base_type.BaseType.{BaseType}
use Rattle.hw_text.specs.declared.base_type.BaseType.TheVariants as base
use Rattle.aadl_tree.specs.declared.class_name.ClassName.{ClassName}
use Rattle.aadl_tree.specs.Classes.{is_base_package}
use Rattle.aadl_tree.specs.ClassNames.{own_name_by, own_name}
use Rattle.aadl_parse.specs.Shapes.{shape, one_of}

never_some : {X : Type 0} (x : X) → None ≡ Some x → ⊥
never_some x e = false≢true (ap is_some e)

-- what a name gives, and no other token
abbrev pub on_name : {X : Type 0} → (List ℕ → Place → Option X) → Token → Place → Option X
on_name f (token.Name n) at = f n at
on_name f _ at = None

-- what a reserved word gives, and no other token
abbrev pub on_word : {X : Type 0} → (Word → Option X) → Token → Option X
on_word f (token.Word w) = f w
on_word f _ = None

abbrev pub name_shapes : List (List ℕ)
name_shapes = codes "NAME" ∷ codes "base_types" ∷ []

abbrev pub named_of : Placed Token → Option Named
named_of t = on_name (λ n at. Some (record { name = n; place = at })) t.token t.place

abbrev pub name_of : Placed Token → Option (List ℕ)
name_of t = on_name (λ n at. Some n) t.token t.place

-- the name `base_types`, and where it stands
abbrev pub base_package_of : Placed Token → Option Place
base_package_of t = on_name (λ n at. if is_base_package n then Some at else None) t.token t.place

-- another name, and where it stands
abbrev pub class_name_at : List ℕ → Place → Option (ClassName × Place)
class_name_at n at = option_map (λ own. (own, at)) (own_name n)

abbrev pub class_name_of : Placed Token → Option (ClassName × Place)
class_name_of t = on_name class_name_at t.token t.place

-- the base type of this name
abbrev pub base_of : Placed Token → Option BaseType
base_of t = on_name (λ n at. base_named n) t.token t.place

abbrev pub category_shapes : List (List ℕ)
category_shapes = codes "data" ∷ codes "thread" ∷ codes "process" ∷ codes "system" ∷ codes "device" ∷ codes "processor" ∷ []

abbrev pub word_category : Word → Option Category
word_category word.Data = Some category.Data
word_category word.Thread = Some category.Thread
word_category word.Process = Some category.Process
word_category word.System = Some category.System
word_category word.Device = Some category.Device
word_category word.Processor = Some category.Processor
word_category _ = None

abbrev pub category_of : Placed Token → Option Category
category_of t = on_word word_category t.token

abbrev pub word_direction : Word → Option Direction
word_direction word.In = Some direction.In
word_direction word.Out = Some direction.Out
word_direction _ = None

abbrev pub direction_of : Placed Token → Option Direction
direction_of t = on_word word_direction t.token

-- an annex text, or `none`, and where it stands
abbrev pub annex_body_at : Token → Place → Option (Option (List ℕ) × Place)
annex_body_at (token.Annex text) at = Some (Some text, at)
annex_body_at (token.Word word.None) at = Some (None, at)
annex_body_at _ at = None

abbrev pub annex_body_of : Placed Token → Option (Option (List ℕ) × Place)
annex_body_of t = annex_body_at t.token t.place

abbrev pub operator_at : Token → Option Operator
operator_at (token.Mark mark.Association) = Some operator.Set
operator_at (token.Mark mark.Addition) = Some operator.Append
operator_at _ = None

abbrev pub operator_of : Placed Token → Option Operator
operator_of t = operator_at t.token

operator_at-shaped : (t : Token) (x : Operator) → operator_at t ≡ Some x → list_any (bytes_eq (shape t)) (codes "=>" ∷ codes "+=>" ∷ []) ≡ true
operator_at-shaped (token.Mark mark.Association) x e = refl
operator_at-shaped (token.Mark mark.Addition) x e = refl
operator_at-shaped (token.Mark _) x e = absurd (never_some x e)
operator_at-shaped _ x e = absurd (never_some x e)

pub operator-shaped : (t : Placed Token) (x : Operator) → operator_of t ≡ Some x → one_of (codes "=>" ∷ codes "+=>" ∷ []) t ≡ true
operator-shaped t x e = operator_at-shaped t.token x e

name-either : (b : Bool) → list_any (bytes_eq (if b then codes "base_types" else codes "NAME")) name_shapes ≡ true
name-either true = refl
name-either false = refl

on_name-shaped : {X : Type 0} (f : List ℕ → Place → Option X) (t : Token) (at : Place) (x : X) → on_name f t at ≡ Some x → list_any (bytes_eq (shape t)) name_shapes ≡ true
on_name-shaped f (token.Name n) at x e = name-either (is_base_package n)
on_name-shaped f (token.Word w) at x e = absurd (never_some x e)
on_name-shaped f (token.Integer n) at x e = absurd (never_some x e)
on_name-shaped f (token.Real r) at x e = absurd (never_some x e)
on_name-shaped f (token.Text s) at x e = absurd (never_some x e)
on_name-shaped f (token.SpoiltText n) at x e = absurd (never_some x e)
on_name-shaped f (token.Annex s) at x e = absurd (never_some x e)
on_name-shaped f (token.Mark m) at x e = absurd (never_some x e)

pub name-shaped : {X : Type 0} (f : List ℕ → Place → Option X) (t : Placed Token) (x : X) → on_name f t.token t.place ≡ Some x → one_of name_shapes t ≡ true
name-shaped f t x e = on_name-shaped f t.token t.place x e

base-either : {X : Type 0} (b : Bool) (x y : X) → (if b then Some y else None) ≡ Some x → list_any (bytes_eq (if b then codes "base_types" else codes "NAME")) (codes "base_types" ∷ []) ≡ true
base-either true x y e = refl
base-either false x y e = absurd (never_some x e)

base_at-shaped : (t : Token) (at x : Place) → on_name (λ n at. if is_base_package n then Some at else None) t at ≡ Some x → list_any (bytes_eq (shape t)) (codes "base_types" ∷ []) ≡ true
base_at-shaped (token.Name n) at x e = base-either (is_base_package n) x at e
base_at-shaped (token.Word w) at x e = absurd (never_some x e)
base_at-shaped (token.Integer n) at x e = absurd (never_some x e)
base_at-shaped (token.Real r) at x e = absurd (never_some x e)
base_at-shaped (token.Text s) at x e = absurd (never_some x e)
base_at-shaped (token.SpoiltText n) at x e = absurd (never_some x e)
base_at-shaped (token.Annex s) at x e = absurd (never_some x e)
base_at-shaped (token.Mark m) at x e = absurd (never_some x e)

pub base_package-shaped : (t : Placed Token) (x : Place) → base_package_of t ≡ Some x → one_of (codes "base_types" ∷ []) t ≡ true
base_package-shaped t x e = base_at-shaped t.token t.place x e

class-either : (n : List ℕ) (b : Bool) (is : is_base_package n ≡ b) (at : Place) (x : ClassName × Place) → option_map (λ own. (own, at)) (own_name_by n b is) ≡ Some x → list_any (bytes_eq (if b then codes "base_types" else codes "NAME")) (codes "NAME" ∷ []) ≡ true
class-either n true is at x e = absurd (never_some x e)
class-either n false is at x e = refl

class_at-shaped : (t : Token) (at : Place) (x : ClassName × Place) → on_name class_name_at t at ≡ Some x → list_any (bytes_eq (shape t)) (codes "NAME" ∷ []) ≡ true
class_at-shaped (token.Name n) at x e = class-either n (is_base_package n) refl at x e
class_at-shaped (token.Word w) at x e = absurd (never_some x e)
class_at-shaped (token.Integer n) at x e = absurd (never_some x e)
class_at-shaped (token.Real r) at x e = absurd (never_some x e)
class_at-shaped (token.Text s) at x e = absurd (never_some x e)
class_at-shaped (token.SpoiltText n) at x e = absurd (never_some x e)
class_at-shaped (token.Annex s) at x e = absurd (never_some x e)
class_at-shaped (token.Mark m) at x e = absurd (never_some x e)

pub class_name-shaped : (t : Placed Token) (x : ClassName × Place) → class_name_of t ≡ Some x → one_of (codes "NAME" ∷ []) t ≡ true
class_name-shaped t x e = class_at-shaped t.token t.place x e

word_category-shaped : (w : Word) (x : Category) → word_category w ≡ Some x → list_any (bytes_eq (shape (token.Word w))) category_shapes ≡ true
word_category-shaped word.Data x e = refl
word_category-shaped word.Thread x e = refl
word_category-shaped word.Process x e = refl
word_category-shaped word.System x e = refl
word_category-shaped word.Device x e = refl
word_category-shaped word.Processor x e = refl
word_category-shaped _ x e = absurd (never_some x e)

category_at-shaped : (t : Token) (x : Category) → on_word word_category t ≡ Some x → list_any (bytes_eq (shape t)) category_shapes ≡ true
category_at-shaped (token.Word w) x e = word_category-shaped w x e
category_at-shaped (token.Name n) x e = absurd (never_some x e)
category_at-shaped (token.Integer n) x e = absurd (never_some x e)
category_at-shaped (token.Real r) x e = absurd (never_some x e)
category_at-shaped (token.Text s) x e = absurd (never_some x e)
category_at-shaped (token.SpoiltText n) x e = absurd (never_some x e)
category_at-shaped (token.Annex s) x e = absurd (never_some x e)
category_at-shaped (token.Mark m) x e = absurd (never_some x e)

pub category-shaped : (t : Placed Token) (x : Category) → category_of t ≡ Some x → one_of category_shapes t ≡ true
category-shaped t x e = category_at-shaped t.token x e

word_direction-shaped : (w : Word) (x : Direction) → word_direction w ≡ Some x → list_any (bytes_eq (shape (token.Word w))) (codes "in" ∷ codes "out" ∷ []) ≡ true
word_direction-shaped word.In x e = refl
word_direction-shaped word.Out x e = refl
word_direction-shaped _ x e = absurd (never_some x e)

direction_at-shaped : (t : Token) (x : Direction) → on_word word_direction t ≡ Some x → list_any (bytes_eq (shape t)) (codes "in" ∷ codes "out" ∷ []) ≡ true
direction_at-shaped (token.Word w) x e = word_direction-shaped w x e
direction_at-shaped (token.Name n) x e = absurd (never_some x e)
direction_at-shaped (token.Integer n) x e = absurd (never_some x e)
direction_at-shaped (token.Real r) x e = absurd (never_some x e)
direction_at-shaped (token.Text s) x e = absurd (never_some x e)
direction_at-shaped (token.SpoiltText n) x e = absurd (never_some x e)
direction_at-shaped (token.Annex s) x e = absurd (never_some x e)
direction_at-shaped (token.Mark m) x e = absurd (never_some x e)

pub direction-shaped : (t : Placed Token) (x : Direction) → direction_of t ≡ Some x → one_of (codes "in" ∷ codes "out" ∷ []) t ≡ true
direction-shaped t x e = direction_at-shaped t.token x e

annex_word-shaped : (w : Word) (at : Place) (x : Option (List ℕ) × Place) → annex_body_at (token.Word w) at ≡ Some x → list_any (bytes_eq (shape (token.Word w))) (codes "ANNEX" ∷ codes "none" ∷ []) ≡ true
annex_word-shaped word.None at x e = refl
annex_word-shaped _ at x e = absurd (never_some x e)

annex_at-shaped : (t : Token) (at : Place) (x : Option (List ℕ) × Place) → annex_body_at t at ≡ Some x → list_any (bytes_eq (shape t)) (codes "ANNEX" ∷ codes "none" ∷ []) ≡ true
annex_at-shaped (token.Annex s) at x e = refl
annex_at-shaped (token.Word w) at x e = annex_word-shaped w at x e
annex_at-shaped (token.Name n) at x e = absurd (never_some x e)
annex_at-shaped (token.Integer n) at x e = absurd (never_some x e)
annex_at-shaped (token.Real r) at x e = absurd (never_some x e)
annex_at-shaped (token.Text s) at x e = absurd (never_some x e)
annex_at-shaped (token.SpoiltText n) at x e = absurd (never_some x e)
annex_at-shaped (token.Mark m) at x e = absurd (never_some x e)

pub annex_body-shaped : (t : Placed Token) (x : Option (List ℕ) × Place) → annex_body_of t ≡ Some x → one_of (codes "ANNEX" ∷ codes "none" ∷ []) t ≡ true
annex_body-shaped t x e = annex_at-shaped t.token t.place x e

pub boolean-named : base_of (record { token = token.Name (codes "boolean"); place = record { line = 1; column = 1 } }) ≡ Some base.Boolean
unfolding base_named base_name
boolean-named = refl
