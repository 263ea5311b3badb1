-- Where nothing more can be known, what is not known stands for no type.
use Rattle.std.proofs.Common.{◌≡◌, ℕ, zero, suc, ◌<◌, Bool, List, [], ◌∷◌, length, get_or, Option, Some, None, refl, sym, ap, ◌∙◌, arith, if◌then◌else◌}
use Rattle.std.specs.Option.{option_map, option_and_then}
use Rattle.std.proofs.lemmas.Bool.{le-ltb}
use Rattle.hw_types.specs.declared.extent.Extent.{Extent}
use Rattle.hw_types.specs.declared.scalar.Scalar.TheVariants as scalar
use Rattle.hw_types.specs.declared.ty.Ty.{Ty}
use Rattle.hw_types.specs.declared.ty.Ty.TheVariants.{One, Fields, Times}
use Rattle.aadl_names.specs.declared.class_row.ClassRow.{ClassRow}
use Rattle.aadl_names.specs.declared.class_row.ClassRow.TheVariants as row
use Rattle.aadl_names.specs.Meanings.{at_row}
use Rattle.aadl_types.specs.declared.shape.Part.{Part}
use Rattle.aadl_types.specs.declared.shape.Part.TheVariants as part
use Rattle.aadl_types.specs.declared.shape.Shape.{Shape}
use Rattle.aadl_types.specs.declared.shape.Shape.TheVariants as shape
use Rattle.aadl_types.specs.declared.shapes.Shapes.{Shapes}
use Rattle.aadl_types.specs.Extents.{Known, extent_at, IsAnswer, AreAnswers}
use Rattle.aadl_types.specs.Settling.{IsRight, IsUnknownPart, IsStuckShape, IsDone, AreDone, unknown_of, nothing_known}
use Rattle.aadl_types.specs.Types.{shape_at, part_type, part_types, made_type, type_within}
use Rattle.aadl_types.proofs.Settled.{row_inside}
use Rattle.std.proofs.lemmas.List.{length-map}

-- none of the rows of which nothing is known is given a type
abbrev pub GivesNone : Known → (ClassRow → Option Ty) → Type 0
GivesNone known of = (class : ClassRow) → extent_at known class ≡ None → of class ≡ None

part_none : (known : Known) (of : ClassRow → Option Ty) → GivesNone known of → (p : Part) → IsUnknownPart known p → part_type of p ≡ None
part_none known of none (part.Base base) unknown = absurd unknown
part_none known of none (part.Row class) unknown = none class unknown

never : {X Y : Type 0} (o : Option X) (f : X → Option Y) → ((x : X) → f x ≡ None) → option_and_then f o ≡ None
never None f none = refl
never (Some x) f none = none x

parts_none : (known : Known) (of : ClassRow → Option Ty) → GivesNone known of → (ps : List Part) (k : ℕ) (p : Part) → k < length ps → get_or ps k p ≡ p →
    IsUnknownPart known p → part_types of ps ≡ None
parts_none known of none [] k p inside is unknown = absurd (omega arith)
parts_none known of none (q ∷ ps) zero p inside is unknown =
    ap (option_and_then (λ (t : Ty). option_map (λ (ts : List Ty). t ∷ ts) (part_types of ps))) (ap (part_type of) is ∙ part_none known of none p unknown)
parts_none known of none (q ∷ ps) (suc k) p inside is unknown =
    let rest = parts_none known of none ps k p (omega arith) is unknown in
    never (part_type of q) (λ (t : Ty). option_map (λ (ts : List Ty). t ∷ ts) (part_types of ps)) (λ t. ap (option_map (λ (ts : List Ty). t ∷ ts)) rest)

stuck_none : (known : Known) (of : ClassRow → Option Ty) → GivesNone known of → (s : Shape) → IsStuckShape known s → made_type of s ≡ None
stuck_none known of none (shape.Enum names) stuck =
    ap (λ (b : Bool). if b then Some (One (scalar.Choice (length names))) else None) (le-ltb (length names) 4294967296 stuck)
stuck_none known of none (shape.Array element times) stuck = ap (option_map (λ (t : Ty). Times t times)) (part_none known of none element stuck)
stuck_none known of none (shape.Alias base) stuck = part_none known of none base stuck
stuck_none known of none (shape.Struct members) stuck = ap (option_map Fields) (parts_none known of none members stuck.0 stuck.1 stuck.2 stuck.3 stuck.4)

shape_none : (known : Known) (of : ClassRow → Option Ty) → GivesNone known of → (o : Option Shape) → ((s : Shape) → o ≡ Some s → IsStuckShape known s) →
    option_and_then (made_type of) o ≡ None
shape_none known of none None stuck = refl
shape_none known of none (Some s) stuck = stuck_none known of none s (stuck s refl)

within_none : (shapes : Shapes) (known : Known) → AreDone shapes known → (n : ℕ) → GivesNone known (type_within n shapes)
within_none shapes known done zero class none = refl
within_none shapes known done (suc n) class none =
    shape_none known (type_within n shapes) (within_none shapes known done n) (shape_at shapes class) (done class none)

answer : (shapes : Shapes) (known : Known) → IsRight shapes known → AreDone shapes known → (class : ClassRow) (o : Option Extent) → extent_at known class ≡ o → IsAnswer shapes class o
answer shapes known right done class None is = λ type t. absurd (let no = sym (within_none shapes known done t.0 class is) ∙ t.1 in cc)
answer shapes known right done class (Some extent) is = right.sound class extent is

pub answers : (shapes : Shapes) (known : Known) → IsRight shapes known → AreDone shapes known → AreAnswers shapes known
answers shapes known right done class = answer shapes known right done class (extent_at known class) refl

-- where two passes found nothing, all rows are done
pub all_done : (shapes : Shapes) (known : Known) → ((n : ℕ) → n < length shapes.types → IsDone shapes known (row.Type n)) →
    ((n : ℕ) → n < length shapes.implementations → IsDone shapes known (row.Implementation n)) → AreDone shapes known
all_done shapes known types implementations row.Base none s is = absurd (cc)
all_done shapes known types implementations (row.Type n) none s is = types n (row_inside shapes.types n s is) none s is
all_done shapes known types implementations (row.Implementation n) none s is = implementations n (row_inside shapes.implementations n s is) none s is

unknown_row : {X : Type 0} (xs : List X) (n : ℕ) → at_row (unknown_of xs) n ≡ None
unknown_row [] n = refl
unknown_row (x ∷ xs) zero = refl
unknown_row (x ∷ xs) (suc n) = unknown_row xs n

nothing_at : (shapes : Shapes) (class : ClassRow) → extent_at (nothing_known shapes) class ≡ None
nothing_at shapes row.Base = refl
nothing_at shapes (row.Type n) = unknown_row shapes.types n
nothing_at shapes (row.Implementation n) = unknown_row shapes.implementations n

pub right_nothing : (shapes : Shapes) → IsRight shapes (nothing_known shapes)
right_nothing shapes = record {
  sound = λ class extent is. absurd (let no = sym (nothing_at shapes class) ∙ is in cc);
  types = length-map shapes.types (λ x. None);
  implementations = length-map shapes.implementations (λ x. None);
}
