-- What is known when one more row is settled, and when none can be.
use Rattle.std.proofs.Common.{◌≡◌, ◌⊎◌, inl, inr, ℕ, ◌+◌, ◌<◌, false, cond, List, length, get_or, set, Option, Some, None, refl, sym, ap, subst, ◌∙◌, arith}
use denote.Ref.{Bor}
use Rattle.std.specs.Option.{is_none, is_some, unwrap_or, option_and_then, option_copied}
use Rattle.std.specs.List.{slice_get, count_by}
use Rattle.std.proofs.Math.ListN.{length-set}
use Rattle.std.proofs.lemmas.Bool.{cases_eq}
use Rattle.std.proofs.lemmas.List.{get_or-set_same, get_or-set_other}
use Rattle.std.proofs.lemmas.List.Sums.{sum_by-set}
use Rattle.std.proofs.lemmas.Option.{slice_get_within, unwrap_or-slice_get}
use Rattle.hw_types.specs.declared.extent.Extent.{Extent}
use Rattle.aadl_names.specs.declared.class_row.ClassRow.{ClassRow}
use Rattle.aadl_names.specs.declared.class_row.ClassRow.TheVariants as row
use Rattle.aadl_names.specs.Meanings.{at_row}
use Rattle.aadl_types.specs.declared.shape.Shape.{Shape}
use Rattle.aadl_types.specs.declared.shapes.Shapes.{Shapes}
use Rattle.aadl_types.specs.Extents.{Known, extent_at, IsKnownOf}
use Rattle.aadl_types.specs.Settling.{IsRight, IsShapeExtent, with_known, unknown_count}
use Rattle.aadl_types.specs.Types.{shape_at}
use Rattle.aadl_types.proofs.Within.{row_type}

joined : {X : Type 0} (o : Option (Option X)) → option_and_then (λ found. found) o ≡ unwrap_or o None
joined None = refl
joined (Some x) = refl

pub row_is : {X : Type 0} (xs : List (Option X)) (n : ℕ) → at_row xs n ≡ get_or xs n None
row_is xs n = joined (slice_get xs n) ∙ unwrap_or-slice_get xs n None

inside_of : {X : Type 0} (xs : List (Option X)) (n : ℕ) (x : X) (found : Option (Option X)) → slice_get xs n ≡ found → option_and_then (λ found. found) found ≡ Some x → n < length xs
inside_of xs n x None here is = absurd (cc)
inside_of xs n x (Some o) here is = slice_get_within xs n o here

pub row_inside : {X : Type 0} (xs : List (Option X)) (n : ℕ) (x : X) → at_row xs n ≡ Some x → n < length xs
row_inside xs n x is = inside_of xs n x (slice_get xs n) refl is

set_cases : (xs : List (Option Extent)) (n k : ℕ) (e f : Extent) → n < length xs → at_row (set xs n (Some e)) k ≡ Some f → ((k ≡ n) × (e ≡ f)) ⊎ (at_row xs k ≡ Some f)
set_cases xs n k e f inside is =
    elim (cases_eq k n) [
      | inl same ↦
          let here : Some e ≡ Some f = sym (get_or-set_same xs n (Some e) None inside) ∙ (ap (λ (m : ℕ). get_or (set xs n (Some e)) m None) (sym same) ∙ (sym (row_is (set xs n (Some e)) k) ∙ is)) in
          inl (same, ap (λ (o : Option Extent). unwrap_or o e) here)
      | inr other ↦ inr (row_is xs k ∙ ((let is' = sym (row_is (set xs n (Some e)) k) ∙ is in rw get_or-set_other at is')))
    ]

sound_types : (shapes : Shapes) (known : Known) (n : ℕ) (e : Extent) → IsRight shapes known → n < length known.types → IsKnownOf shapes (row.Type n) e →
    (class : ClassRow) (f : Extent) → extent_at (with_known known (row.Type n) e) class ≡ Some f → IsKnownOf shapes class f
sound_types shapes known n e right inside here row.Base f is = absurd (cc)
sound_types shapes known n e right inside here (row.Type k) f is =
    elim (set_cases known.types n k e f inside is) [
      | inl same ↦ subst (λ (m : ℕ). IsKnownOf shapes (row.Type m) f) (sym same.0) (subst (IsKnownOf shapes (row.Type n)) same.1 here)
      | inr old ↦ right.sound (row.Type k) f old
    ]
sound_types shapes known n e right inside here (row.Implementation k) f is = right.sound (row.Implementation k) f is

sound_implementations : (shapes : Shapes) (known : Known) (n : ℕ) (e : Extent) → IsRight shapes known → n < length known.implementations →
    IsKnownOf shapes (row.Implementation n) e → (class : ClassRow) (f : Extent) → extent_at (with_known known (row.Implementation n) e) class ≡ Some f → IsKnownOf shapes class f
sound_implementations shapes known n e right inside here row.Base f is = absurd (cc)
sound_implementations shapes known n e right inside here (row.Type k) f is = right.sound (row.Type k) f is
sound_implementations shapes known n e right inside here (row.Implementation k) f is =
    elim (set_cases known.implementations n k e f inside is) [
      | inl same ↦ subst (λ (m : ℕ). IsKnownOf shapes (row.Implementation m) f) (sym same.0) (subst (IsKnownOf shapes (row.Implementation n)) same.1 here)
      | inr old ↦ right.sound (row.Implementation k) f old
    ]

pub right_with : (shapes : Shapes) (known : Known) (class : ClassRow) (s : Shape) (e : Extent) → IsRight shapes known → shape_at shapes class ≡ Some s →
    IsKnownOf shapes class e → IsRight shapes (with_known known class e)
right_with shapes known row.Base s e right is here = right
right_with shapes known (row.Type n) s e right is here = record {
  sound = sound_types shapes known n e right (subst (λ (m : ℕ). n < m) (sym right.types) (row_inside shapes.types n s is)) here;
  types = length-set known.types n (Some e) ∙ right.types;
  implementations = right.implementations;
}
right_with shapes known (row.Implementation n) s e right is here = record {
  sound = sound_implementations shapes known n e right (subst (λ (m : ℕ). n < m) (sym right.implementations) (row_inside shapes.implementations n s is)) here;
  types = right.types;
  implementations = length-set known.implementations n (Some e) ∙ right.implementations;
}

falls : (xs : List (Option Extent)) (n : ℕ) (e : Extent) → n < length xs → at_row xs n ≡ None → count_by is_none (set xs n (Some e)) + 1 ≡ count_by is_none xs
falls xs n e inside none =
    let change : count_by is_none (set xs n (Some e)) + 1 ≡ count_by is_none xs + 0 =
    subst (λ (o : Option Extent). count_by is_none (set xs n (Some e)) + cond (is_none o) 1 0 ≡ count_by is_none xs + 0) (sym (row_is xs n) ∙ none)
    (sum_by-set (λ (o : Option Extent). cond (is_none o) 1 0) xs n (Some e) None inside) in
    omega arith

pub fewer_with : (shapes : Shapes) (known : Known) (class : ClassRow) (s : Shape) (e : Extent) → IsRight shapes known → shape_at shapes class ≡ Some s →
    extent_at known class ≡ None → unknown_count (with_known known class e) < unknown_count known
fewer_with shapes known row.Base s e right is none = absurd (cc)
fewer_with shapes known (row.Type n) s e right is none =
    let less = falls known.types n e (subst (λ (m : ℕ). n < m) (sym right.types) (row_inside shapes.types n s is)) none in omega arith
fewer_with shapes known (row.Implementation n) s e right is none =
    let less = falls known.implementations n e (subst (λ (m : ℕ). n < m) (sym right.implementations) (row_inside shapes.implementations n s is)) none in omega arith

pub known_shape : (shapes : Shapes) (class : ClassRow) (s : Shape) (e : Extent) → shape_at shapes class ≡ Some s → IsShapeExtent shapes s e → IsKnownOf shapes class e
known_shape shapes class s e is found = record { type = found.type; stands = row_type shapes class s found.type is found.stands; known = found.known }

pub nothing_there : {X : Type 0} (o : Option (Bor X)) (found : Option X) → option_copied o ≡ found → is_some o ≡ false → found ≡ None
nothing_there None found is none = sym is
nothing_there (Some x) found is none = absurd (cc)
