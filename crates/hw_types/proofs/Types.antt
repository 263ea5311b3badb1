-- What every type's layout keeps.
use Rattle.std.proofs.Common.{◌≡◌, ℕ, ◌+◌, ◌*◌, ◌≤◌, zero, suc, List, [], ◌∷◌, ◌++◌, length, map, sum, sym, ap, subst, refl, ◌∙◌, arith, length-append}
use Rattle.std.proofs.Math.Nat.{mul-le-mul_left}
use Rattle.std.proofs.lemmas.List.Sums.{sum_by-cons}
use Rattle.hw_types.specs.declared.field_cell.FieldCell.{FieldCell}
use Rattle.hw_types.specs.declared.scalar.Scalar.{Scalar}
use Rattle.hw_types.specs.declared.ty.Ty.{Ty, Ty-F, fold-roll-Ty}
use Rattle.hw_types.specs.declared.ty.Ty.TheFolds.{ind-Ty, map-Ty}
use Rattle.hw_types.specs.declared.ty.Ty.TheOpen as ty
use Rattle.hw_types.specs.declared.ty.Ty.TheViews.{roll-Ty}
use Rattle.hw_types.specs.declared.ty.Ty.TheVariants.{One, Fields, Times, Nothing, rolls-One, rolls-Fields, rolls-Times, rolls-Nothing}
use Rattle.hw_types.specs.Count.{scalar_count, count_step}
use Rattle.hw_types.specs.Scalar.{width_of}
use Rattle.hw_types.specs.Shape.{Shape, IsLaidOut}
use Rattle.hw_types.specs.Layout.{shape_of, shape_step, scalar_shape, struct_of, array_of, empty_shape, shifted, begin_of, member_cells, members_end, greatest_align, element_cells}
use Rattle.hw_types.proofs.Alignments.{by_align, IsAlign-1, IsAlign-width, aligned_up-le}
use Rattle.hw_types.proofs.Shapes.{AreLaidOut, IsLaidOut-scalar, IsLaidOut-struct, IsLaidOut-array, IsLaidOut-empty, greatest_align-power}

pub shape_of-One : (s : Scalar) → shape_of (One s) ≡ scalar_shape s
shape_of-One s = ap shape_of (sym (rolls-One s)) ∙ fold-roll-Ty Shape shape_step (Ty-F.One s)

pub shape_of-Fields : (ts : List Ty) → shape_of (Fields ts) ≡ struct_of (map shape_of ts)
shape_of-Fields ts = ap shape_of (sym (rolls-Fields ts)) ∙ fold-roll-Ty Shape shape_step (Ty-F.Fields ts)

pub shape_of-Times : (t : Ty) (n : ℕ) → shape_of (Times t n) ≡ array_of (shape_of t) n
shape_of-Times t n = ap shape_of (sym (rolls-Times t n)) ∙ fold-roll-Ty Shape shape_step (Ty-F.Times t n)

pub shape_of-Nothing : shape_of Nothing ≡ empty_shape 1
shape_of-Nothing = ap shape_of (sym rolls-Nothing) ∙ fold-roll-Ty Shape shape_step Ty-F.Nothing

pub scalar_count-One : (s : Scalar) → scalar_count (One s) ≡ 1
scalar_count-One s = ap scalar_count (sym (rolls-One s)) ∙ fold-roll-Ty ℕ count_step (Ty-F.One s)

pub scalar_count-Fields : (ts : List Ty) → scalar_count (Fields ts) ≡ sum (map scalar_count ts)
scalar_count-Fields ts = ap scalar_count (sym (rolls-Fields ts)) ∙ fold-roll-Ty ℕ count_step (Ty-F.Fields ts)

pub scalar_count-Times : (t : Ty) (n : ℕ) → scalar_count (Times t n) ≡ n * scalar_count t
scalar_count-Times t n = ap scalar_count (sym (rolls-Times t n)) ∙ fold-roll-Ty ℕ count_step (Ty-F.Times t n)

pub scalar_count-Nothing : scalar_count Nothing ≡ 0
scalar_count-Nothing = ap scalar_count (sym rolls-Nothing) ∙ fold-roll-Ty ℕ count_step Ty-F.Nothing

-- a type's layout is one, has as many scalars as the type, and takes at most eight bytes for each
pub record IsSound (t : Ty) : Type 0 where
  pub laid_out : IsLaidOut (shape_of t)
  pub counted : length (shape_of t).scalars ≡ scalar_count t
  pub tight : (shape_of t).size ≤ 8 * scalar_count t

abbrev pub AreSound : List Ty → Type 0
AreSound [] = Unit {0}
AreSound (t ∷ ts) = IsSound t × AreSound ts

pub AreLaidOut-sound : (ts : List Ty) → AreSound ts → AreLaidOut (map shape_of ts)
AreLaidOut-sound [] are = tt
AreLaidOut-sound (t ∷ ts) are = (are.0.laid_out, AreLaidOut-sound ts are.1)

pub sum-cons : (n : ℕ) (ns : List ℕ) → sum (n ∷ ns) ≡ n + sum ns
sum-cons n ns = sum_by-cons (λ x. x) n ns

length-shifted : (k : ℕ) (cells : List FieldCell) → length (shifted k cells) ≡ length cells
length-shifted k [] = refl
length-shifted k (c ∷ cs) = omega (arith, length-shifted k cs)

member_cells-length : (end : ℕ) (ts : List Ty) → AreSound ts → length (member_cells end (map shape_of ts)) ≡ sum (map scalar_count ts)
member_cells-length end [] are = refl
member_cells-length end (t ∷ ts) are =
    let both : length (shifted (begin_of end (shape_of t)) (shape_of t).scalars ++ member_cells (begin_of end (shape_of t) + (shape_of t).size) (map shape_of ts))
    ≡ scalar_count t + sum (map scalar_count ts) =
    omega (
      arith,
      length-append (shifted (begin_of end (shape_of t)) (shape_of t).scalars) (member_cells (begin_of end (shape_of t) + (shape_of t).size) (map shape_of ts)),
      length-shifted (begin_of end (shape_of t)) (shape_of t).scalars,
      are.0.counted,
      member_cells-length (begin_of end (shape_of t) + (shape_of t).size) ts are.1,
    ) in
    both ∙ sym (sum-cons (scalar_count t) (map scalar_count ts))

pub members_end-le : (end c : ℕ) (ts : List Ty) → AreSound ts → end ≤ 8 * c → members_end end (map shape_of ts) ≤ 8 * (c + sum (map scalar_count ts))
members_end-le end c [] are h = omega arith
members_end-le end c (t ∷ ts) are h =
    let begin : begin_of end (shape_of t) ≤ 8 * c = aligned_up-le end (shape_of t).align c are.0.laid_out.power h in
    let next : begin_of end (shape_of t) + (shape_of t).size ≤ 8 * (c + scalar_count t) = omega (arith, begin, are.0.tight) in
    let more : members_end (begin_of end (shape_of t) + (shape_of t).size) (map shape_of ts) ≤ 8 * (c + (scalar_count t + sum (map scalar_count ts))) =
    omega (arith, members_end-le (begin_of end (shape_of t) + (shape_of t).size) (c + scalar_count t) ts are.1 next) in
    subst (λ n. members_end (begin_of end (shape_of t) + (shape_of t).size) (map shape_of ts) ≤ 8 * (c + n))
    (sym (sum-cons (scalar_count t) (map scalar_count ts))) more

element_cells-length : (m : Shape) (n : ℕ) → length (element_cells m n) ≡ n * length m.scalars
element_cells-length m zero = omega arith
element_cells-length m (suc n) =
    omega (arith, length-append (element_cells m n) (shifted (n * m.size) m.scalars), length-shifted (n * m.size) m.scalars, element_cells-length m n)

IsSound-by : (t : Ty) (s : Shape) (n : ℕ) → shape_of t ≡ s → scalar_count t ≡ n → IsLaidOut s → length s.scalars ≡ n → s.size ≤ 8 * n → IsSound t
IsSound-by t s n shape count laid_out counted tight = record {
  laid_out = rw shape laid_out;
  counted = rw (shape, count) counted;
  tight = rw (shape, count) tight;
}

width-le : (s : Scalar) → width_of s ≤ 8
width-le s = by_align (λ a. a ≤ 8) (width_of s) (IsAlign-width s) (omega arith) (omega arith) (omega arith) (omega arith)

IsSound-One : (s : Scalar) → IsSound (One s)
IsSound-One s =
    IsSound-by (One s) (scalar_shape s) 1 (shape_of-One s) (scalar_count-One s) (IsLaidOut-scalar s) refl (omega (arith, width-le s))

IsSound-Fields : (ts : List Ty) → AreSound ts → IsSound (Fields ts)
IsSound-Fields ts are =
    let laid_out : AreLaidOut (map shape_of ts) = AreLaidOut-sound ts are in
    let end : members_end 0 (map shape_of ts) ≤ 8 * sum (map scalar_count ts) = omega (arith, members_end-le 0 0 ts are (omega arith)) in
    IsSound-by (Fields ts) (struct_of (map shape_of ts)) (sum (map scalar_count ts)) (shape_of-Fields ts) (scalar_count-Fields ts)
    (IsLaidOut-struct (map shape_of ts) laid_out) (member_cells-length 0 ts are)
    (aligned_up-le (members_end 0 (map shape_of ts)) (greatest_align (map shape_of ts)) (sum (map scalar_count ts))
    (greatest_align-power (map shape_of ts) laid_out) end)

IsSound-Times : (t : Ty) (n : ℕ) → IsSound t → IsSound (Times t n)
IsSound-Times t n is =
    let counted : length (element_cells (shape_of t) n) ≡ n * scalar_count t = element_cells-length (shape_of t) n ∙ ap (λ k. n * k) is.counted in
    let tight : n * (shape_of t).size ≤ n * (8 * scalar_count t) = mul-le-mul_left n is.tight in
    IsSound-by (Times t n) (array_of (shape_of t) n) (n * scalar_count t) (shape_of-Times t n) (scalar_count-Times t n)
    (IsLaidOut-array (shape_of t) n is.laid_out) counted (omega (arith, tight))

IsSound-Nothing : IsSound Nothing
IsSound-Nothing =
    IsSound-by Nothing (empty_shape 1) 0 shape_of-Nothing scalar_count-Nothing (IsLaidOut-empty 1 IsAlign-1) refl (omega arith)

AreSound-paired : (ts : List ((t : Ty) × IsSound t)) → AreSound (map (λ e. e.0) ts)
AreSound-paired [] = tt
AreSound-paired (e ∷ ts) = (e.1, AreSound-paired ts)

step : (y : Ty-F ((t : Ty) × IsSound t)) → IsSound (roll-Ty (map-Ty ((t : Ty) × IsSound t) Ty (λ e. e.0) y))
step (ty.One s) = subst IsSound (sym (rolls-One s)) (IsSound-One s)
step (ty.Fields ts) =
    subst IsSound (sym (rolls-Fields (map (λ e. e.0) ts))) (IsSound-Fields (map (λ e. e.0) ts) (AreSound-paired ts))
step (ty.Times e n) = subst IsSound (sym (rolls-Times e.0 n)) (IsSound-Times e.0 n e.1)
step ty.Nothing = subst IsSound (sym rolls-Nothing) IsSound-Nothing

pub sound : (t : Ty) → IsSound t
sound = ind-Ty IsSound (λ x y is. subst (λ z. IsSound (roll-Ty z)) is (step y))
