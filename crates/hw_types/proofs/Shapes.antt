-- Structs and arrays are laid out as their parts are.
use Rattle.std.proofs.Common.{◌≡◌, ℕ, ◌+◌, ◌*◌, ◌≤◌, ◌<◌, zero, suc, List, [], ◌∷◌, ◌++◌, length, get_or, refl, sym, subst, ap, ◌∙◌, add-one, arith}
use Rattle.std.proofs.Math.Nat.{le-max_left, le-max_right, mul-le-mul_right}
use Rattle.hw_types.specs.declared.field_cell.FieldCell.{FieldCell}
use Rattle.hw_types.specs.declared.scalar.Scalar.{Scalar}
use Rattle.hw_types.specs.Scalar.{width_of}
use Rattle.hw_types.specs.Shape.{Shape, IsAlign, LieBetween, AreNatural, IsLaidOut}
use Rattle.hw_types.specs.Layout.{aligned_up, shifted, begin_of, member_cells, members_end, greatest_align, struct_of, element_cells, array_of, scalar_shape, empty_shape}
use Rattle.hw_types.proofs.Alignments.{by_align, IsAlign-1, IsAlign-max, IsAlign-width, aligned_up-ge, aligned_up-mod, greater-mod, same-mod, times-mod, zero-mod}
use Rattle.hw_types.proofs.Cells.{LieBetween-earlier, LieBetween-later, LieBetween-append, LieBetween-shifted, LieBetween-within, LieBetween-le, AreNatural-append, AreNatural-shifted}

abbrev pub AreLaidOut : List Shape → Type 0
AreLaidOut [] = Unit {0}
AreLaidOut (m ∷ ms) = IsLaidOut m × AreLaidOut ms

pub begin_of-ge : (end : ℕ) (m : Shape) → IsLaidOut m → end ≤ begin_of end m
begin_of-ge end m is = aligned_up-ge end m.align is.power

pub members_end-ge : (end : ℕ) (ms : List Shape) → AreLaidOut ms → end ≤ members_end end ms
members_end-ge end [] are = omega arith
members_end-ge end (m ∷ ms) are =
    omega (arith, begin_of-ge end m are.0, members_end-ge (begin_of end m + m.size) ms are.1)

pub greatest_align-power : (ms : List Shape) → AreLaidOut ms → IsAlign (greatest_align ms)
greatest_align-power [] are = IsAlign-1
greatest_align-power (m ∷ ms) are = IsAlign-max m.align (greatest_align ms) are.0.power (greatest_align-power ms are.1)

pub member_cells-in_order : (end : ℕ) (ms : List Shape) → AreLaidOut ms → LieBetween end (members_end end ms) (member_cells end ms)
member_cells-in_order end [] are = omega arith
member_cells-in_order end (m ∷ ms) are =
    let here : LieBetween (begin_of end m + 0) (begin_of end m + m.size) (shifted (begin_of end m) m.scalars) =
    LieBetween-shifted (begin_of end m) 0 m.size m.scalars are.0.in_order in
    let later : end ≤ begin_of end m + 0 = omega (arith, begin_of-ge end m are.0) in
    LieBetween-append end (begin_of end m + m.size) (members_end (begin_of end m + m.size) ms)
    (shifted (begin_of end m) m.scalars) (member_cells (begin_of end m + m.size) ms)
    (LieBetween-earlier end (begin_of end m + 0) (begin_of end m + m.size) (shifted (begin_of end m) m.scalars) later here)
    (member_cells-in_order (begin_of end m + m.size) ms are.1)

pub member_cells-natural : (a end : ℕ) (ms : List Shape) → IsAlign a → greatest_align ms ≤ a → AreLaidOut ms → AreNatural a (member_cells end ms)
member_cells-natural a end [] is h are = tt
member_cells-natural a end (m ∷ ms) is h are =
    let first : m.align ≤ a = omega (arith, h, le-max_left m.align (greatest_align ms)) in
    let others : greatest_align ms ≤ a = omega (arith, h, le-max_right m.align (greatest_align ms)) in
    AreNatural-append a (shifted (begin_of end m) m.scalars) (member_cells (begin_of end m + m.size) ms)
    (AreNatural-shifted (begin_of end m) m.align a m.scalars are.0.power (aligned_up-mod end m.align are.0.power)
    (greater-mod m.align a are.0.power is first) are.0.natural)
    (member_cells-natural a (begin_of end m + m.size) ms is others are.1)

pub IsLaidOut-struct : (ms : List Shape) → AreLaidOut ms → IsLaidOut (struct_of ms)
IsLaidOut-struct ms are =
    let is : IsAlign (greatest_align ms) = greatest_align-power ms are in
    record {
      power = is;
      whole = aligned_up-mod (members_end 0 ms) (greatest_align ms) is;
      in_order = LieBetween-later 0 (members_end 0 ms) (aligned_up (members_end 0 ms) (greatest_align ms)) (member_cells 0 ms)
          (aligned_up-ge (members_end 0 ms) (greatest_align ms) is) (member_cells-in_order 0 ms are);
      natural = member_cells-natural (greatest_align ms) 0 ms is (omega arith) are;
    }

pub element_cells-in_order : (m : Shape) (t : ℕ) → IsLaidOut m → LieBetween 0 (t * m.size) (element_cells m t)
element_cells-in_order m zero is = omega arith
element_cells-in_order m (suc t) is =
    let here : LieBetween (t * m.size + 0) (t * m.size + m.size) (shifted (t * m.size) m.scalars) =
    LieBetween-shifted (t * m.size) 0 m.size m.scalars is.in_order in
    let later : t * m.size ≤ t * m.size + 0 = omega arith in
    let both : LieBetween 0 (t * m.size + m.size) (element_cells m t ++ shifted (t * m.size) m.scalars) =
    LieBetween-append 0 (t * m.size) (t * m.size + m.size) (element_cells m t) (shifted (t * m.size) m.scalars)
    (element_cells-in_order m t is)
    (LieBetween-earlier (t * m.size) (t * m.size + 0) (t * m.size + m.size) (shifted (t * m.size) m.scalars) later here) in
    let same : t * m.size + m.size ≡ suc t * m.size = omega arith in
    subst (λ n. LieBetween 0 n (element_cells m t ++ shifted (t * m.size) m.scalars)) same both

pub element_cells-natural : (m : Shape) (t : ℕ) → IsLaidOut m → AreNatural m.align (element_cells m t)
element_cells-natural m zero is = tt
element_cells-natural m (suc t) is =
    AreNatural-append m.align (element_cells m t) (shifted (t * m.size) m.scalars) (element_cells-natural m t is)
    (AreNatural-shifted (t * m.size) m.align m.align m.scalars is.power (times-mod m.align t m.size is.power is.whole)
    (same-mod m.align is.power) is.natural)

pub IsLaidOut-array : (m : Shape) (t : ℕ) → IsLaidOut m → IsLaidOut (array_of m t)
IsLaidOut-array m t is = record {
  power = is.power;
  whole = times-mod m.align t m.size is.power is.whole;
  in_order = element_cells-in_order m t is;
  natural = element_cells-natural m t is;
}

pub IsLaidOut-scalar : (s : Scalar) → IsLaidOut (scalar_shape s)
IsLaidOut-scalar s =
    let is : IsAlign (width_of s) = IsAlign-width s in
    record {
      power = is;
      whole = same-mod (width_of s) is;
      in_order = (omega arith, omega arith);
      natural = (record { place = zero-mod (width_of s) is; whole = same-mod (width_of s) is }, tt);
    }

pub IsLaidOut-empty : (a : ℕ) → IsAlign a → IsLaidOut (empty_shape a)
IsLaidOut-empty a is = record { power = is; whole = zero-mod a is; in_order = omega arith; natural = tt }

-- no scalars, no room: in elements of no size
pub element_cells-none : (m : Shape) (t : ℕ) → m.scalars ≡ [] → element_cells m t ≡ []
element_cells-none m zero e = refl
element_cells-none m (suc t) e = rw (element_cells-none m t e, e) refl

pub IsAlign-pos : (a : ℕ) → IsAlign a → 1 ≤ a
IsAlign-pos a is = by_align (λ a. 1 ≤ a) a is (omega arith) (omega arith) (omega arith) (omega arith)

pub greatest_align-pos : (ms : List Shape) → 1 ≤ greatest_align ms
greatest_align-pos [] = omega arith
greatest_align-pos (m ∷ ms) = omega (arith, greatest_align-pos ms, le-max_right m.align (greatest_align ms))

abbrev pub shape_with : List FieldCell → ℕ → ℕ → Shape
shape_with cells size align = record { scalars = cells; size = size; align = align }

pub same_shape : (m n : Shape) → m.scalars ≡ n.scalars → m.size ≡ n.size → m.align ≡ n.align → m ≡ n
same_shape m n p q r =
    ap (λ x. shape_with x m.size m.align) p ∙ ap (λ x. shape_with n.scalars x m.align) q ∙ ap (λ x. shape_with n.scalars n.size x) r

-- what takes no room has no scalars
LieBetween-none : (s e : ℕ) (cells : List FieldCell) → e ≡ 0 → LieBetween s e cells → cells ≡ []
LieBetween-none s e [] h lie = refl
LieBetween-none s e (c ∷ cs) h lie =
    absurd (omega (arith, h, LieBetween-le (c.offset + width_of c.scalar) e cs lie.1, IsAlign-pos (width_of c.scalar) (IsAlign-width c.scalar)))

pub array_of-empty : (m : Shape) (t : ℕ) → IsLaidOut m → m.size ≡ 0 → m ≡ array_of m t
array_of-empty m t is size =
    let none : m.scalars ≡ [] = LieBetween-none 0 m.size m.scalars size is.in_order in
    let cells : m.scalars ≡ element_cells m t = none ∙ sym (element_cells-none m t none) in
    let room : m.size ≡ t * m.size = rw size (omega arith) in
    same_shape m (array_of m t) cells room refl

pub element_cells-next : (m : Shape) (i size : ℕ) (old new cells : List FieldCell) → old ≡ element_cells m i →
    size ≡ m.size → cells ≡ m.scalars → new ≡ old ++ shifted (i * size) cells → new ≡ element_cells m (i + 1)
element_cells-next m i size old new cells is p q e = rw (add-one, e, is, p, q) refl

pub IsLaidOut-elements : (m : Shape) (t i size align : ℕ) (cells : List FieldCell) → IsLaidOut m → cells ≡ element_cells m i → i ≡ t →
    size ≡ m.size → align ≡ m.align → IsLaidOut (shape_with cells (t * size) align)
IsLaidOut-elements m t i size align cells is e f p q = rw (e, f, p, q) (IsLaidOut-array m t is)

-- each scalar of a member begins within it
pub offset-le : (m : Shape) (k : ℕ) (d : FieldCell) → IsLaidOut m → k < length m.scalars → (get_or m.scalars k d).offset ≤ m.size
offset-le m k d is h = omega (arith, LieBetween-within 0 m.size m.scalars k d is.in_order h)

pub offset-lt_array : (m : Shape) (i t k : ℕ) (d : FieldCell) → IsLaidOut m → i < t → t * m.size < 4294967296 → k < length m.scalars →
    i * m.size + (get_or m.scalars k d).offset < 4294967296
offset-lt_array m i t k d is h room at =
    let more : suc i * m.size ≤ t * m.size = mul-le-mul_right m.size h in
    omega (arith, more, offset-le m k d is at)
