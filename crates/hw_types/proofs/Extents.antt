-- What is known of a type, and of arrays of it.
use Rattle.std.proofs.Common.{◌≡◌, ℕ, ◌-◌, ◌*◌, ◌^◌, ◌≤◌, ◌<◌, zero, suc, min, length, refl, sym, ap, ◌∙◌, inl, inr, arith}
use Rattle.std.proofs.Math.Nat.{mul-le-mul_left, mul-le-mul_right, min-eq_left, min-eq_right}
use Rattle.std.proofs.lemmas.Bool.{cases_lt}
use Rattle.hw_types.specs.declared.extent.Extent.{Extent}
use Rattle.hw_types.specs.declared.extent.Extent.TheVariants as extent
use Rattle.hw_types.specs.declared.extent.Width.{Width}
use Rattle.hw_types.specs.declared.ty.Ty.{Ty}
use Rattle.hw_types.specs.declared.ty.Ty.TheVariants.{Times}
use Rattle.hw_types.specs.Count.{scalar_count, told_count}
use Rattle.hw_types.specs.Extent.{IsLayoutOf, IsWidthOf, IsExtentOf, count_in, align_in}
use Rattle.hw_types.specs.Layout.{shape_of, array_of, empty_shape}
use Rattle.hw_types.specs.Shape.{Shape, IsAlign}
use Rattle.hw_types.proofs.Shapes.{same_shape}
use Rattle.hw_types.proofs.Types.{sound, scalar_count-Times, shape_of-Times}

-- a count that is told and small is the whole count
pub told-sum : (whole told : ℕ) → told ≡ min whole (2 ^ 64 - 1) → told ≤ 256 → whole ≤ 256
told-sum whole told is few = grind arith

pub extent-count : (type : Ty) (e : Extent) → IsExtentOf type e → count_in e ≡ told_count type
extent-count type (extent.Laid layout) is =
    let counted : length layout.scalars ≡ scalar_count type = rw is.laid (sound type).counted in
    let few = is.few in
    rw counted (grind arith)
extent-count type (extent.TooWide width) is = is.count

pub few-scalars : (type : Ty) (layout : Shape) → IsLayoutOf type layout → length layout.scalars ≤ 256
few-scalars type layout is = rw is.laid (omega (arith, (sound type).counted, is.few))

pub extent-align : (type : Ty) (e : Extent) → IsExtentOf type e → align_in e ≡ (shape_of type).align
extent-align type (extent.Laid layout) is = ap (λ (m : Shape). m.align) is.laid
extent-align type (extent.TooWide width) is = is.align

pub width-power : (type : Ty) (width : Width) → IsWidthOf type width → IsAlign width.align
width-power type width is = rw is.align (sound type).laid_out.power

-- so many times what is told of a count
times-told : (n count : ℕ) → min (n * min count (2 ^ 64 - 1)) (2 ^ 64 - 1) ≡ min (n * count) (2 ^ 64 - 1)
times-told zero count =
    let none : 0 * min count (2 ^ 64 - 1) ≡ 0 * count = omega arith in
    ap (λ n. min n (2 ^ 64 - 1)) none
times-told (suc n) count =
    let once : 1 * count ≤ suc n * count = mul-le-mul_right {m = 1} {n = suc n} count (omega arith) in
    let told : 1 * (2 ^ 64 - 1) ≤ suc n * (2 ^ 64 - 1) = mul-le-mul_right {m = 1} {n = suc n} (2 ^ 64 - 1) (omega arith) in
    elim (cases_lt (2 ^ 64 - 1) count) [
      | inr small ↦ rw (min-eq_left small) refl
      | inl great ↦
          let above : 2 ^ 64 - 1 ≤ count = omega (arith, great) in
          let all : 2 ^ 64 - 1 ≤ suc n * (2 ^ 64 - 1) = omega (arith, told) in
          let more : 2 ^ 64 - 1 ≤ suc n * count = omega (arith, once, great) in
          rw (min-eq_right above) (min-eq_right all ∙ sym (min-eq_right more))
    ]

pub times-count : (type : Ty) (n count : ℕ) (e : Extent) → IsExtentOf type e → count ≡ min (n * count_in e) (2 ^ 64 - 1) → count ≡ told_count (Times type n)
times-count type n count e is counted =
    rw (counted, extent-count type e is, scalar_count-Times type n) (times-told n (scalar_count type))

pub times-wide : (type : Ty) (n : ℕ) (e : Extent) (width : Width) → IsExtentOf type e → width.count ≡ min (n * count_in e) (2 ^ 64 - 1) →
    width.align ≡ align_in e → 256 < width.count → IsWidthOf (Times type n) width
times-wide type n e width is counted aligned many =
    let told = times-count type n width.count e is counted in
    record {
      many = grind arith;
      count = told;
      align = rw (aligned, extent-align type e is, shape_of-Times type n) refl;
    }

pub times-few : (type : Ty) (n count : ℕ) (e : Extent) → IsExtentOf type e → count ≡ min (n * count_in e) (2 ^ 64 - 1) → count ≤ 256 → scalar_count (Times type n) ≤ 256
times-few type n count e is counted few = told-sum (scalar_count (Times type n)) count (times-count type n count e is counted) few

pub times-room : (type : Ty) (n count : ℕ) (layout : Shape) → IsLayoutOf type layout → count ≡ min (n * length layout.scalars) (2 ^ 64 - 1) → count ≤ 256 →
    n * layout.size < 4294967296
times-room type n count layout is counted few =
    let total : scalar_count (Times type n) ≤ 256 = times-few type n count (extent.Laid layout) is counted few in
    let tight : n * (shape_of type).size ≤ n * (8 * scalar_count type) = mul-le-mul_left n (sound type).tight in
    rw is.laid (omega (arith, tight, total, scalar_count-Times type n))

pub times-laid : (type : Ty) (n count : ℕ) (layout array : Shape) → IsLayoutOf type layout → count ≡ min (n * length layout.scalars) (2 ^ 64 - 1) → count ≤ 256 →
    array ≡ array_of layout n → IsLayoutOf (Times type n) array
times-laid type n count layout array is counted few made = record {
  few = times-few type n count (extent.Laid layout) is counted few;
  laid = rw (made, is.laid) (sym (shape_of-Times type n));
}

-- no element of too many scalars
pub times-none : (type : Ty) (n count : ℕ) (width : Width) (layout : Shape) → IsWidthOf type width → count ≡ min (n * width.count) (2 ^ 64 - 1) → count ≤ 256 →
    layout ≡ empty_shape width.align → IsLayoutOf (Times type n) layout
times-none type zero count width layout is counted few made = record {
  few = times-few type 0 count (extent.TooWide width) is counted few;
  laid = rw (made, is.align) (same_shape (empty_shape (shape_of type).align) (array_of (shape_of type) 0) refl (omega arith) refl ∙ sym (shape_of-Times type 0));
}
times-none type (suc n) count width layout is counted few made =
    let once : 1 * width.count ≤ suc n * width.count = mul-le-mul_right {m = 1} {n = suc n} width.count (omega arith) in
    let many = is.many in
    let told = is.count in
    absurd (grind arith)
