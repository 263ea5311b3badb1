-- What is read from bytes is a value.
use Rattle.std.proofs.Common.{◌≡◌, ℕ, ℤ, pos, ◌+◌, ◌*◌, ◌^◌, ◌<◌, ◌≤◌, ◌+ℤ◌, ◌-ℤ◌, ◌<ℤ◌, ◌≤ℤ◌, zero, suc, nat_lt, cond, min, inl, inr, append-nil, List, [], ◌∷◌, ◌++◌, length, get_or, take, drop, Option, Some, None, refl, sym, ap, ◌∙◌, arith}
use Rattle.std.specs.Option.{option_map}
use Rattle.std.proofs.lemmas.Option.{option_and_then_some}
use Rattle.std.proofs.lemmas.Bool.{cases_lt, cond_below, cond_above}
use Rattle.std.proofs.lemmas.Int.{ints}
use Rattle.std.proofs.lemmas.List.{length-take}
use Rattle.std.proofs.Math.Nat.{pow-le-pow_right}
use Rattle.hw_types.specs.declared.field_cell.FieldCell.{FieldCell}
use Rattle.hw_types.specs.declared.scalar.Scalar.{Scalar}
use Rattle.hw_types.specs.declared.scalar.Scalar.TheVariants as scalar
use Rattle.hw_types.specs.Scalar.{width_of}
use Rattle.hw_types.specs.Shape.{Shape, LieBetween, IsLaidOut}
use Rattle.hw_types.specs.Value.{AreScalarValues, IsScalarValue, IsValueOf, number_in, meaning_of, signed_of, cell_bytes, held_in, all_held_in}
use Rattle.hw_types.proofs.Numbers.{AreBytes, AreBytes-get, number_in-lt}
use Rattle.hw_types.proofs.Meanings.{signed_of-low, signed_of-high}
use Rattle.hw_types.proofs.Cells.{LieBetween-within}

AreBytes-take : (n : ℕ) (bs : List ℕ) → AreBytes bs → AreBytes (take n bs)
AreBytes-take zero bs are = tt
AreBytes-take (suc n) [] are = tt
AreBytes-take (suc n) (b ∷ bs) are = (are.0, AreBytes-take n bs are.1)

AreBytes-drop : (n : ℕ) (bs : List ℕ) → AreBytes bs → AreBytes (drop n bs)
AreBytes-drop zero bs are = are
AreBytes-drop (suc n) [] are = tt
AreBytes-drop (suc n) (b ∷ bs) are = AreBytes-drop n bs are.1

number-lt : (cell : FieldCell) (bytes : List ℕ) → AreBytes bytes → number_in (cell_bytes cell bytes) < 256 ^ width_of cell.scalar
number-lt cell bytes are =
    let few : length (cell_bytes cell bytes) ≤ width_of cell.scalar = omega (arith, length-take (width_of cell.scalar) (drop cell.offset bytes)) in
    let most : 256 ^ length (cell_bytes cell bytes) ≤ 256 ^ width_of cell.scalar = pow-le-pow_right (omega arith) few in
    omega (arith, most, number_in-lt (cell_bytes cell bytes) (AreBytes-take (width_of cell.scalar) (drop cell.offset bytes) (AreBytes-drop cell.offset bytes are)))

no_value : (v : ℤ) → None ≡ Some v → ⊥
no_value v e = cc

no_values : (vs : List ℤ) → None ≡ Some vs → ⊥
no_values vs e = cc

some-same : {A : Type 0} (x y : A) → Some x ≡ Some y → x ≡ y
some-same x y e = cc

unsigned-fits : (limit n : ℕ) (v : ℤ) → n < limit → Some (pos n) ≡ Some v → (pos 0 ≤ℤ v) × (v <ℤ pos limit)
unsigned-fits limit n v h e = let is : pos n ≡ v = some-same (pos n) v e in (omega (arith, ints, is), omega (arith, ints, is))

signed-fits : (half n : ℕ) (v : ℤ) → n < 2 * half → Some (signed_of half n) ≡ Some v → (pos 0 ≤ℤ (v +ℤ pos half)) × (v <ℤ pos half)
signed-fits half n v h e =
    let is : signed_of half n ≡ v = some-same (signed_of half n) v e in
    elim (cases_lt n half) [
      | inl less ↦ let low : signed_of half n ≡ pos n = signed_of-low half n less in (omega (arith, ints, is, low), omega (arith, ints, is, low))
      | inr more ↦ let high : signed_of half n ≡ pos n -ℤ pos (2 * half) = signed_of-high half n more in
          (omega (arith, ints, is, high), omega (arith, ints, is, high))
    ]

below-fits : (count n : ℕ) (v : ℤ) → cond (nat_lt n count) (Some (pos n)) None ≡ Some v → (n < count) × (Some (pos n) ≡ Some v)
below-fits count n v e =
    elim (cases_lt n count) [
      | inl less ↦ (less, cond_below n count (Some (pos n)) None less ∙ e)
      | inr more ↦ let none : None ≡ cond (nat_lt n count) (Some (pos n)) None = cond_above n count (Some (pos n)) None None more refl in
          absurd (no_value v (none ∙ e))
    ]

meaning_of-fits : (s : Scalar) (n : ℕ) (v : ℤ) → n < 256 ^ width_of s → meaning_of s n ≡ Some v → IsScalarValue s v
meaning_of-fits scalar.U8 n v h e = let is = unsigned-fits 256 n v h e in record { low = is.0; high = is.1 }
meaning_of-fits scalar.U16 n v h e = let is = unsigned-fits 65536 n v h e in record { low = is.0; high = is.1 }
meaning_of-fits scalar.U32 n v h e = let is = unsigned-fits 4294967296 n v h e in record { low = is.0; high = is.1 }
meaning_of-fits scalar.U64 n v h e = let is = unsigned-fits 18446744073709551616 n v h e in record { low = is.0; high = is.1 }
meaning_of-fits scalar.I8 n v h e = let is = signed-fits 128 n v h e in record { low = omega (arith, ints, is.0); high = is.1 }
meaning_of-fits scalar.I16 n v h e = let is = signed-fits 32768 n v h e in record { low = omega (arith, ints, is.0); high = is.1 }
meaning_of-fits scalar.I32 n v h e = let is = signed-fits 2147483648 n v h e in record { low = omega (arith, ints, is.0); high = is.1 }
meaning_of-fits scalar.I64 n v h e = let is = signed-fits 9223372036854775808 n v h e in record { low = omega (arith, ints, is.0); high = is.1 }
meaning_of-fits scalar.Flag n v h e =
    let found = below-fits 2 n v e in
    let is = unsigned-fits 2 n v found.0 found.1 in
    record { low = is.0; high = is.1 }
meaning_of-fits (scalar.Choice count) n v h e =
    let found = below-fits count n v e in
    let both : n < min count 4294967296 = omega (arith, found.0, h) in
    let is = unsigned-fits (min count 4294967296) n v both found.1 in
    record { low = is.0; high = is.1 }

map_some : (x : ℤ) (o : Option (List ℤ)) (vs : List ℤ) → option_map (λ xs. x ∷ xs) o ≡ Some vs → (xs : List ℤ) × (o ≡ Some xs) × (x ∷ xs ≡ vs)
map_some x None vs e = absurd (no_values vs e)
map_some x (Some xs) vs e = (xs, refl, some-same (x ∷ xs) vs e)

pub all_held_in-fits : (cells : List FieldCell) (bytes : List ℕ) (vs : List ℤ) → AreBytes bytes → all_held_in cells bytes ≡ Some vs → AreScalarValues cells vs
all_held_in-fits [] bytes vs are e = rw (← some-same [] vs e) tt
all_held_in-fits (c ∷ cs) bytes vs are e =
    option_and_then_some (λ x. option_map (λ xs. x ∷ xs) (all_held_in cs bytes)) (held_in c bytes) vs e
    (λ x held rest. let more = map_some x (all_held_in cs bytes) vs rest in
    rw (← more.2) (
      meaning_of-fits c.scalar (number_in (cell_bytes c bytes)) x (number-lt c bytes are) held,
      all_held_in-fits cs bytes more.0 are more.1,
    ))

-- what was read at the end of the loop
pub read_end : (layout : Shape) (bytes : List ℕ) (cells rest : List FieldCell) (vs : List ℤ) → ((i : ℕ) → i < length bytes → get_or bytes i 0 < 256) →
    cells ≡ layout.scalars → rest ≡ [] → option_map (λ xs. vs ++ xs) (all_held_in rest bytes) ≡ all_held_in cells bytes → IsValueOf layout vs
read_end layout bytes cells rest vs are e none h =
    let last : Some (vs ++ []) ≡ all_held_in layout.scalars bytes = rw (none, e) at h in
    let all : all_held_in layout.scalars bytes ≡ Some vs = sym last ∙ ap Some (append-nil vs) in
    all_held_in-fits layout.scalars bytes vs (AreBytes-get bytes are) all

-- a scalar of the layout lies in bytes of its size
pub cell-within : (layout : Shape) (cells : List FieldCell) (i n : ℕ) (d : FieldCell) → IsLaidOut layout → cells ≡ layout.scalars → n ≡ layout.size →
    i < length cells → (get_or cells i d).offset + width_of (get_or cells i d).scalar ≤ n
cell-within layout cells i n d is e f h =
    let lie : LieBetween 0 n cells = rw (e, f) is.in_order in
    LieBetween-within 0 n cells i d lie h
