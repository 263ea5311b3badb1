-- Bytes that were made from a value are read as it.
use Rattle.std.proofs.Common.{◌≡◌, ℕ, ℤ, ◌+◌, ◌-◌, ◌≤◌, List, [], ◌∷◌, ◌++◌, length, take, drop, Option, Some, refl, ap, subst, ◌∙◌, arith, length-append, append_assoc, eq-eqb}
use Rattle.std.specs.Option.{option_map, option_and_then}
use Rattle.std.proofs.Math.Seq.{take-append_seam, drop-append_seam}
use Rattle.hw_types.specs.declared.field_cell.FieldCell.{FieldCell}
use Rattle.hw_types.specs.Scalar.{width_of}
use Rattle.hw_types.specs.Shape.{Shape, LieBetween, IsLaidOut}
use Rattle.hw_types.specs.Value.{AreScalarValues, IsValueOf, IsScalarValue, number_in, meaning_of, cell_bytes, held_in, all_held_in, value_in, bytes_of_number, code_of, zeros, bytes_from, bytes_for}
use Rattle.hw_types.proofs.Cells.{LieBetween-le}
use Rattle.hw_types.proofs.Meanings.{meaning_of-code_of, code_of-lt}
use Rattle.hw_types.proofs.Numbers.{length-bytes_of_number, length-zeros, number_in-bytes_of_number}

-- what stands behind a part of known length
cut : (n w : ℕ) (front middle back : List ℕ) → length front ≡ n → length middle ≡ w → take w (drop n (front ++ (middle ++ back))) ≡ middle
cut n w front middle back p q =
    let behind : drop n (front ++ (middle ++ back)) ≡ middle ++ back =
    subst (λ k. drop k (front ++ (middle ++ back)) ≡ middle ++ back) p (drop-append_seam front (middle ++ back)) in
    let front_part : take w (middle ++ back) ≡ middle = subst (λ k. take k (middle ++ back) ≡ middle) q (take-append_seam middle back) in
    ap (take w) behind ∙ front_part

both_some : (o : Option ℤ) (p : Option (List ℤ)) (v : ℤ) (vs : List ℤ) → o ≡ Some v → p ≡ Some vs →
    option_and_then (λ x. option_map (λ xs. x ∷ xs) p) o ≡ Some (v ∷ vs)
both_some o p v vs e f = rw (e, f) refl

held-written : (front back : List ℕ) (cell : FieldCell) (v : ℤ) → length front ≡ cell.offset → IsScalarValue cell.scalar v →
    held_in cell (front ++ (bytes_of_number (width_of cell.scalar) (code_of cell.scalar v) ++ back)) ≡ Some v
held-written front back cell v h is =
    let bytes : cell_bytes cell (front ++ (bytes_of_number (width_of cell.scalar) (code_of cell.scalar v) ++ back)) ≡
    bytes_of_number (width_of cell.scalar) (code_of cell.scalar v) =
    cut cell.offset (width_of cell.scalar) front (bytes_of_number (width_of cell.scalar) (code_of cell.scalar v)) back h
    (length-bytes_of_number (width_of cell.scalar) (code_of cell.scalar v)) in
    let number : number_in (cell_bytes cell (front ++ (bytes_of_number (width_of cell.scalar) (code_of cell.scalar v) ++ back))) ≡ code_of cell.scalar v =
    ap number_in bytes ∙ number_in-bytes_of_number (width_of cell.scalar) (code_of cell.scalar v) (code_of-lt cell.scalar v is) in
    ap (meaning_of cell.scalar) number ∙ meaning_of-code_of cell.scalar v is

gap_length : (front : List ℕ) (s n : ℕ) → length front ≡ s → s ≤ n → length (front ++ zeros (n - s)) ≡ n
gap_length front s n h le = omega (arith, length-append front (zeros (n - s)), length-zeros (n - s))

all_held-written : (size end : ℕ) (cells : List FieldCell) (vs : List ℤ) (front : List ℕ) → length front ≡ end →
    LieBetween end size cells → AreScalarValues cells vs → all_held_in cells (front ++ bytes_from size end cells vs) ≡ Some vs
all_held-written size end [] [] front h lie are = refl
all_held-written size end [] (v ∷ vs) front h lie are = absurd are
all_held-written size end (c ∷ cs) [] front h lie are = absurd are
all_held-written size end (c ∷ cs) (v ∷ vs) front h lie are =
    let w : ℕ = width_of c.scalar in
    let gap : List ℕ = zeros (c.offset - end) in
    let part : List ℕ = bytes_of_number (width_of c.scalar) (code_of c.scalar v) in
    let rest : List ℕ = bytes_from size (c.offset + width_of c.scalar) cs vs in
    let begin : length (front ++ gap) ≡ c.offset = gap_length front end c.offset h lie.0 in
    let behind : length ((front ++ gap) ++ part) ≡ c.offset + w =
    omega (arith, length-append (front ++ gap) part, begin, length-bytes_of_number (width_of c.scalar) (code_of c.scalar v)) in
    let here : held_in c ((front ++ gap) ++ (part ++ rest)) ≡ Some v = held-written (front ++ gap) rest c v begin are.0 in
    let more : all_held_in cs (((front ++ gap) ++ part) ++ rest) ≡ Some vs =
    all_held-written size (c.offset + w) cs vs ((front ++ gap) ++ part) behind lie.1 are.1 in
    let same : (front ++ gap) ++ (part ++ rest) ≡ front ++ (gap ++ (part ++ rest)) = simp append_assoc in
    let same_too : ((front ++ gap) ++ part) ++ rest ≡ front ++ (gap ++ (part ++ rest)) = simp append_assoc in
    both_some (held_in c (front ++ (gap ++ (part ++ rest)))) (all_held_in cs (front ++ (gap ++ (part ++ rest)))) v vs
    (subst (λ b. held_in c b ≡ Some v) same here) (subst (λ b. all_held_in cs b ≡ Some vs) same_too more)

pub length-bytes_from : (size end : ℕ) (cells : List FieldCell) (vs : List ℤ) → LieBetween end size cells → AreScalarValues cells vs →
    length (bytes_from size end cells vs) ≡ size - end
length-bytes_from size end [] [] lie are = length-zeros (size - end)
length-bytes_from size end [] (v ∷ vs) lie are = absurd are
length-bytes_from size end (c ∷ cs) [] lie are = absurd are
length-bytes_from size end (c ∷ cs) (v ∷ vs) lie are =
    omega (
      arith,
      lie.0,
      LieBetween-le (c.offset + width_of c.scalar) size cs lie.1,
      length-append (zeros (c.offset - end)) (bytes_of_number (width_of c.scalar) (code_of c.scalar v) ++ bytes_from size (c.offset + width_of c.scalar) cs vs),
      length-append (bytes_of_number (width_of c.scalar) (code_of c.scalar v)) (bytes_from size (c.offset + width_of c.scalar) cs vs),
      length-zeros (c.offset - end),
      length-bytes_of_number (width_of c.scalar) (code_of c.scalar v),
      length-bytes_from size (c.offset + width_of c.scalar) cs vs lie.1 are.1,
    )

pub length-bytes_for : (layout : Shape) (vs : List ℤ) → IsLaidOut layout → IsValueOf layout vs → length (bytes_for layout vs) ≡ layout.size
length-bytes_for layout vs is are = omega (arith, length-bytes_from layout.size 0 layout.scalars vs is.in_order are)

pub value_in-bytes_for : (layout : Shape) (vs : List ℤ) → IsLaidOut layout → IsValueOf layout vs → value_in layout (bytes_for layout vs) ≡ Some vs
value_in-bytes_for layout vs is are =
    let fits : length (bytes_for layout vs) ≡ layout.size = omega (arith, length-bytes_from layout.size 0 layout.scalars vs is.in_order are) in
    let all : all_held_in layout.scalars (bytes_for layout vs) ≡ Some vs =
    all_held-written layout.size 0 layout.scalars vs [] refl is.in_order are in
    rw (eq-eqb (length (bytes_for layout vs)) layout.size fits) all
