-- The loops over a layout's scalars.
use Rattle.std.proofs.Common.{◌≡◌, ℕ, ℤ, ◌+◌, ◌-◌, ◌<◌, ◌≤◌, zero, suc, List, [], ◌∷◌, ◌++◌, length, get_or, drop, refl, ap, arith, length-append, append_assoc, add-one}
use Rattle.std.proofs.Math.Seq.{drop-cons}
use Rattle.hw_types.specs.declared.field_cell.FieldCell.{FieldCell}
use Rattle.hw_types.specs.Scalar.{width_of}
use Rattle.hw_types.specs.Shape.{Shape, LieBetween, IsLaidOut}
use Rattle.hw_types.specs.Value.{AreScalarValues, IsScalarValue, bytes_of_number, code_of, zeros, bytes_from, bytes_for}
use Rattle.hw_types.proofs.Numbers.{length-bytes_of_number, length-zeros}

pub AreScalarValues-length : (cells : List FieldCell) (vs : List ℤ) → AreScalarValues cells vs → length cells ≡ length vs
AreScalarValues-length [] [] are = refl
AreScalarValues-length [] (v ∷ vs) are = absurd are
AreScalarValues-length (c ∷ cs) [] are = absurd are
AreScalarValues-length (c ∷ cs) (v ∷ vs) are = omega (arith, AreScalarValues-length cs vs are.1)

pub AreScalarValues-get : (cells : List FieldCell) (vs : List ℤ) (i : ℕ) (d : FieldCell) (e : ℤ) → AreScalarValues cells vs → i < length cells →
    IsScalarValue (get_or cells i d).scalar (get_or vs i e)
AreScalarValues-get [] vs i d e are h = absurd (omega (arith, h))
AreScalarValues-get (c ∷ cs) [] i d e are h = absurd are
AreScalarValues-get (c ∷ cs) (v ∷ vs) zero d e are h = are.0
AreScalarValues-get (c ∷ cs) (v ∷ vs) (suc i) d e are h =
    let less : i < length cs = omega (arith, h) in
    AreScalarValues-get cs vs i d e are.1 less

-- what is kept while scalars are appended
pub record AreAppended (size : ℕ) (whole : List ℕ) (bytes : List ℕ) (cells : List FieldCell) (vs : List ℤ) : Type 0 where
  pub room : LieBetween (length bytes) size cells
  pub written : bytes ++ bytes_from size (length bytes) cells vs ≡ whole

cons_step : (size : ℕ) (whole old new : List ℕ) (c : FieldCell) (cs : List FieldCell) (v : ℤ) (vs : List ℤ) →
    new ≡ old ++ (zeros (c.offset - length old) ++ bytes_of_number (width_of c.scalar) (code_of c.scalar v)) →
    AreAppended size whole old (c ∷ cs) (v ∷ vs) → AreAppended size whole new cs vs
cons_step size whole old new c cs v vs is kept =
    let gap : List ℕ = zeros (c.offset - length old) in
    let part : List ℕ = bytes_of_number (width_of c.scalar) (code_of c.scalar v) in
    let before : length old ≤ c.offset = kept.room.0 in
    let end : length new ≡ c.offset + width_of c.scalar =
    omega (
      arith,
      ap length is,
      length-append old (gap ++ part),
      length-append gap part,
      length-zeros (c.offset - length old),
      length-bytes_of_number (width_of c.scalar) (code_of c.scalar v),
      before,
    ) in
    record {
      room = rw end kept.room.1;
      written = rw end (rw is (simp append_assoc kept.written));
    }

pub scalar_step : (size i : ℕ) (whole old new : List ℕ) (cells : List FieldCell) (vs : List ℤ) (d : FieldCell) (v e : ℤ) →
    i < length cells → i < length vs → v ≡ get_or vs i e →
    new ≡ old ++ (zeros ((get_or cells i d).offset - length old) ++
    bytes_of_number (width_of (get_or cells i d).scalar) (code_of (get_or cells i d).scalar v)) →
    AreAppended size whole old (drop i cells) (drop i vs) → AreAppended size whole new (drop (i + 1) cells) (drop (i + 1) vs)
scalar_step size i whole old new cells vs d v e h also same is kept =
    let kept' : AreAppended size whole old (get_or cells i d ∷ drop (suc i) cells) (get_or vs i e ∷ drop (suc i) vs) =
    rw (drop-cons cells i d h, drop-cons vs i e also) at kept in
    let is' : new ≡ old ++ (zeros ((get_or cells i d).offset - length old) ++
    bytes_of_number (width_of (get_or cells i d).scalar) (code_of (get_or cells i d).scalar (get_or vs i e))) = rw same at is in
    rw add-one (cons_step size whole old new (get_or cells i d) (drop (suc i) cells) (get_or vs i e) (drop (suc i) vs) is' kept')

pub begin_step : (layout : Shape) (bytes : List ℕ) (cells : List FieldCell) (numbers vs : List ℤ) → bytes ≡ [] → cells ≡ layout.scalars → numbers ≡ vs →
    IsLaidOut layout → AreAppended layout.size (bytes_for layout vs) bytes cells numbers
begin_step layout bytes cells numbers vs e f g is =
    rw (e, f, g) (record { room = is.in_order; written = refl })

pub end_step : (size n : ℕ) (whole old new : List ℕ) (cells : List FieldCell) (vs : List ℤ) → cells ≡ [] → n ≡ size →
    AreAppended size whole old cells vs → new ≡ old ++ zeros (n - length old) → new ≡ whole
end_step size n whole old new cells vs none is kept e =
    let written : old ++ bytes_from size (length old) [] vs ≡ whole = rw none at kept.written in
    rw (e, is) written
