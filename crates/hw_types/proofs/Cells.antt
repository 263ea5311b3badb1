-- Lists of scalars that lie in order.
use Rattle.std.proofs.Common.{◌≡◌, ℕ, ◌+◌, ◌%◌, ◌≤◌, ◌<◌, zero, suc, List, [], ◌∷◌, ◌++◌, length, get_or, subst, arith}
use Rattle.hw_types.specs.declared.field_cell.FieldCell.{FieldCell}
use Rattle.hw_types.specs.Scalar.{width_of}
use Rattle.hw_types.specs.Shape.{IsAlign, LieBetween, AreNatural}
use Rattle.hw_types.specs.Layout.{shifted}
use Rattle.hw_types.proofs.Alignments.{IsAlign-width, shifted-mod, mod-mod}

pub LieBetween-le : (s e : ℕ) (cells : List FieldCell) → LieBetween s e cells → s ≤ e
LieBetween-le s e [] lie = lie
LieBetween-le s e (c ∷ cs) lie = omega (arith, lie.0, LieBetween-le (c.offset + width_of c.scalar) e cs lie.1)

pub LieBetween-earlier : (r s e : ℕ) (cells : List FieldCell) → r ≤ s → LieBetween s e cells → LieBetween r e cells
LieBetween-earlier r s e [] h lie = omega (arith, lie)
LieBetween-earlier r s e (c ∷ cs) h lie = (omega (arith, lie.0), lie.1)

pub LieBetween-later : (s e f : ℕ) (cells : List FieldCell) → e ≤ f → LieBetween s e cells → LieBetween s f cells
LieBetween-later s e f [] h lie = omega (arith, lie)
LieBetween-later s e f (c ∷ cs) h lie = (lie.0, LieBetween-later (c.offset + width_of c.scalar) e f cs h lie.1)

pub LieBetween-append : (s e f : ℕ) (xs ys : List FieldCell) → LieBetween s e xs → LieBetween e f ys → LieBetween s f (xs ++ ys)
LieBetween-append s e f [] ys lie also = LieBetween-earlier s e f ys lie also
LieBetween-append s e f (x ∷ xs) ys lie also = (lie.0, LieBetween-append (x.offset + width_of x.scalar) e f xs ys lie.1 also)

pub LieBetween-shifted : (k s e : ℕ) (cells : List FieldCell) → LieBetween s e cells → LieBetween (k + s) (k + e) (shifted k cells)
LieBetween-shifted k s e [] lie = omega (arith, lie)
LieBetween-shifted k s e (c ∷ cs) lie =
    let more : LieBetween (k + (c.offset + width_of c.scalar)) (k + e) (shifted k cs) =
    LieBetween-shifted k (c.offset + width_of c.scalar) e cs lie.1 in
    let same : k + (c.offset + width_of c.scalar) ≡ k + c.offset + width_of c.scalar = omega arith in
    (omega (arith, lie.0), subst (λ n. LieBetween n (k + e) (shifted k cs)) same more)

pub LieBetween-within : (s e : ℕ) (cells : List FieldCell) (i : ℕ) (d : FieldCell) →
    LieBetween s e cells → i < length cells → (get_or cells i d).offset + width_of (get_or cells i d).scalar ≤ e
LieBetween-within s e [] i d lie h = absurd (omega (arith, h))
LieBetween-within s e (c ∷ cs) zero d lie h = LieBetween-le (c.offset + width_of c.scalar) e cs lie.1
LieBetween-within s e (c ∷ cs) (suc i) d lie h =
    let less : i < length cs = omega (arith, h) in
    LieBetween-within (c.offset + width_of c.scalar) e cs i d lie.1 less

pub AreNatural-append : (a : ℕ) (xs ys : List FieldCell) → AreNatural a xs → AreNatural a ys → AreNatural a (xs ++ ys)
AreNatural-append a [] ys are also = also
AreNatural-append a (x ∷ xs) ys are also = (are.0, AreNatural-append a xs ys are.1 also)

pub AreNatural-shifted : (k a b : ℕ) (cells : List FieldCell) → IsAlign a → k % a ≡ 0 → b % a ≡ 0 → AreNatural a cells → AreNatural b (shifted k cells)
AreNatural-shifted k a b [] is p q are = tt
AreNatural-shifted k a b (c ∷ cs) is p q are = (
  record {
    place = shifted-mod k a (width_of c.scalar) c.offset is (IsAlign-width c.scalar) p are.0.whole are.0.place;
    whole = mod-mod b a (width_of c.scalar) is (IsAlign-width c.scalar) q are.0.whole;
  },
  AreNatural-shifted k a b cs is p q are.1,
)
