-- Arithmetic of alignments: each is 1, 2, 4 or 8.
use Rattle.std.proofs.Common.{◌≡◌, ℕ, ◌+◌, ◌*◌, ◌%◌, ◌≤◌, ◌<◌, zero, suc, max, refl, sym, subst, inl, inr, arith}
use Rattle.hw_types.specs.declared.scalar.Scalar.{Scalar}
use Rattle.hw_types.specs.declared.scalar.Scalar.TheVariants as scalar
use Rattle.hw_types.specs.Scalar.{width_of}
use Rattle.hw_types.specs.Shape.{IsAlign}
use Rattle.hw_types.specs.Layout.{aligned_up}

pub by_align : (P : ℕ → Type 0) (a : ℕ) → IsAlign a → P 1 → P 2 → P 4 → P 8 → P a
by_align P a is one two four eight = elim is [
  | inl e ↦ subst P (sym e) one
  | inr more ↦ elim more [
    | inl e ↦ subst P (sym e) two
    | inr most ↦ elim most [ inl e ↦ subst P (sym e) four | inr e ↦ subst P (sym e) eight ]
  ]
]

pub IsAlign-1 : IsAlign 1
IsAlign-1 = inl refl

pub IsAlign-2 : IsAlign 2
IsAlign-2 = inr (inl refl)

pub IsAlign-4 : IsAlign 4
IsAlign-4 = inr (inr (inl refl))

pub IsAlign-8 : IsAlign 8
IsAlign-8 = inr (inr (inr refl))

pub IsAlign-width : (s : Scalar) → IsAlign (width_of s)
IsAlign-width scalar.U8 = IsAlign-1
IsAlign-width scalar.U16 = IsAlign-2
IsAlign-width scalar.U32 = IsAlign-4
IsAlign-width scalar.U64 = IsAlign-8
IsAlign-width scalar.I8 = IsAlign-1
IsAlign-width scalar.I16 = IsAlign-2
IsAlign-width scalar.I32 = IsAlign-4
IsAlign-width scalar.I64 = IsAlign-8
IsAlign-width scalar.Flag = IsAlign-1
IsAlign-width (scalar.Choice n) = IsAlign-4

pub aligned_up-ge : (n a : ℕ) → IsAlign a → n ≤ aligned_up n a
aligned_up-ge n a is = by_align (λ a. n ≤ aligned_up n a) a is (omega arith) (omega arith) (omega arith) (omega arith)

pub aligned_up-lt : (n a : ℕ) → IsAlign a → aligned_up n a < n + a
aligned_up-lt n a is = by_align (λ a. aligned_up n a < n + a) a is (omega arith) (omega arith) (omega arith) (omega arith)

pub aligned_up-mod : (n a : ℕ) → IsAlign a → aligned_up n a % a ≡ 0
aligned_up-mod n a is = by_align (λ a. aligned_up n a % a ≡ 0) a is (omega arith) (omega arith) (omega arith) (omega arith)

pub aligned_up-le : (n a c : ℕ) → IsAlign a → n ≤ 8 * c → aligned_up n a ≤ 8 * c
aligned_up-le n a c is h =
    by_align (λ a. aligned_up n a ≤ 8 * c) a is (omega arith) (omega arith) (omega arith) (omega arith)

pub IsAlign-max : (a b : ℕ) → IsAlign a → IsAlign b → IsAlign (max a b)
IsAlign-max a b is also =
    by_align (λ x. IsAlign (max x b)) a is
    (by_align (λ y. IsAlign (max 1 y)) b also IsAlign-1 IsAlign-2 IsAlign-4 IsAlign-8)
    (by_align (λ y. IsAlign (max 2 y)) b also IsAlign-2 IsAlign-2 IsAlign-4 IsAlign-8)
    (by_align (λ y. IsAlign (max 4 y)) b also IsAlign-4 IsAlign-4 IsAlign-4 IsAlign-8)
    (by_align (λ y. IsAlign (max 8 y)) b also IsAlign-8 IsAlign-8 IsAlign-8 IsAlign-8)

-- a greater alignment is a multiple of a lesser
Divided : ℕ → ℕ → Type 0
Divided a b = a ≤ b → b % a ≡ 0

divided_by : (a : ℕ) → Divided a 1 → Divided a 2 → Divided a 4 → Divided a 8 → (b : ℕ) → IsAlign b → a ≤ b → b % a ≡ 0
unfolding Divided
divided_by a one two four eight b is = by_align (λ b. a ≤ b → b % a ≡ 0) b is one two four eight

pub greater-mod : (a b : ℕ) → IsAlign a → IsAlign b → a ≤ b → b % a ≡ 0
unfolding Divided
greater-mod a b is also =
    by_align (λ a. (b : ℕ) → IsAlign b → a ≤ b → b % a ≡ 0) a is
    (divided_by 1 (λ h. refl) (λ h. refl) (λ h. refl) (λ h. refl))
    (divided_by 2 (λ h. omega arith) (λ h. refl) (λ h. refl) (λ h. refl))
    (divided_by 4 (λ h. omega arith) (λ h. omega arith) (λ h. refl) (λ h. refl))
    (divided_by 8 (λ h. omega arith) (λ h. omega arith) (λ h. omega arith) (λ h. refl))
    b also

-- what lies at a multiple of w behind a multiple of a multiple of w
pub shifted-mod : (k a w x : ℕ) → IsAlign a → IsAlign w → k % a ≡ 0 → a % w ≡ 0 → x % w ≡ 0 → (k + x) % w ≡ 0
shifted-mod k a w x is also =
    by_align (λ w. k % a ≡ 0 → a % w ≡ 0 → x % w ≡ 0 → (k + x) % w ≡ 0) w also
    (λ p q r. omega arith)
    (by_align (λ a. k % a ≡ 0 → a % 2 ≡ 0 → x % 2 ≡ 0 → (k + x) % 2 ≡ 0) a is
    (λ p q r. omega arith) (λ p q r. omega arith) (λ p q r. omega arith) (λ p q r. omega arith))
    (by_align (λ a. k % a ≡ 0 → a % 4 ≡ 0 → x % 4 ≡ 0 → (k + x) % 4 ≡ 0) a is
    (λ p q r. omega arith) (λ p q r. omega arith) (λ p q r. omega arith) (λ p q r. omega arith))
    (by_align (λ a. k % a ≡ 0 → a % 8 ≡ 0 → x % 8 ≡ 0 → (k + x) % 8 ≡ 0) a is
    (λ p q r. omega arith) (λ p q r. omega arith) (λ p q r. omega arith) (λ p q r. omega arith))

pub same-mod : (a : ℕ) → IsAlign a → a % a ≡ 0
same-mod a is = by_align (λ a. a % a ≡ 0) a is refl refl refl refl

pub zero-mod : (a : ℕ) → IsAlign a → 0 % a ≡ 0
zero-mod a is = by_align (λ a. 0 % a ≡ 0) a is refl refl refl refl

pub mod-mod : (k a w : ℕ) → IsAlign a → IsAlign w → k % a ≡ 0 → a % w ≡ 0 → k % w ≡ 0
mod-mod k a w is also p q =
    let e : k + 0 ≡ k = omega arith in
    subst (λ n. n % w ≡ 0) e (shifted-mod k a w 0 is also p q (zero-mod w also))

pub sum-mod : (a k x : ℕ) → IsAlign a → k % a ≡ 0 → x % a ≡ 0 → (k + x) % a ≡ 0
sum-mod a k x is p q = shifted-mod k a a x is is p (same-mod a is) q

pub times-mod : (a t x : ℕ) → IsAlign a → x % a ≡ 0 → (t * x) % a ≡ 0
times-mod a zero x is p = by_align (λ a. (0 * x) % a ≡ 0) a is (omega arith) (omega arith) (omega arith) (omega arith)
times-mod a (suc t) x is p =
    let e : suc t * x ≡ t * x + x = omega arith in
    subst (λ n. n % a ≡ 0) (sym e) (sum-mod a (t * x) x is (times-mod a t x is p) p)
