-- What holds of each member of a list and of each two, by recursion on the list.
use Rattle.std.proofs.Common.{◌≡◌, zero, suc, Bool, false, List, [], ◌∷◌, ◌++◌, map, Option, Some, None, refl, arith, All}
use Rattle.std.specs.Prelude.{AllPairs}
use Rattle.std.specs.List.{AllByRecursion, cons_option, filter_map, list_any}
use Rattle.std.proofs.lemmas.List.Elements.{All-from_recursion, recursion_from_All}
use Rattle.std.proofs.lemmas.Bool.{or_parts, or_from}

abbrev pub Each : {X : Type 0} → (X → Type 0) → List X → Type 0
Each P xs = AllByRecursion P xs

abbrev pub Pairs : {X : Type 0} → (X → X → Type 0) → List X → Type 0
Pairs R [] = Unit {0}
Pairs R (x ∷ xs) = Each (R x) xs × Pairs R xs

module _ {X : Type 0} (P : X → Type 0) where
  pub each-all : (xs : List X) → Each P xs → All P xs
  each-all xs e = All-from_recursion P xs e

  pub each-from_all : (xs : List X) → All P xs → Each P xs
  each-from_all xs a = recursion_from_All P xs a

  pub each-append : (xs ys : List X) → Each P xs → Each P ys → Each P (xs ++ ys)
  each-append [] ys e f = f
  each-append (x ∷ xs) ys e f = (e.0, each-append xs ys e.1 f)

  pub each-left : (xs ys : List X) → Each P (xs ++ ys) → Each P xs
  each-left [] ys e = tt
  each-left (x ∷ xs) ys e = (e.0, each-left xs ys e.1)

  pub each-always : ((x : X) → P x) → (xs : List X) → Each P xs
  each-always f [] = tt
  each-always f (x ∷ xs) = (f x, each-always f xs)

  pub each-weaker : (Q : X → Type 0) → ((x : X) → P x → Q x) → (xs : List X) → Each P xs → Each Q xs
  each-weaker Q f [] e = tt
  each-weaker Q f (x ∷ xs) e = (f x e.0, each-weaker Q f xs e.1)

  pub each-both : (Q S : X → Type 0) → ((x : X) → P x → Q x → S x) → (xs : List X) → Each P xs → Each Q xs → Each S xs
  each-both Q S f [] e g = tt
  each-both Q S f (x ∷ xs) e g = (f x e.0 g.0, each-both Q S f xs e.1 g.1)

  pub each-map : {Y : Type 0} (f : Y → X) (ys : List Y) → Each (λ y. P (f y)) ys → Each P (map f ys)
  each-map f [] e = tt
  each-map f (y ∷ ys) e = (e.0, each-map f ys e.1)

  pub each-unmap : {Y : Type 0} (f : Y → X) (ys : List Y) → Each P (map f ys) → Each (λ y. P (f y)) ys
  each-unmap f [] e = tt
  each-unmap f (y ∷ ys) e = (e.0, each-unmap f ys e.1)

  each-cons_option : (o : Option X) (xs : List X) → ((x : X) → o ≡ Some x → P x) → Each P xs → Each P (cons_option o xs)
  each-cons_option None xs f e = e
  each-cons_option (Some x) xs f e = (f x refl, e)

  pub each-filter_map : {Y : Type 0} (h : Y → Option X) → ((y : Y) (x : X) → h y ≡ Some x → P x) → (ys : List Y) → Each P (filter_map h ys)
  each-filter_map h f [] = tt
  each-filter_map h f (y ∷ ys) = each-cons_option (h y) (filter_map h ys) (f y) (each-filter_map h f ys)

module _ {X : Type 0} (R : X → X → Type 0) where
  pub pairs-all : (xs : List X) → Pairs R xs → AllPairs R xs
  pairs-all [] p i j d before within = absurd (omega arith)
  pairs-all (x ∷ xs) p zero zero d before within = absurd (omega arith)
  pairs-all (x ∷ xs) p zero (suc j) d before within = All-from_recursion (R x) xs p.0 j d (omega arith)
  pairs-all (x ∷ xs) p (suc i) zero d before within = absurd (omega arith)
  pairs-all (x ∷ xs) p (suc i) (suc j) d before within = pairs-all xs p.1 i j d (omega arith) (omega arith)

  pub pairs-from_all : (xs : List X) → AllPairs R xs → Pairs R xs
  pairs-from_all [] a = tt
  pairs-from_all (x ∷ xs) a =
      (recursion_from_All (R x) xs (λ k d within. a 0 (suc k) d (omega arith) (omega arith)), pairs-from_all xs (λ i j d before within. a (suc i) (suc j) d (omega arith) (omega arith)))

  pub pairs-append : (xs ys : List X) → Pairs R xs → Pairs R ys → Each (λ x. Each (R x) ys) xs → Pairs R (xs ++ ys)
  pairs-append [] ys p q c = q
  pairs-append (x ∷ xs) ys p q c = (each-append (R x) xs ys p.0 c.0, pairs-append xs ys p.1 q c.1)

  pub pairs-left : (xs ys : List X) → Pairs R (xs ++ ys) → Pairs R xs
  pairs-left [] ys p = tt
  pairs-left (x ∷ xs) ys p = (each-left (R x) xs ys p.0, pairs-left xs ys p.1)

  pub pairs-always : ((x y : X) → R x y) → (xs : List X) → Pairs R xs
  pairs-always f [] = tt
  pairs-always f (x ∷ xs) = (each-always (R x) (f x) xs, pairs-always f xs)

  pub pairs-weaker : (S : X → X → Type 0) → ((x y : X) → R x y → S x y) → (xs : List X) → Pairs R xs → Pairs S xs
  pairs-weaker S f [] p = tt
  pairs-weaker S f (x ∷ xs) p = (each-weaker (R x) (S x) (f x) xs p.0, pairs-weaker S f xs p.1)

  pub pairs-map : {Y : Type 0} (f : Y → X) (ys : List Y) → Pairs (λ y z. R (f y) (f z)) ys → Pairs R (map f ys)
  pairs-map f [] p = tt
  pairs-map f (y ∷ ys) p = (each-map (R (f y)) f ys p.0, pairs-map f ys p.1)

  pub pairs-unmap : {Y : Type 0} (f : Y → X) (ys : List Y) → Pairs R (map f ys) → Pairs (λ y z. R (f y) (f z)) ys
  pairs-unmap f [] p = tt
  pairs-unmap f (y ∷ ys) p = (each-unmap (R (f y)) f ys p.0, pairs-unmap f ys p.1)

module _ {X : Type 0} (test : X → Bool) where
  pub any-none : (xs : List X) → list_any test xs ≡ false → Each (λ x. test x ≡ false) xs
  any-none [] e = tt
  any-none (x ∷ xs) e =
      let parts = or_parts (test x) (list_any test xs) e in
      (parts.0, any-none xs parts.1)

  pub none-any : (xs : List X) → Each (λ x. test x ≡ false) xs → list_any test xs ≡ false
  none-any [] e = refl
  none-any (x ∷ xs) e = or_from (test x) (list_any test xs) e.0 (none-any xs e.1)
