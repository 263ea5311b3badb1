-- Tokens that spell a value, wherever they stand.
use Rattle.std.proofs.Common.{◌≡◌, inl, inr, ℕ, List, [], ◌∷◌, ◌++◌, map, length, get_or, drop, Option, Some, None, refl, sym, ap, ◌∙◌, arith}
use Rattle.std.specs.List.{flat_map}
use Rattle.std.specs.Option.{option_map}
use Rattle.hw_text.specs.declared.place.Place.{Place}
use Rattle.hw_text.specs.declared.placed.Placed.{Placed}
use Rattle.hw_text.specs.Language.{One, ◌⋅◌, Maybe, Each, Made}
use Rattle.aadl_tree.specs.declared.token.Token.{Token}
use Rattle.aadl_tree.proofs.ValueInduction.{OfEach}
use Rattle.aadl_parse.specs.Choice.{Choice, First, Second}
use Rattle.aadl_parse.specs.SimpleValue.{Symbol, Either}
use Rattle.aadl_parse.specs.Shapes.{symbol_of}

abbrev pub tokens_of : List (Placed Token) → List Token
tokens_of ts = map (λ t. t.token) ts

-- these tokens spell, wherever they stand, a value that is this one once its places are put off
abbrev pub Spelled : {X : Type 0} → (X → List (Placed Token) → Type 0) → (X → X) → X → List Token → Type 0
Spelled {X} A bare z us = (ts : List (Placed Token)) → tokens_of ts ≡ us → (y : X) × A y ts × (bare y ≡ z)

abbrev pub at_place : Token → Place → Placed Token
at_place t at = record { token = t; place = at }

pub spelled-by : {X : Type 0} (A : X → List (Placed Token) → Type 0) (bare : X → X) (x z : X) (us vs : List Token) → us ≡ vs → x ≡ z → Spelled A bare x us → Spelled A bare z vs
spelled-by A bare x z us vs e is text = λ ts tokens.
    let found = text ts (tokens ∙ sym e) in
    (found.0, found.1, found.2 ∙ is)

no-tokens : (ts : List (Placed Token)) → tokens_of ts ≡ [] → ts ≡ []
no-tokens [] e = refl
no-tokens (t ∷ ts) e = absurd (omega (arith, ap length e))

split : (us vs : List Token) (ts : List (Placed Token)) → tokens_of ts ≡ us ++ vs → (ls rs : List (Placed Token)) × (ts ≡ ls ++ rs) × (tokens_of ls ≡ us) × (tokens_of rs ≡ vs)
split [] vs ts e = ([], ts, refl, refl, e)
split (u ∷ us) vs [] e = absurd (omega (arith, ap length e))
split (u ∷ us) vs (t ∷ ts) e =
    let head : t.token ≡ u = ap (λ (l : List Token). get_or l 0 u) e in
    let more = split us vs ts (ap (λ (l : List Token). drop 1 l) e) in (
      t ∷ more.0,
      more.1,
      ap (λ (l : List (Placed Token)). t ∷ l) more.2,
      ap (λ (x : Token). x ∷ tokens_of more.0) head ∙ ap (λ (l : List Token). u ∷ l) more.3,
      more.4,
    )

-- one after the other
pub then : {X Y : Type 0} (A : X → List (Placed Token) → Type 0) (B : Y → List (Placed Token) → Type 0) (f : X → X) (g : Y → Y) (x : X) (y : Y) (us vs : List Token) → Spelled A f x us → Spelled B g y vs → Spelled (A ⋅ B) (λ p. (f p.0, g p.1)) (x, y) (us ++ vs)
then {X} {Y} A B f g x y us vs a b = λ ts e.
    let parts = split us vs ts e in
    let p = a parts.0 parts.3 in
    let q = b parts.1 parts.4 in
    ((p.0, q.0), (parts.0, parts.1, parts.2, p.1, q.1), ap (λ (w : X). (w, g q.0)) p.2 ∙ ap (λ (w : Y). (x, w)) q.2)

pub made : {Y Z : Type 0} (build : Y → Z) (A : Y → List (Placed Token) → Type 0) (f : Y → Y) (g : Z → Z) (y : Y) (us : List Token) → ((x : Y) → g (build x) ≡ build (f x)) → Spelled A f y us → Spelled (Made build A) g (build y) us
made build A f g y us same a = λ ts e.
    let p = a ts e in
    (build p.0, (p.0, refl, p.1), same p.0 ∙ ap build p.2)

-- one token, which has the value at each place
pub one : {X : Type 0} (value : Placed Token → Option X) (f : X → X) (z : X) (t : Token) (x : Place → X) → ((at : Place) → value (at_place t at) ≡ Some (x at)) → ((at : Place) → f (x at) ≡ z) → Spelled (One value) f z (t ∷ [])
one {X} value f z t x is bare = λ ts e. alone ts e
  where
    alone : (ts : List (Placed Token)) → tokens_of ts ≡ t ∷ [] → (y : X) × One value y ts × (f y ≡ z)
    alone [] e = absurd (omega (arith, ap length e))
    alone (p ∷ q ∷ ts) e = absurd (omega (arith, ap length e))
    alone (p ∷ []) e =
        let token : p.token ≡ t = ap (λ (l : List Token). get_or l 0 t) e in
        (x p.place, (p, refl, ap (λ (k : Token). value (at_place k p.place)) token ∙ is p.place), bare p.place)

pub symbol : (text : List ℕ) (t : Token) → ((at : Place) → symbol_of text (at_place t at) ≡ Some tt) → Spelled (Symbol text) (λ u. u) tt (t ∷ [])
symbol text t is = one (symbol_of text) (λ u. u) tt t (λ at. tt) is (λ at. refl)

module _ {X : Type 0} (A : X → List (Placed Token) → Type 0) (f : X → X) where
  pub not-there : Spelled (Maybe A) (option_map f) None []
  not-there = λ ts e. (None, no-tokens ts e, refl)

  pub there : (x : X) (us : List Token) → Spelled A f x us → Spelled (Maybe A) (option_map f) (Some x) us
  there x us a = λ ts e.
      let p = a ts e in
      (Some p.0, p.1, ap (λ (y : X). Some y) p.2)

  module _ (tokens : X → List Token) where
    pub each-of : (xs : List X) → OfEach (λ x. Spelled A f (f x) (tokens x)) xs → Spelled (Each A) (map f) (map f xs) (flat_map tokens xs)
    each-of [] all = λ ts e. ([], no-tokens ts e, refl)
    each-of (x ∷ xs) all = λ ts e.
        let parts = split (tokens x) (flat_map tokens xs) ts e in
        let p = all.0 parts.0 parts.3 in
        let more = each-of xs all.1 parts.1 parts.4 in
        (p.0 ∷ more.0, (parts.0, parts.1, parts.2, p.1, more.1), ap (λ (y : X). y ∷ map f more.0) p.2 ∙ ap (λ (l : List X). f x ∷ l) more.2)

    of-each : ((x : X) → Spelled A f (f x) (tokens x)) → (xs : List X) → OfEach (λ x. Spelled A f (f x) (tokens x)) xs
    of-each all [] = tt
    of-each all (x ∷ xs) = (all x, of-each all xs)

    pub each : ((x : X) → Spelled A f (f x) (tokens x)) → (xs : List X) → Spelled (Each A) (map f) (map f xs) (flat_map tokens xs)
    each all xs = each-of xs (of-each all xs)

-- values without places
module _ {X : Type 0} (A : X → List (Placed Token) → Type 0) where
  pub not-there-plain : Spelled (Maybe A) (λ o. o) None []
  not-there-plain = λ ts e. (None, no-tokens ts e, refl)

  pub there-plain : (x : X) (us : List Token) → Spelled A (λ y. y) x us → Spelled (Maybe A) (λ o. o) (Some x) us
  there-plain x us a = λ ts e.
      let p = a ts e in
      (Some p.0, p.1, ap (λ (y : X). Some y) p.2)

  pub each-plain : (tokens : X → List Token) → ((x : X) → Spelled A (λ y. y) x (tokens x)) → (xs : List X) → Spelled (Each A) (λ l. l) xs (flat_map tokens xs)
  each-plain tokens all [] = λ ts e. ([], no-tokens ts e, refl)
  each-plain tokens all (x ∷ xs) = λ ts e.
      let parts = split (tokens x) (flat_map tokens xs) ts e in
      let p = all x parts.0 parts.3 in
      let more = each-plain tokens all xs parts.1 parts.4 in
      (p.0 ∷ more.0, (parts.0, parts.1, parts.2, p.1, more.1), ap (λ (y : X). y ∷ more.0) p.2 ∙ ap (λ (l : List X). x ∷ l) more.2)

abbrev pub either_bare : {X Y : Type 0} → (X → X) → (Y → Y) → Choice X Y → Choice X Y
either_bare f g (First x) = First (f x)
either_bare f g (Second y) = Second (g y)

-- the one or the other
module _ {X Y : Type 0} (A : X → List (Placed Token) → Type 0) (B : Y → List (Placed Token) → Type 0) (f : X → X) (g : Y → Y) where
  pub first : (x : X) (us : List Token) → Spelled A f x us → Spelled (Either A B) (either_bare f g) (First x) us
  first x us a = λ ts e.
      let p = a ts e in
      (First p.0, inl (p.0, refl, p.1), ap (λ (y : X). First y) p.2)

  pub second : (y : Y) (us : List Token) → Spelled B g y us → Spelled (Either A B) (either_bare f g) (Second y) us
  second y us b = λ ts e.
      let p = b ts e in
      (Second p.0, inr (p.0, refl, p.1), ap (λ (w : Y). Second w) p.2)
