-- Tokens that spell a value, wherever they stand.
use Rattle.std.proofs.Common.{◌≡◌, List, [], ◌∷◌, ◌++◌, map, length, get_or, drop, Option, Some, None, refl, sym, ap, ◌∙◌, arith}
use Rattle.std.specs.List.{flat_map}
use Rattle.std.specs.Option.{option_map}
use Rattle.hw_text.specs.declared.place.Place.{Place}
use Rattle.hw_text.specs.declared.placed.Placed.{Placed}
use Rattle.hw_text.specs.Language.{One, ◌⋅◌, Maybe, Each, Made}
use Rattle.gumbo_parse.specs.declared.token.Token.{Token}
use Rattle.gumbo_parse.specs.Values.{Tokens}

abbrev pub tokens_of : Tokens → List Token
tokens_of ts = map (λ t. t.token) ts

-- these tokens spell, wherever they stand, a value that is this one once its places are put off
pub record Spelled {X : Type 0} (A : X → Tokens → Type 0) (bare : X → X) (z : X) (us : List Token) : Type 0 where
  pub read : (ts : Tokens) → tokens_of ts ≡ us → (y : X) × A y ts × (bare y ≡ z)

abbrev pub at_place : Token → Place → Placed Token
at_place t at = record { token = t; place = at }

pub no-tokens : (ts : Tokens) → tokens_of ts ≡ [] → ts ≡ []
no-tokens [] e = refl
no-tokens (t ∷ ts) e = absurd (omega (arith, ap length e))

pub split : (us vs : List Token) (ts : Tokens) → tokens_of ts ≡ us ++ vs → (ls rs : Tokens) × (ts ≡ ls ++ rs) × (tokens_of ls ≡ us) × (tokens_of rs ≡ vs)
split [] vs ts e = ([], ts, refl, refl, e)
split (u ∷ us) vs [] e = absurd (omega (arith, ap length e))
split (u ∷ us) vs (t ∷ ts) e =
    let head : t.token ≡ u = ap (λ (l : List Token). get_or l 0 u) e in
    let more = split us vs ts (ap (λ (l : List Token). drop 1 l) e) in (
      t ∷ more.0,
      more.1,
      ap (λ (l : Tokens). t ∷ l) more.2,
      ap (λ (x : Token). x ∷ tokens_of more.0) head ∙ ap (λ (l : List Token). u ∷ l) more.3,
      more.4,
    )

-- one token, which has the value at each place
pub one : {X : Type 0} (value : Placed Token → Option X) (f : X → X) (z : X) (t : Token) (x : Place → X) → ((at : Place) → value (at_place t at) ≡ Some (x at)) → ((at : Place) → f (x at) ≡ z) → Spelled (One value) f z (t ∷ [])
one {X} value f z t x is bare = record { read = λ ts e. alone ts e }
  where
    alone : (ts : Tokens) → tokens_of ts ≡ t ∷ [] → (y : X) × One value y ts × (f y ≡ z)
    alone [] e = absurd (omega (arith, ap length e))
    alone (p ∷ q ∷ ts) e = absurd (omega (arith, ap length e))
    alone (p ∷ []) e =
        let token : p.token ≡ t = ap (λ (l : List Token). get_or l 0 t) e in
        (x p.place, (p, refl, ap (λ (k : Token). value (at_place k p.place)) token ∙ is p.place), bare p.place)

module _ {X : Type 0} {A : X → Tokens → Type 0} {f : X → X} {z : X} {us : List Token} where
  -- the same value and tokens, told in another way
  pub told_as : {x : X} {vs : List Token} → us ≡ vs → z ≡ x → Spelled A f z us → Spelled A f x vs
  told_as e is a = record {
    read = λ ts tokens.
        let p = a.read ts (tokens ∙ sym e) in
        (p.0, p.1, p.2 ∙ is);
  }

  -- a text of another language, as each of this one is
  pub onto : (B : X → Tokens → Type 0) → ((y : X) (ts : Tokens) → A y ts → B y ts) → Spelled A f z us → Spelled B f z us
  onto B to a = record {
    read = λ ts e.
        let p = a.read ts e in
        (p.0, to p.0 ts p.1, p.2);
  }

  pub made : {Z : Type 0} (build : X → Z) (g : Z → Z) → ((x : X) → g (build x) ≡ build (f x)) → Spelled A f z us → Spelled (Made build A) g (build z) us
  made build g same a = record {
    read = λ ts e.
        let p = a.read ts e in
        (build p.0, (p.0, refl, p.1), same p.0 ∙ ap build p.2);
  }

  pub there : Spelled A f z us → Spelled (Maybe A) (option_map f) (Some z) us
  there a = record {
    read = λ ts e.
        let p = a.read ts e in
        (Some p.0, p.1, ap (λ (y : X). Some y) p.2);
  }

  -- one after the other
  pub then : {Y : Type 0} {B : Y → Tokens → Type 0} {g : Y → Y} {y : Y} {vs : List Token} → Spelled A f z us → Spelled B g y vs → Spelled (A ⋅ B) (λ p. (f p.0, g p.1)) (z, y) (us ++ vs)
  then {Y} {B} {g} {y} {vs} a b = record {
    read = λ ts e.
        let parts = split us vs ts e in
        let p = a.read parts.0 parts.3 in
        let q = b.read parts.1 parts.4 in
        ((p.0, q.0), (parts.0, parts.1, parts.2, p.1, q.1), ap (λ (w : X). (w, g q.0)) p.2 ∙ ap (λ (w : Y). (z, w)) q.2);
  }

module _ {X : Type 0} (A : X → Tokens → Type 0) (f : X → X) where
  pub not-there : Spelled (Maybe A) (option_map f) None []
  not-there = record { read = λ ts e. (None, no-tokens ts e, refl) }

  -- members, of which each is spelled
  pub each : (tokens : X → List Token) → ((x : X) → Spelled A f (f x) (tokens x)) → (xs : List X) → Spelled (Each A) (map f) (map f xs) (flat_map tokens xs)
  each tokens all [] = record { read = λ ts e. ([], no-tokens ts e, refl) }
  each tokens all (x ∷ xs) = record {
    read = λ ts e.
        let parts = split (tokens x) (flat_map tokens xs) ts e in
        let p = (all x).read parts.0 parts.3 in
        let more = (each tokens all xs).read parts.1 parts.4 in
        (p.0 ∷ more.0, (parts.0, parts.1, parts.2, p.1, more.1), ap (λ (y : X). y ∷ map f more.0) p.2 ∙ ap (λ (l : List X). f x ∷ l) more.2);
  }

-- values without places
module _ {X : Type 0} (A : X → Tokens → Type 0) where
  pub not-there-plain : Spelled (Maybe A) (λ o. o) None []
  not-there-plain = record { read = λ ts e. (None, no-tokens ts e, refl) }

  pub there-plain : {x : X} {us : List Token} → Spelled A (λ y. y) x us → Spelled (Maybe A) (λ o. o) (Some x) us
  there-plain a = record {
    read = λ ts e.
        let p = a.read ts e in
        (Some p.0, p.1, ap (λ (y : X). Some y) p.2);
  }

  pub each-plain : (tokens : X → List Token) → ((x : X) → Spelled A (λ y. y) x (tokens x)) → (xs : List X) → Spelled (Each A) (λ l. l) xs (flat_map tokens xs)
  each-plain tokens all [] = record { read = λ ts e. ([], no-tokens ts e, refl) }
  each-plain tokens all (x ∷ xs) = record {
    read = λ ts e.
        let parts = split (tokens x) (flat_map tokens xs) ts e in
        let p = (all x).read parts.0 parts.3 in
        let more = (each-plain tokens all xs).read parts.1 parts.4 in
        (p.0 ∷ more.0, (parts.0, parts.1, parts.2, p.1, more.1), ap (λ (y : X). y ∷ more.0) p.2 ∙ ap (λ (l : List X). x ∷ l) more.2);
  }
