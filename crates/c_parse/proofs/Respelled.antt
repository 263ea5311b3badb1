-- Tokens that spell a value, wherever they stand.
use Rattle.std.proofs.Common.{◌≡◌, Bool, List, [], ◌∷◌, ◌++◌, map, length, get_or, drop, Option, Some, None, inl, inr, refl, ap, ◌∙◌, subst, arith, IsTrue}
use Rattle.std.proofs.lemmas.Bool.{and_parts}
use Rattle.std.specs.Prelude.{IsTrue}
use Rattle.std.specs.List.{flat_map, list_all}
use Rattle.std.specs.Option.{option_map}
use Rattle.hw_text.specs.declared.place.Place.{Place}
use Rattle.hw_text.specs.declared.placed.Placed.{Placed}
use Rattle.hw_text.specs.Language.{One, ◌⋅◌, Maybe, Each, Made, ◌∣◌}
use Rattle.c_tree.specs.declared.dialect.Dialect.{Dialect}
use Rattle.c_tree.specs.Dialects.{is_full}
use Rattle.c_parse.specs.ExpressionGrammar.{InFull}
use Rattle.c_parse.specs.Values.{Tokens}
use Rattle.c_parse.specs.declared.token.Token.{Token}
use Rattle.c_tree.proofs.ExpressionInduction.{OfEach}

abbrev pub tokens_of : Tokens → List Token
tokens_of ts = map (λ t. t.token) ts

-- these tokens spell, wherever they stand, a value that is this one once its places are put off
pub record Respells {X : Type 0} (A : X → Tokens → Type 0) (bare : X → X) (z : X) (us : List Token) : Type 0 where
  pub found : (ts : Tokens) → tokens_of ts ≡ us → (y : X) × A y ts × (bare y ≡ z)

abbrev pub at_place : Token → Place → Placed Token
at_place t at = record { token = t; place = at }

abbrev pub both_bare : {X Y : Type 0} → (X → X) → (Y → Y) → X × Y → X × Y
both_bare f g p = (f p.0, g p.1)

pub respelled-as : {X : Type 0} {A : X → Tokens → Type 0} {f : X → X} {x z : X} {us vs : List Token} → us ≡ vs → x ≡ z → Respells A f x us → Respells A f z vs
respelled-as {X} {A} {f} {x} {z} {us} {vs} e is text = subst (λ (l : List Token). Respells A f z l) e (subst (λ (w : X). Respells A f w us) is text)

pub no-tokens : (ts : Tokens) → tokens_of ts ≡ [] → ts ≡ []
no-tokens [] e = refl
no-tokens (t ∷ ts) e = absurd (omega (arith, ap length e))

pub split : (us vs : List Token) (ts : Tokens) → tokens_of ts ≡ us ++ vs → (ls rs : Tokens) × (ts ≡ ls ++ rs) × (tokens_of ls ≡ us) × (tokens_of rs ≡ vs)
split [] vs ts e = ([], ts, refl, refl, e)
split (u ∷ us) vs [] e = absurd (omega (arith, ap length e))
split (u ∷ us) vs (t ∷ ts) e =
    let head : t.token ≡ u = ap (λ (l : List Token). get_or l 0 u) e in
    let more = split us vs ts (ap (λ (l : List Token). drop 1 l) e) in (
      t ∷ more.0,
      more.1,
      ap (λ (l : Tokens). t ∷ l) more.2,
      ap (λ (x : Token). x ∷ tokens_of more.0) head ∙ ap (λ (l : List Token). u ∷ l) more.3,
      more.4,
    )

-- one after the other
pub after : {X Y : Type 0} {A : X → Tokens → Type 0} {B : Y → Tokens → Type 0} {f : X → X} {g : Y → Y} {x : X} {y : Y} {us vs : List Token} → Respells A f x us → Respells B g y vs → Respells (A ⋅ B) (both_bare f g) (x, y) (us ++ vs)
after {X} {Y} {A} {B} {f} {g} {x} {y} {us} {vs} a b = record {
  found = λ ts e.
      let parts = split us vs ts e in
      let p = a.found parts.0 parts.3 in
      let q = b.found parts.1 parts.4 in
      ((p.0, q.0), (parts.0, parts.1, parts.2, p.1, q.1), ap (λ (w : X). (w, g q.0)) p.2 ∙ ap (λ (w : Y). (x, w)) q.2);
}

-- a text of one language that makes one of another
pub turned : {X Y : Type 0} {A : Y → Tokens → Type 0} {B : X → Tokens → Type 0} {f : Y → Y} {g : X → X} {z : Y} {w : X} {us : List Token} → (build : Y → X) → ((y : Y) (ts : Tokens) → A y ts → B (build y) ts) → ((y : Y) → f y ≡ z → g (build y) ≡ w) → Respells A f z us → Respells B g w us
turned build makes same a = record {
  found = λ ts e.
      let p = a.found ts e in
      (build p.0, makes p.0 ts p.1, same p.0 p.2);
}

-- a value that is built of another one
pub built : {Y Z : Type 0} {A : Y → Tokens → Type 0} {f : Y → Y} {g : Z → Z} {y : Y} {w : Z} {us : List Token} → (build : Y → Z) → Respells A f y us → ((x : Y) → g (build x) ≡ build (f x)) → build y ≡ w → Respells (Made build A) g w us
built build a same is = record {
  found = λ ts e.
      let p = a.found ts e in
      (build p.0, (p.0, refl, p.1), same p.0 ∙ ap build p.2 ∙ is);
}

module _ {Z : Type 0} {A B : Z → Tokens → Type 0} {g : Z → Z} {w : Z} {us : List Token} where
  pub one-way : Respells A g w us → Respells (A ∣ B) g w us
  one-way a = record {
    found = λ ts e.
        let p = a.found ts e in
        (p.0, inl p.1, p.2);
  }

  pub other-way : Respells B g w us → Respells (A ∣ B) g w us
  other-way b = record {
    found = λ ts e.
        let p = b.found ts e in
        (p.0, inr p.1, p.2);
  }

pub in-full : {Z : Type 0} {A : Z → Tokens → Type 0} {g : Z → Z} {w : Z} {us : List Token} → (dialect : Dialect) → IsTrue (is_full dialect) → Respells A g w us → Respells (InFull dialect A) g w us
in-full dialect is a = record {
  found = λ ts e.
      let p = a.found ts e in
      (p.0, (is, p.1), p.2);
}

-- one token, which has the value at each place
pub one : {X : Type 0} {f : X → X} {z : X} (value : Placed Token → Option X) (t : Token) (x : Place → X) → ((at : Place) → value (at_place t at) ≡ Some (x at)) → ((at : Place) → f (x at) ≡ z) → Respells (One value) f z (t ∷ [])
one {X} {f} {z} value t x is bare = record { found = λ ts e. alone ts e }
  where
    alone : (ts : Tokens) → tokens_of ts ≡ t ∷ [] → (y : X) × One value y ts × (f y ≡ z)
    alone [] e = absurd (omega (arith, ap length e))
    alone (p ∷ q ∷ ts) e = absurd (omega (arith, ap length e))
    alone (p ∷ []) e =
        let token : p.token ≡ t = ap (λ (l : List Token). get_or l 0 t) e in
        (x p.place, (p, refl, ap (λ (k : Token). value (at_place k p.place)) token ∙ is p.place), bare p.place)

module _ {X : Type 0} {A : X → Tokens → Type 0} {f : X → X} where
  pub not-there : Respells (Maybe A) (option_map f) None []
  not-there = record { found = λ ts e. (None, no-tokens ts e, refl) }

  pub there : {z : X} {us : List Token} → Respells A f z us → Respells (Maybe A) (option_map f) (Some z) us
  there {z} a = record {
    found = λ ts e.
        let p = a.found ts e in
        (Some p.0, p.1, ap (λ (y : X). Some y) p.2);
  }

  module _ (tokens : X → List Token) where
    each-found : (xs : List X) → OfEach (λ x. Respells A f (f x) (tokens x)) xs → (ts : Tokens) → tokens_of ts ≡ flat_map tokens xs → (ys : List X) × Each A ys ts × (map f ys ≡ map f xs)
    each-found [] all ts e = ([], no-tokens ts e, refl)
    each-found (x ∷ xs) all ts e =
        let parts = split (tokens x) (flat_map tokens xs) ts e in
        let p = all.0.found parts.0 parts.3 in
        let more = each-found xs all.1 parts.1 parts.4 in
        (p.0 ∷ more.0, (parts.0, parts.1, parts.2, p.1, more.1), ap (λ (y : X). y ∷ map f more.0) p.2 ∙ ap (λ (l : List X). f x ∷ l) more.2)

    pub each-of : (xs : List X) → OfEach (λ x. Respells A f (f x) (tokens x)) xs → Respells (Each A) (map f) (map f xs) (flat_map tokens xs)
    each-of xs all = record { found = λ ts e. each-found xs all ts e }

    of-each : ((x : X) → Respells A f (f x) (tokens x)) → (xs : List X) → OfEach (λ x. Respells A f (f x) (tokens x)) xs
    of-each all [] = tt
    of-each all (x ∷ xs) = (all x, of-each all xs)

    pub each : ((x : X) → Respells A f (f x) (tokens x)) → (xs : List X) → Respells (Each A) (map f) (map f xs) (flat_map tokens xs)
    each all xs = each-of xs (of-each all xs)

-- where a test holds of all members, it holds of each
pub all-parts : {X : Type 0} (test : X → Bool) (xs : List X) → IsTrue (list_all test xs) → OfEach (λ x. IsTrue (test x)) xs
all-parts test [] h = tt
all-parts test (x ∷ xs) h =
    let both = and_parts (test x) (list_all test xs) h in
    (both.0, all-parts test xs both.1)
