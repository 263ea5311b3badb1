-- What holds of parts of a grammar that are made of others.
use Rattle.std.proofs.Common.{◌≡◌, ◌∙◌, refl, sym, ap, ℕ, List, [], ◌∷◌, ◌++◌, Bool, true, false, ◌&&◌, ◌||◌, not, inl, inr, Option, Some, None, append_assoc}
use Rattle.std.specs.Prelude.{⊤, is_some}
use Rattle.std.specs.List.{list_any}
use Rattle.std.specs.Str.{bytes_eq}
use Rattle.std.proofs.lemmas.Slice.Eq.{bytes_eq-Decides}
use Rattle.std.proofs.lemmas.Bool.{false≢true}
use Rattle.hw_text.specs.Language.{One, ◌⋅◌, Maybe, Each, Made, ◌∣◌}
use Rattle.hw_text.specs.Reading.{begins, Begins}
use Rattle.hw_text.proofs.Reading.{maybe-begins, each-begins}
use Rattle.hw_text.specs.declared.placed.Placed.{Placed}
use Rattle.aadl_tree.specs.declared.token.Token.{Token}
use Rattle.aadl_parse.specs.Shapes.{shape, one_of, Without, is_disjoint, found, symbol_of}

any-append : {X : Type 0} (p : X → Bool) (xs ys : List X) → list_any p (xs ++ ys) ≡ (list_any p xs || list_any p ys)
any-append p [] ys = refl
any-append p (x ∷ xs) ys = either (p x) (list_any p (xs ++ ys)) (list_any p xs) (list_any p ys) (any-append p xs ys)
  where
    either : (b l m n : Bool) → l ≡ (m || n) → (b || l) ≡ ((b || m) || n)
    either true l m n e = refl
    either false l m n e = e

pub one_of-append : (xs ys : List (List ℕ)) (t : Placed Token) → one_of (xs ++ ys) t ≡ (one_of xs t || one_of ys t)
one_of-append xs ys t = any-append (bytes_eq (shape t.token)) xs ys

disjoint-step : (xs : List (List ℕ)) (y : List ℕ) (ys : List (List ℕ)) (t : Placed Token) (b c : Bool) → bytes_eq (shape t.token) y ≡ b → list_any (bytes_eq y) xs ≡ c → (not c && is_disjoint xs ys) ≡ true → one_of xs t ≡ true → (is_disjoint xs ys ≡ true → one_of ys t ≡ false) → (b || one_of ys t) ≡ false
disjoint-step xs y ys t false true e f apart is rest = absurd (false≢true apart)
disjoint-step xs y ys t false false e f apart is rest = rest apart
disjoint-step xs y ys t true true e f apart is rest = absurd (false≢true apart)
disjoint-step xs y ys t true false e f apart is rest =
    let same : shape t.token ≡ y = (bytes_eq-Decides (shape t.token) y).0 e in
    absurd (false≢true (sym f ∙ ap (λ (s : List ℕ). list_any (bytes_eq s) xs) (sym same) ∙ is))

-- a token has no shape of the one list where it has one of the other
pub disjoint-one_of : (xs ys : List (List ℕ)) (t : Placed Token) → is_disjoint xs ys ≡ true → one_of xs t ≡ true → one_of ys t ≡ false
disjoint-one_of xs [] t apart is = refl
disjoint-one_of xs (y ∷ ys) t apart is =
    disjoint-step xs y ys t (bytes_eq (shape t.token) y) (list_any (bytes_eq y) xs) refl refl apart is (λ a. disjoint-one_of xs ys t a is)

pub disjoint-begins : (xs ys : List (List ℕ)) (l : List (Placed Token)) → is_disjoint xs ys ≡ true → begins (one_of xs) l ≡ true → begins (one_of ys) l ≡ false
disjoint-begins xs ys [] apart is = refl
disjoint-begins xs ys (t ∷ l) apart is = disjoint-one_of xs ys t apart is

pub begins-append : (xs ys : List (List ℕ)) (l : List (Placed Token)) → begins (one_of (xs ++ ys)) l ≡ (begins (one_of xs) l || begins (one_of ys) l)
begins-append xs ys [] = refl
begins-append xs ys (t ∷ l) = one_of-append xs ys t

or-left : (b c : Bool) → (b || c) ≡ false → b ≡ false
or-left true c e = e
or-left false c e = refl

or-right : (b c : Bool) → (b || c) ≡ false → c ≡ false
or-right true c e = absurd (false≢true (sym e))
or-right false c e = e

pub without-left : (xs ys : List (List ℕ)) (m : List (Placed Token)) → Without (xs ++ ys) m → Without xs m
without-left xs ys m none = or-left (begins (one_of xs) m) (begins (one_of ys) m) (sym (begins-append xs ys m) ∙ none)

pub without-right : (xs ys : List (List ℕ)) (m : List (Placed Token)) → Without (xs ++ ys) m → Without ys m
without-right xs ys m none = or-right (begins (one_of xs) m) (begins (one_of ys) m) (sym (begins-append xs ys m) ∙ none)

pub without-both : (xs ys : List (List ℕ)) (m : List (Placed Token)) → Without xs m → Without ys m → Without (xs ++ ys) m
without-both xs ys m one other = begins-append xs ys m ∙ ap (λ (b : Bool). b || begins (one_of ys) m) one ∙ other

pub without-none : (m : List (Placed Token)) → Without [] m
without-none [] = refl
without-none (t ∷ m) = refl

or-true : (b : Bool) → (b || true) ≡ true
or-true true = refl
or-true false = refl

begins_either-right : {X : Type 0} (A : X → List (Placed Token) → Type 0) (xs ys : List (List ℕ)) → Begins (one_of ys) true A → Begins (one_of (xs ++ ys)) true A
begins_either-right A xs ys is x w m text = begins-append xs ys (w ++ m) ∙ ap (λ (b : Bool). begins (one_of xs) (w ++ m) || b) (is x w m text) ∙ or-true (begins (one_of xs) (w ++ m))

module _ {X : Type 0} (A : X → List (Placed Token) → Type 0) where
  pub begins-either-left : (xs ys : List (List ℕ)) → Begins (one_of xs) true A → Begins (one_of (xs ++ ys)) true A
  begins-either-left xs ys is x w m text = begins-append xs ys (w ++ m) ∙ ap (λ (b : Bool). b || begins (one_of ys) (w ++ m)) (is x w m text)

  -- a text that begins so is none that begins in another way
  pub begins-without : (xs ys : List (List ℕ)) → is_disjoint xs ys ≡ true → Begins (one_of xs) true A → Begins (one_of ys) false A
  begins-without xs ys apart is x w m text = disjoint-begins xs ys (w ++ m) apart (is x w m text)

  module _ {Y : Type 0} (B : Y → List (Placed Token) → Type 0) where
    pub two-sample : ((x : X) × (w : List (Placed Token)) × A x w) → ((y : Y) × (w : List (Placed Token)) × B y w) → (p : X × Y) × (w : List (Placed Token)) × (A ⋅ B) p w
    two-sample a b = ((a.0, b.0), a.1 ++ b.1, (a.1, b.1, refl, a.2, b.2))

    pub two-begins : (xs : List (List ℕ)) → Begins (one_of xs) true A → Begins (one_of xs) true (A ⋅ B)
    two-begins xs is p w m text = ap (λ (l : List (Placed Token)). begins (one_of xs) (l ++ m)) text.2 ∙ ap (begins (one_of xs)) (append_assoc text.0 text.1 m) ∙ is p.0 text.0 (text.1 ++ m) text.3

    pub maybe-sample : ((y : Y) × (w : List (Placed Token)) × B y w) → (p : Option X × Y) × (w : List (Placed Token)) × (Maybe A ⋅ B) p w
    maybe-sample b = ((None, b.0), b.1, ([], b.1, refl, refl, b.2))

    pub maybe_then-begins : (xs ys : List (List ℕ)) → Begins (one_of xs) true A → Begins (one_of ys) true B → Begins (one_of (xs ++ ys)) true (Maybe A ⋅ B)
    maybe_then-begins xs ys one other = maybe-begins (one_of (xs ++ ys)) true A B (begins-either-left xs ys one) (begins_either-right B xs ys other)

    pub each_then-begins : (xs ys : List (List ℕ)) → Begins (one_of xs) true A → Begins (one_of ys) true B → Begins (one_of (xs ++ ys)) true (Each A ⋅ B)
    each_then-begins xs ys one other = each-begins (one_of (xs ++ ys)) true A B (begins-either-left xs ys one) (begins_either-right B xs ys other)

    pub each-sample : ((y : Y) × (w : List (Placed Token)) × B y w) → (p : List X × Y) × (w : List (Placed Token)) × (Each A ⋅ B) p w
    each-sample b = (([], b.0), b.1, ([], b.1, refl, refl, b.2))

    pub with_maybe-sample : ((y : Y) × (w : List (Placed Token)) × B y w) → (p : Y × Option X) × (w : List (Placed Token)) × (B ⋅ Maybe A) p w
    with_maybe-sample b = ((b.0, None), b.1 ++ [], (b.1, [], refl, b.2, refl))

    pub with_each-sample : ((y : Y) × (w : List (Placed Token)) × B y w) → (p : Y × List X) × (w : List (Placed Token)) × (B ⋅ Each A) p w
    with_each-sample b = ((b.0, []), b.1 ++ [], (b.1, [], refl, b.2, refl))

  pub made-sample : {Y : Type 0} (build : X → Y) → ((x : X) × (w : List (Placed Token)) × A x w) → (y : Y) × (w : List (Placed Token)) × Made build A y w
  made-sample build a = (build a.0, a.1, (a.0, refl, a.2))

  pub made-begins : {Y : Type 0} (build : X → Y) (xs : List (List ℕ)) → Begins (one_of xs) true A → Begins (one_of xs) true (Made build A)
  made-begins build xs is y w m text = is text.0 w m text.2

pub one-sample : {X : Type 0} (value : Placed Token → Option X) → ((t : Placed Token) × (x : X) × (value t ≡ Some x)) → (x : X) × (w : List (Placed Token)) × One value x w
one-sample value s = (s.1, s.0 ∷ [], (s.0, refl, s.2))

pub one-begins : {X : Type 0} (value : Placed Token → Option X) (xs : List (List ℕ)) → ((t : Placed Token) (x : X) → value t ≡ Some x → one_of xs t ≡ true) → Begins (one_of xs) true (One value)
one-begins value xs is x w m text = ap (λ (l : List (Placed Token)). begins (one_of xs) (l ++ m)) text.1 ∙ is text.0 x text.2

found-true : (b : Bool) (u : ⊤) → found b ≡ Some u → b ≡ true
found-true true u e = refl
found-true false u e = absurd (false≢true (ap is_some e))

pub symbol-shaped : (text : List ℕ) (t : Placed Token) (u : ⊤) → symbol_of text t ≡ Some u → one_of (text ∷ []) t ≡ true
symbol-shaped text t u e = found-true (one_of (text ∷ []) t) u e

pub symbol-sample : (text : List ℕ) → ((t : Placed Token) × (shape t.token ≡ text)) → (t : Placed Token) × (u : ⊤) × (symbol_of text t ≡ Some u)
symbol-sample text s = (s.0, tt, ap (λ (b : Bool). found (b || false)) ((bytes_eq-Decides (shape s.0.token) text).1 s.1))

module _ {X Y Z : Type 0} (A : X → List (Placed Token) → Type 0) (B : Y → List (Placed Token) → Type 0) (one : X → Z) (two : Y → Z) where
  pub either-sample : ((x : X) × (w : List (Placed Token)) × A x w) → (z : Z) × (w : List (Placed Token)) × (Made one A ∣ Made two B) z w
  either-sample a = (one a.0, a.1, inl (a.0, refl, a.2))

  pub either-begins : (xs ys : List (List ℕ)) → Begins (one_of xs) true A → Begins (one_of ys) true B → Begins (one_of (xs ++ ys)) true (Made one A ∣ Made two B)
  either-begins xs ys a b z w m text =
      elim text [ inl made ↦ begins-either-left A xs ys a made.0 w m made.2 | inr made ↦ begins_either-right B xs ys b made.0 w m made.2 ]

pub both-none : (xs ys : List (List ℕ)) → xs ≡ [] → ys ≡ [] → xs ++ ys ≡ []
both-none xs ys one other = ap (λ (l : List (List ℕ)). l ++ ys) one ∙ other

pub some_of-sample : {X : Type 0} (A : X → List (Placed Token) → Type 0) → ((x : X) × (w : List (Placed Token)) × A x w) → (xs : List X) × (w : List (Placed Token)) × Made (λ (p : X × List X). p.0 ∷ p.1) (A ⋅ Each A) xs w
some_of-sample A a = (a.0 ∷ [], a.1 ++ [], ((a.0, []), refl, (a.1, [], refl, a.2, refl)))

pub some_of-begins : {X : Type 0} (A : X → List (Placed Token) → Type 0) (xs : List (List ℕ)) → Begins (one_of xs) true A → Begins (one_of xs) true (Made (λ (p : X × List X). p.0 ∷ p.1) (A ⋅ Each A))
some_of-begins {X} A xs is = made-begins (A ⋅ Each A) (λ (p : X × List X). p.0 ∷ p.1) xs (two-begins A (Each A) xs is)

module _ {X : Type 0} (A B : X → List (Placed Token) → Type 0) where
  pub one_and_each-sample : ((x : X) × (w : List (Placed Token)) × A x w) → (xs : List X) × (w : List (Placed Token)) × Made (λ (p : X × List X). p.0 ∷ p.1) (A ⋅ Each B) xs w
  one_and_each-sample a = (a.0 ∷ [], a.1 ++ [], ((a.0, []), refl, (a.1, [], refl, a.2, refl)))

  pub one_and_each-begins : (xs : List (List ℕ)) → Begins (one_of xs) true A → Begins (one_of xs) true (Made (λ (p : X × List X). p.0 ∷ p.1) (A ⋅ Each B))
  one_and_each-begins xs is = made-begins (A ⋅ Each B) (λ (p : X × List X). p.0 ∷ p.1) xs (two-begins A (Each B) xs is)
