-- How texts begin, told by the shapes of their first tokens: lists of shapes, of which computing says that two have none in common, or that
-- one is in the other. A language begins so as its parts do.
use Rattle.std.proofs.Common.{◌≡◌, ◌∙◌, refl, sym, ap, ℕ, ◌<◌, List, [], ◌∷◌, ◌++◌, append_assoc, length, arith, Bool, true, false, ◌&&◌, ◌||◌, not, Option, Some, inl, inr}
use Rattle.std.specs.List.{list_any}
use Rattle.std.specs.Str.{bytes_eq}
use Rattle.std.proofs.lemmas.Bool.{false≢true, and_parts}
use Rattle.std.proofs.lemmas.Slice.Eq.{bytes_eq-Decides}
use Rattle.std.specs.Prelude.{⊤}
use Rattle.hw_text.specs.Language.{One, Nothing, ◌⋅◌, Maybe, Each, Made, ◌∣◌}
use Rattle.hw_text.specs.Reading.{begins, Begins}
use Rattle.hw_text.proofs.Reading.{one-begins, made-begins, then-begins, maybe-begins, either-begins}

abbrev pub has : List (List ℕ) → List ℕ → Bool
has xs s = list_any (bytes_eq s) xs

-- each shape of the one list is in the other
abbrev pub is_within : List (List ℕ) → List (List ℕ) → Bool
is_within [] ys = true
is_within (x ∷ xs) ys = has ys x && is_within xs ys

-- no shape is in both lists
abbrev pub is_disjoint : List (List ℕ) → List (List ℕ) → Bool
is_disjoint [] ys = true
is_disjoint (x ∷ xs) ys = not (has ys x) && is_disjoint xs ys

within-step : (x : List ℕ) (xs ys : List (List ℕ)) (s : List ℕ) (b : Bool) → bytes_eq s x ≡ b → has ys x ≡ true → (has xs s ≡ true → has ys s ≡ true) → (b || has xs s) ≡ true → has ys s ≡ true
within-step x xs ys s true same is rest some = ap (has ys) ((bytes_eq-Decides s x).0 same) ∙ is
within-step x xs ys s false other is rest some = rest some

within : (xs ys : List (List ℕ)) (s : List ℕ) → is_within xs ys ≡ true → has xs s ≡ true → has ys s ≡ true
within [] ys s all is = absurd (false≢true is)
within (x ∷ xs) ys s all is =
    let parts = and_parts (has ys x) (is_within xs ys) all in
    within-step x xs ys s (bytes_eq s x) refl parts.0 (within xs ys s parts.1) is

not-true : (b : Bool) → not b ≡ true → b ≡ false
not-true true e = absurd (false≢true e)
not-true false e = refl

disjoint-step : (x : List ℕ) (xs ys : List (List ℕ)) (s : List ℕ) (b : Bool) → bytes_eq s x ≡ b → has ys x ≡ false → (has xs s ≡ true → has ys s ≡ false) → (b || has xs s) ≡ true → has ys s ≡ false
disjoint-step x xs ys s true same none rest some = ap (has ys) ((bytes_eq-Decides s x).0 same) ∙ none
disjoint-step x xs ys s false other none rest some = rest some

disjoint : (xs ys : List (List ℕ)) (s : List ℕ) → is_disjoint xs ys ≡ true → has xs s ≡ true → has ys s ≡ false
disjoint [] ys s all is = absurd (false≢true is)
disjoint (x ∷ xs) ys s all is =
    let parts = and_parts (not (has ys x)) (is_disjoint xs ys) all in
    disjoint-step x xs ys s (bytes_eq s x) refl (not-true (has ys x) parts.0) (disjoint xs ys s parts.1) is

module _ {T : Type 0} (shape : T → List ℕ) where
  -- the tokens of which the test holds are those of these shapes
  pub record Means (test : T → Bool) (xs : List (List ℕ)) : Type 0 where
    pub is : (t : T) → test t ≡ has xs (shape t)

  -- each text of the language begins with a token of one of these shapes
  pub record Starts {X : Type 0} (xs : List (List ℕ)) (A : X → List T → Type 0) : Type 0 where
    pub begins : Begins (λ t. has xs (shape t)) true A

module _ {T : Type 0} {shape : T → List ℕ} {zs : List (List ℕ)} where
  pub one : {X : Type 0} {value : T → Option X} → ((t : T) (x : X) → value t ≡ Some x → has zs (shape t) ≡ true) → Starts shape zs (One value)
  one {value = value} is = record { begins = one-begins (λ t. has zs (shape t)) true value is }

  pub wider : {X : Type 0} {A : X → List T → Type 0} {xs : List (List ℕ)} → Starts shape xs A → is_within xs zs ≡ true → Starts shape zs A
  wider {A = A} {xs = xs} so all = record { begins = λ x w m text. more (w ++ m) (so.begins x w m text) }
    where
      more : (l : List T) → begins (λ t. has xs (shape t)) l ≡ true → begins (λ t. has zs (shape t)) l ≡ true
      more [] is = is
      more (t ∷ l) is = within xs zs (shape t) all is

  pub first : {X Y : Type 0} {A : X → List T → Type 0} (C : Y → List T → Type 0) → Starts shape zs A → Starts shape zs (A ⋅ C)
  first {A = A} C so = record { begins = then-begins (λ t. has zs (shape t)) true A C so.begins }

  pub built : {X Y : Type 0} (build : X → Y) {A : X → List T → Type 0} → Starts shape zs A → Starts shape zs (Made build A)
  built build {A = A} so = record { begins = made-begins (λ t. has zs (shape t)) true A build so.begins }

  pub either : {X : Type 0} {A C : X → List T → Type 0} → Starts shape zs A → Starts shape zs C → Starts shape zs (A ∣ C)
  either {A = A} {C = C} one other = record { begins = either-begins (λ t. has zs (shape t)) true A C one.begins other.begins }

  pub maybe_first : {X Y : Type 0} {A : X → List T → Type 0} {C : Y → List T → Type 0} → Starts shape zs A → Starts shape zs C → Starts shape zs (Maybe A ⋅ C)
  maybe_first {A = A} {C = C} so behind = record { begins = maybe-begins (λ t. has zs (shape t)) true A C so.begins behind.begins }

  pub or_nothing_first : {X Y : Type 0} {none : ⊤ → X} {A : X → List T → Type 0} {C : Y → List T → Type 0} → Starts shape zs A → Starts shape zs C → Starts shape zs ((A ∣ Made none Nothing) ⋅ C)
  or_nothing_first so behind = record {
    begins = λ p w m text. elim text.3 [
      | inl some ↦ ap (λ (l : List T). begins (λ t. has zs (shape t)) (l ++ m)) text.2 ∙ ap (begins (λ t. has zs (shape t))) (append_assoc text.0 text.1 m) ∙ so.begins p.0 text.0 (text.1 ++ m) some
      | inr empty ↦ ap (λ (l : List T). begins (λ t. has zs (shape t)) (l ++ m)) (text.2 ∙ ap (λ (l : List T). l ++ text.1) empty.2) ∙ behind.begins p.1 text.1 m text.4
    ];
  }

  -- texts of the one are texts of the other
  pub as_other : {X : Type 0} {A C : X → List T → Type 0} → ((x : X) (w : List T) → A x w → C x w) → Starts shape zs C → Starts shape zs A
  as_other turn so = record { begins = λ x w m text. so.begins x w m (turn x w text) }

  module _ {test : T → Bool} {xs : List (List ℕ)} (means : Means shape test xs) where
    -- a text that begins so begins with no token of which the test holds
    pub apart : {X : Type 0} {A : X → List T → Type 0} → Starts shape zs A → is_disjoint zs xs ≡ true → Begins test false A
    apart {A = A} so none x w m text = at (w ++ m) (so.begins x w m text)
      where
        at : (l : List T) → begins (λ t. has zs (shape t)) l ≡ true → begins test l ≡ false
        at [] is = refl
        at (t ∷ l) is = means.is t ∙ disjoint zs xs (shape t) none is

    -- a text that begins so begins with a token of which the test holds
    pub among : {X : Type 0} {A : X → List T → Type 0} → Starts shape zs A → is_within zs xs ≡ true → Begins test true A
    among {A = A} so all x w m text = at (w ++ m) (so.begins x w m text)
      where
        at : (l : List T) → begins (λ t. has zs (shape t)) l ≡ true → begins test l ≡ true
        at [] is = is
        at (t ∷ l) is = means.is t ∙ within zs xs (shape t) all is

module _ {T : Type 0} {shape : T → List ℕ} where
  -- where no token of the one test stands, none of the other does, which means fewer shapes
  pub fewer : {test other : T → Bool} {xs ys : List (List ℕ)} → Means shape test xs → Means shape other ys → is_within ys xs ≡ true → (m : List T) → begins test m ≡ false → begins other m ≡ false
  fewer means meant all [] none = refl
  fewer {test = test} {other = other} {xs = xs} {ys = ys} means meant all (t ∷ m) none = by (other t) refl
    where
      by : (b : Bool) → other t ≡ b → b ≡ false
      by true is = absurd (false≢true (sym none ∙ means.is t ∙ within ys xs (shape t) all (sym (meant.is t) ∙ is)))
      by false is = refl

  -- a text that begins so has a token
  pub some_token : {X : Type 0} {xs : List (List ℕ)} {A : X → List T → Type 0} → Starts shape xs A → (x : X) (w : List T) → A x w → 0 < length w
  some_token {xs = xs} so x w text = at w (so.begins x w [] text)
    where
      at : (l : List T) → begins (λ t. has xs (shape t)) (l ++ []) ≡ true → 0 < length l
      at [] is = absurd (false≢true is)
      at (t ∷ l) is = omega arith

-- behind members stands what begins with no token of which the test holds
pub each-behind : {T X : Type 0} {test : T → Bool} {A : X → List T → Type 0} {F : List T → Type 0} → Begins test false A → ((m : List T) → F m → begins test m ≡ false) → (xs : List X) (w m : List T) → Each A xs w → F m → begins test (w ++ m) ≡ false
each-behind {test = test} is ends [] w m text follows = ap (λ (l : List _). begins test (l ++ m)) text ∙ ends m follows
each-behind {test = test} is ends (x ∷ xs) w m text follows =
    ap (λ (l : List _). begins test (l ++ m)) text.2 ∙ ap (begins test) (append_assoc text.0 text.1 m) ∙ is x text.0 (text.1 ++ m) text.3

-- where a token of the one test stands, none of the other does, which means other shapes
pub unlike : {T : Type 0} {shape : T → List ℕ} {test other : T → Bool} {xs ys : List (List ℕ)} → Means shape test xs → Means shape other ys → is_disjoint xs ys ≡ true → (m : List T) → begins test m ≡ true → begins other m ≡ false
unlike means meant none [] is = refl
unlike {shape = shape} {xs = xs} {ys = ys} means meant none (t ∷ m) is = meant.is t ∙ disjoint xs ys (shape t) none (sym (means.is t) ∙ is)

-- where a token of the one test stands, one of the other does, which means more shapes
pub also : {T : Type 0} {shape : T → List ℕ} {test other : T → Bool} {xs ys : List (List ℕ)} → Means shape test xs → Means shape other ys → is_within xs ys ≡ true → (m : List T) → begins test m ≡ true → begins other m ≡ true
also means meant all [] is = is
also {shape = shape} {xs = xs} {ys = ys} means meant all (t ∷ m) is = meant.is t ∙ within xs ys (shape t) all (sym (means.is t) ∙ is)
