-- How texts begin, told by the shapes of their first tokens.
use Rattle.std.proofs.Common.{◌≡◌, ◌∙◌, refl, sym, ap, ◌<◌, List, [], ◌∷◌, ◌++◌, length, arith, Bool, true, false, ◌&&◌, ◌||◌, not, cond, Option, Some, None}
use Rattle.std.specs.Prelude.{is_some}
use Rattle.std.specs.List.{list_any}
use Rattle.std.proofs.lemmas.Bool.{false≢true}
use Rattle.hw_text.specs.Reading.{ahead, begins, Begins}
use Rattle.hw_text.specs.declared.place.Place.{Place}
use Rattle.hw_text.specs.declared.placed.Placed.{Placed}
use Rattle.hw_reading.specs.Shapes.{one_of, Without, is_disjoint, at_if, place_of, listed_in, shapes_of, beside, one_listed}

any-append : {X : Type 0} (p : X → Bool) (xs ys : List X) → list_any p (xs ++ ys) ≡ (list_any p xs || list_any p ys)
any-append p [] ys = refl
any-append p (x ∷ xs) ys = either (p x) (list_any p (xs ++ ys)) (list_any p xs) (list_any p ys) (any-append p xs ys)
  where
    either : (b l m n : Bool) → l ≡ (m || n) → (b || l) ≡ ((b || m) || n)
    either true l m n e = refl
    either false l m n e = e

or-left : (b c : Bool) → (b || c) ≡ false → b ≡ false
or-left true c e = e
or-left false c e = refl

or-right : (b c : Bool) → (b || c) ≡ false → c ≡ false
or-right true c e = absurd (false≢true (sym e))
or-right false c e = e

or-true : (b : Bool) → (b || true) ≡ true
or-true true = refl
or-true false = refl

at_if-true : (b : Bool) (p at : Place) → at_if b p ≡ Some at → b ≡ true
at_if-true true p at e = refl
at_if-true false p at e = absurd (false≢true (ap is_some e))

beside-some : {X : Type 0} (at : Place) (o : Option X) (p : Place × X) → beside at o ≡ Some p → is_some o ≡ true
beside-some at None p e = absurd (false≢true (ap is_some e))
beside-some at (Some x) p e = refl

beside-is : {X : Type 0} (at : Place) (o : Option X) → is_some (beside at o) ≡ is_some o
beside-is at None = refl
beside-is at (Some x) = refl

module _ {T S : Type 0} (shape : T → S) (same : S → S → Bool) where
  pub begins-append : (xs ys : List S) (l : List (Placed T)) → begins (one_of shape same (xs ++ ys)) l ≡ (begins (one_of shape same xs) l || begins (one_of shape same ys) l)
  begins-append xs ys [] = refl
  begins-append xs ys (t ∷ l) = any-append (same (shape t.token)) xs ys

  pub without-left : (xs ys : List S) (m : List (Placed T)) → Without shape same (xs ++ ys) m → Without shape same xs m
  without-left xs ys m none = or-left (begins (one_of shape same xs) m) (begins (one_of shape same ys) m) (sym (begins-append xs ys m) ∙ none)

  pub without-right : (xs ys : List S) (m : List (Placed T)) → Without shape same (xs ++ ys) m → Without shape same ys m
  without-right xs ys m none = or-right (begins (one_of shape same xs) m) (begins (one_of shape same ys) m) (sym (begins-append xs ys m) ∙ none)

  pub begins-more : (xs ys : List S) (l : List (Placed T)) → begins (one_of shape same ys) l ≡ true → begins (one_of shape same (xs ++ ys)) l ≡ true
  begins-more xs ys l is = begins-append xs ys l ∙ ap (λ (b : Bool). begins (one_of shape same xs) l || b) is ∙ or-true (begins (one_of shape same xs) l)

  module _ {X : Type 0} (A : X → List (Placed T) → Type 0) where
    pub begins-left : (xs ys : List S) → Begins (one_of shape same xs) true A → Begins (one_of shape same (xs ++ ys)) true A
    begins-left xs ys is x w m text = begins-append xs ys (w ++ m) ∙ ap (λ (b : Bool). b || begins (one_of shape same ys) (w ++ m)) (is x w m text)

    pub begins-right : (xs ys : List S) → Begins (one_of shape same ys) true A → Begins (one_of shape same (xs ++ ys)) true A
    begins-right xs ys is x w m text = begins-more xs ys (w ++ m) (is x w m text)

  pub place-shaped : (s : S) (t : Placed T) (at : Place) → place_of shape same s t ≡ Some at → one_of shape same (s ∷ []) t ≡ true
  place-shaped s t at e = ap (λ (b : Bool). b || false) (at_if-true (same (shape t.token) s) t.place at e)

  -- a token of a shape stands for a place
  pub a_symbol : (s : S) → ((t : T) × (same (shape t) s ≡ true)) → (p : Place) → (t : Placed T) × (x : Place) × (place_of shape same s t ≡ Some x)
  a_symbol s token p = (record { token = token.0; place = p }, p, ap (λ (b : Bool). at_if b p) token.1)

  -- what is in the list has one of its shapes
  pub listed-some : {X : Type 0} (rows : List (S × X)) (s : S) → is_some (listed_in same rows s) ≡ list_any (same s) (shapes_of rows)
  listed-some [] s = refl
  listed-some {X} (row ∷ rows) s = at (same s row.0) (listed-some rows s)
    where
      at : (b : Bool) → is_some (listed_in same rows s) ≡ list_any (same s) (shapes_of rows) → is_some (cond b (Some row.1) (listed_in same rows s)) ≡ (b || list_any (same s) (shapes_of rows))
      at true rest = refl
      at false rest = rest

  pub listed-shaped : {X : Type 0} (rows : List (S × X)) (t : Placed T) (p : Place × X) → one_listed shape same rows t ≡ Some p → one_of shape same (shapes_of rows) t ≡ true
  listed-shaped rows t p e = sym (listed-some rows (shape t.token)) ∙ beside-some t.place (listed_in same rows (shape t.token)) p e

  pub listed-ahead : {X : Type 0} (rows : List (S × X)) (l : List (Placed T)) → is_some (ahead (one_listed shape same rows) l) ≡ begins (one_of shape same (shapes_of rows)) l
  listed-ahead rows [] = refl
  listed-ahead rows (t ∷ l) = beside-is t.place (listed_in same rows (shape t.token)) ∙ listed-some rows (shape t.token)

  -- where a token of the list is ahead, the list has one at least
  pub some-listed : {X : Type 0} (rows : List (S × X)) (l : List (Placed T)) → begins (one_of shape same (shapes_of rows)) l ≡ true → 0 < length rows
  some-listed [] [] is = absurd (false≢true is)
  some-listed [] (t ∷ l) is = absurd (false≢true is)
  some-listed (row ∷ rows) l is = omega arith

  -- a list of one at least has a token
  pub a_listed : {X : Type 0} (rows : List (S × X)) → 0 < length rows → ((s : S) → (t : T) × (same (shape t) s ≡ true)) → (p : Place) → (t : Placed T) × (x : Place × X) × (one_listed shape same rows t ≡ Some x)
  a_listed [] some sample p = absurd (omega (arith, some))
  a_listed (row ∷ rows) some sample p =
      (record { token = (sample row.0).0; place = p }, (p, row.1), ap (λ (b : Bool). beside p (cond b (Some row.1) (listed_in same rows (shape (sample row.0).0)))) (sample row.0).1)

  module _ (alike : (a b : S) → same a b ≡ true → a ≡ b) where
    disjoint-step : (xs : List S) (y : S) (ys : List S) (t : Placed T) (b c : Bool) → same (shape t.token) y ≡ b → list_any (same y) xs ≡ c → (not c && is_disjoint same xs ys) ≡ true → one_of shape same xs t ≡ true → (is_disjoint same xs ys ≡ true → one_of shape same ys t ≡ false) → (b || one_of shape same ys t) ≡ false
    disjoint-step xs y ys t false true e f apart is rest = absurd (false≢true apart)
    disjoint-step xs y ys t false false e f apart is rest = rest apart
    disjoint-step xs y ys t true true e f apart is rest = absurd (false≢true apart)
    disjoint-step xs y ys t true false e f apart is rest =
        let here : shape t.token ≡ y = alike (shape t.token) y e in
        absurd (false≢true (sym f ∙ ap (λ (s : S). list_any (same s) xs) (sym here) ∙ is))

    -- a token has no shape of the one list where it has one of the other
    pub apart : (xs ys : List S) → is_disjoint same xs ys ≡ true → (t : Placed T) → one_of shape same xs t ≡ true → one_of shape same ys t ≡ false
    apart xs [] disjoint t is = refl
    apart xs (y ∷ ys) disjoint t is =
        disjoint-step xs y ys t (same (shape t.token) y) (list_any (same y) xs) refl refl disjoint is (λ a. apart xs ys a t is)
