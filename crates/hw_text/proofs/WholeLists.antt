-- From what a reader says of the front of a list of tokens to what the whole list is.
use Rattle.std.proofs.Common.{◌≡◌, ◌∙◌, refl, sym, ap, subst, ℕ, suc, ◌+◌, ◌-◌, ◌<◌, List, [], ◌∷◌, ◌++◌, length, length-append, take, append_assoc, append-nil, add-one, arith}
use Rattle.hw_text.specs.Reading.{first, Reached, Stuck}
use Rattle.hw_text.specs.WholeLists.{GoesOn, GoesNoFurther}

module _ {T : Type 0} where
  front : (u v : List T) → take (length u) (u ++ v) ≡ u
  front [] v = refl
  front (t ∷ u) v = ap (λ (l : List T). t ∷ l) (front u v)

  one-more-at : (u v : List T) (t : T) → take (suc (length u)) (u ++ (t ∷ v)) ≡ u ++ t ∷ []
  one-more-at [] v t = refl
  one-more-at (x ∷ u) v t = ap (λ (l : List T). x ∷ l) (one-more-at u v t)

  one-more : (u v : List T) (t : T) → take (length u + 1) (u ++ (t ∷ v)) ≡ u ++ t ∷ []
  one-more u v t = ap (λ (n : ℕ). take n (u ++ (t ∷ v))) (add-one (length u)) ∙ one-more-at u v t

  behind : (ts u after : List T) → ts ≡ u ++ after → length ts - length after ≡ length u
  behind ts u after split = omega (arith, ap (λ (l : List T). length l) split, length-append u after)

  pub empty : (l : List T) → length l ≡ 0 → l ≡ []
  empty [] none = refl
  empty (t ∷ l) none = absurd (omega (arith, none))

module _ {T X : Type 0} (A : X → List T → Type 0) (F : List T → Type 0) (any : F []) (ts : List T) where
  pub all-read : (after : List T) (x : X) → length after ≡ 0 → Reached A F ts after x → A x ts × ((y : X) → A y ts → y ≡ x)
  all-read after x none so =
      let whole : ts ≡ so.taken = so.split ∙ ap (λ (l : List T). so.taken ++ l) (empty after none) ∙ append-nil so.taken in (
        subst (A x) (sym whole) so.spelled,
        λ y text. (so.only y ts [] [] text any (ap (λ (l : List T). l ++ []) whole) (ap first (sym (empty after none)))).0,
      )

  -- no text goes on with one token more
  Ends : List T → List T → Type 0
  Ends taken after = (t : T) (l : List T) → after ≡ t ∷ l → (y : X) (more : List T) → A y (taken ++ (t ∷ more)) → ⊥

  further : (taken after : List T) → ts ≡ taken ++ after → GoesOn A taken → Ends taken after → (length after ≡ 0 → (x : X) → A x ts → ⊥) → GoesNoFurther A ts (length ts - length after)
  unfolding Ends
  further taken after split starts ends none =
      let i : length ts - length after ≡ length taken = behind ts taken after split in
      record {
        within = omega (arith, i, ap (λ (l : List T). length l) split, length-append taken after);
        goes_on = subst (GoesOn A) (sym (ap (λ (n : ℕ). take n ts) i ∙ ap (take (length taken)) split ∙ front taken after)) starts;
        no_further = λ within goes. no-further taken after split i ends within goes;
        no_text = λ all x text. none (omega (arith, i, all, ap (λ (l : List T). length l) split, length-append taken after)) x text;
      }
    where
      no-further : (taken after : List T) → ts ≡ taken ++ after → length ts - length after ≡ length taken → Ends taken after → length ts - length after < length ts → GoesOn A (take (length ts - length after + 1) ts) → ⊥
      no-further taken [] split i ends within goes = absurd (omega (arith, i, within, ap (λ (l : List T). length l) split, length-append taken []))
      no-further taken (t ∷ l) split i ends within goes =
          let here = ap (λ (n : ℕ). take (n + 1) ts) i ∙ ap (take (length taken + 1)) split ∙ one-more taken l t in
          let text = subst (λ (u : List T). A goes.0 (u ++ goes.1)) here goes.2 in
          ends t l refl goes.0 goes.1 (subst (A goes.0) (append_assoc taken (t ∷ []) goes.1) text)

  pub read-further : (after : List T) (x : X) → (length after ≡ 0 → ⊥) → Reached A F ts after x → GoesNoFurther A ts (length ts - length after)
  unfolding Ends
  read-further after x some so =
      further so.taken after so.split (x, [], subst (A x) (sym (append-nil so.taken)) so.spelled)
      (λ t l at y more text.
      let same = so.only y (so.taken ++ (t ∷ more)) [] (t ∷ more) text any (append-nil (so.taken ++ (t ∷ more))) (ap first (sym at)) in
      absurd (omega (arith, ap (λ (m : List T). length m) same.1)))
      (λ none x text. some none)

  pub stuck-further : (after : List T) → Stuck A F ts after → GoesNoFurther A ts (length ts - length after)
  unfolding Ends
  stuck-further after so =
      further so.taken after so.split so.goes_on
      (λ t l at y more text. so.none y (so.taken ++ (t ∷ more)) [] (t ∷ more) text any (append-nil (so.taken ++ (t ∷ more))) (ap first (sym at)))
      (λ none x text.
      so.none x ts [] [] text any (append-nil ts ∙ so.split ∙ ap (λ (l : List T). so.taken ++ l) (empty after none)) (ap first (sym (empty after none))))
