-- How readers are put together: what a call knows amid a production, step by step.
use Rattle.std.proofs.Common.{◌≡◌, ◌∙◌, refl, sym, ap, subst, List, [], ◌∷◌, ◌++◌, drop, length, length-append, ◌≤◌, ◌<◌, arith, append_assoc, append-nil, Option, Some, None, Bool, false, true, inl, inr}
use Rattle.std.proofs.lemmas.Bool.{false≢true}
use Rattle.std.proofs.lemmas.List.{append_cancel_right}
use Rattle.std.proofs.lemmas.Option.{same_Some}
use Rattle.std.proofs.lemmas.Result.{err_from_is_err_and}
use Rattle.std.specs.Prelude.{⊤, is_some, Result, Err, IsErrAnd}
use Rattle.hw_text.specs.Language.{One, Nothing, ◌⋅◌, Maybe, Each, Made, ◌∣◌, Noted}
use Rattle.hw_text.specs.declared.read_fault.ReadFault.{ReadFault}
use Rattle.hw_text.specs.declared.read_fault.ReadFault.TheVariants.{Syntax, NoMemory}
use Rattle.hw_text.specs.Reading.{first, ahead, begins, Begins, Reached, Stuck, Reads, Leaves}

never-some : {X : Type 0} (x : X) → None ≡ Some x → ⊥
never-some x same = false≢true (ap is_some same)

module _ {T : Type 0} where
  -- lists that go on alike begin alike
  first-same : (u m n : List T) → first m ≡ first n → first (u ++ m) ≡ first (u ++ n)
  first-same [] m n same = same
  first-same (t ∷ u) m n same = refl

  first-none : (l : List T) → first l ≡ None → l ≡ []
  first-none [] at = refl
  first-none (t ∷ l) at = absurd (never-some t (sym at))

  -- the first token decides how a list begins
  pub first-begins : (test : T → Bool) (m n : List T) → first m ≡ first n → begins test m ≡ begins test n
  first-begins test [] [] same = refl
  first-begins test [] (t ∷ n) same = absurd (never-some t same)
  first-begins test (t ∷ m) [] same = absurd (never-some t (sym same))
  first-begins test (t ∷ m) (u ∷ n) same = ap test (same_Some t u same)

  pub begins-at : (test : T → Bool) (l : List T) (t : T) → first l ≡ Some t → begins test l ≡ test t
  begins-at test [] t at = absurd (never-some t at)
  begins-at test (u ∷ l) t at = ap test (same_Some u t at)

  rest_of : List T → List T
  rest_of [] = []
  rest_of (t ∷ l) = l

  first-then : (l : List T) (t : T) → first l ≡ Some t → l ≡ t ∷ drop 1 l
  first-then [] t at = absurd (never-some t at)
  first-then (u ∷ l) t at = ap (λ (v : T). v ∷ l) (same_Some u t at)

  module _ {X : Type 0} (value : T → Option X) (Follows : List T → Type 0) where
    -- a token was read
    pub one-reached : (before after : List T) (t : T) (x : X) → first before ≡ Some t → after ≡ drop 1 before → value t ≡ Some x → Reached (One value) Follows before after x
    unfolding rest_of
    one-reached before after t x at behind is = record {
      taken = t ∷ [];
      split = first-then before t at ∙ ap (λ (l : List T). t ∷ l) (sym behind);
      spelled = (t, refl, is);
      only = λ y w m n text follows same looked.
          let agrees = ap (λ (l : List T). l ++ m) (sym text.1) ∙ same in
          (same_Some y x (sym text.2 ∙ ap value (same_Some text.0 t (ap first agrees)) ∙ is), ap rest_of agrees);
    }

    -- a token was read of which the test holds
    pub such-reached : (test : T → Bool) (before after : List T) (x : X) → begins test before ≡ true → after ≡ drop 1 before → ((t : T) → test t ≡ true → value t ≡ Some x) → Reached (One value) Follows before after x
    such-reached test [] after x at behind is = absurd (false≢true at)
    such-reached test (t ∷ l) after x at behind is = one-reached (t ∷ l) after t x refl behind (is t at)

    -- the token at which the reader stands is none that may be read, or there is no token
    pub one-stuck : (before : List T) → ((t : T) × (x : X) × (value t ≡ Some x)) → ((t : T) → first before ≡ Some t → value t ≡ None) → Stuck (One value) Follows before before
    one-stuck before sample never = record {
      taken = [];
      split = refl;
      goes_on = (sample.1, sample.0 ∷ [], (sample.0, refl, sample.2));
      none = λ y w m n text follows same looked.
          let at = sym looked ∙ ap first (sym same) ∙ ap (λ (l : List T). first (l ++ m)) text.1 in
          never-some y (sym (never text.0 at) ∙ text.2);
    }

    -- a token was read that stands for a value
    pub ahead-reached : (before after : List T) (x : X) → ahead value before ≡ Some x → after ≡ drop 1 before → Reached (One value) Follows before after x
    ahead-reached [] after x at behind = absurd (never-some x at)
    ahead-reached (t ∷ l) after x at behind = one-reached (t ∷ l) after t x refl behind at

    -- no token that stands for a value is there
    pub ahead-stuck : (before : List T) → ((t : T) × (x : X) × (value t ≡ Some x)) → ahead value before ≡ None → Stuck (One value) Follows before before
    ahead-stuck [] sample at = one-stuck [] sample (λ t is. absurd (never-some t is))
    ahead-stuck (u ∷ l) sample at = one-stuck (u ∷ l) sample (λ t is. ap value (sym (same_Some u t is)) ∙ at)

    -- no token of which the test holds is there, and no other may be read
    pub such-stuck : (test : T → Bool) (before : List T) → ((t : T) × (x : X) × (value t ≡ Some x)) → begins test before ≡ false → ((t : T) → test t ≡ false → value t ≡ None) → Stuck (One value) Follows before before
    such-stuck test before sample not_so never = one-stuck before sample (λ t at. never t (sym (begins-at test before t at) ∙ not_so))

  module _ {X : Type 0} (test : T → Bool) (so : Bool) where
    pub one-begins : (value : T → Option X) → ((t : T) (x : X) → value t ≡ Some x → test t ≡ so) → Begins test so (One value)
    one-begins value is x w m text = ap (λ (l : List T). begins test (l ++ m)) text.1 ∙ is text.0 x text.2

    pub made-begins : {Y : Type 0} (A : X → List T → Type 0) (build : X → Y) → Begins test so A → Begins test so (Made build A)
    made-begins A build is y w m text = is text.0 w m text.2

    module _ {Y : Type 0} (A : X → List T → Type 0) (C : Y → List T → Type 0) where
      pub then-begins : Begins test so A → Begins test so (A ⋅ C)
      then-begins is p w m text = ap (λ (l : List T). begins test (l ++ m)) text.2 ∙ ap (begins test) (append_assoc text.0 text.1 m) ∙ is p.0 text.0 (text.1 ++ m) text.3

      behind-nothing : (y : Y) (us vs w m : List T) → w ≡ us ++ vs → us ≡ [] → C y vs → Begins test so C → begins test (w ++ m) ≡ so
      behind-nothing y us vs w m split none text is = ap (λ (l : List T). begins test (l ++ m)) (split ∙ ap (λ (l : List T). l ++ vs) none) ∙ is y vs m text

      pub maybe-begins : Begins test so A → Begins test so C → Begins test so (Maybe A ⋅ C)
      maybe-begins is behind p w m text = maybe-begins-at p.0 p.1 w m text.0 text.1 text.2 text.3 text.4
        where
          maybe-begins-at : (o : Option X) (y : Y) (w m us vs : List T) → w ≡ us ++ vs → Maybe A o us → C y vs → begins test (w ++ m) ≡ so
          maybe-begins-at None y w m us vs split none text = behind-nothing y us vs w m split none text behind
          maybe-begins-at (Some x) y w m us vs split one text = then-begins is (x, y) w m (us, vs, split, one, text)

      pub each-begins : Begins test so A → Begins test so C → Begins test so (Each A ⋅ C)
      each-begins is behind p w m text = each-begins-at p.0 p.1 w m text.0 text.1 text.2 text.3 text.4
        where
          each-begins-at : (xs : List X) (y : Y) (w m us vs : List T) → w ≡ us ++ vs → Each A xs us → C y vs → begins test (w ++ m) ≡ so
          each-begins-at [] y w m us vs split none text = behind-nothing y us vs w m split none text behind
          each-begins-at (x ∷ xs) y w m us vs split some text =
              ap (λ (l : List T). begins test (l ++ m)) (split ∙ ap (λ (l : List T). l ++ vs) some.2 ∙ append_assoc some.0 some.1 vs)
              ∙ ap (begins test) (append_assoc some.0 (some.1 ++ vs) m) ∙ is x some.0 ((some.1 ++ vs) ++ m) some.3

    pub either-begins : (A C : X → List T → Type 0) → Begins test so A → Begins test so C → Begins test so (A ∣ C)
    either-begins A C left right x w m text = elim text [ inl a ↦ left x w m a | inr c ↦ right x w m c ]

  -- texts that begin so are not what stands where none begins so
  pub never-begins : {X : Type 0} (test : T → Bool) (A : X → List T → Type 0) (after : List T) → Begins test true A → begins test after ≡ false → (x : X) (w m : List T) → A x w → first (w ++ m) ≡ first after → ⊥
  never-begins test A after is at x w m text same = false≢true (sym at ∙ sym (first-begins test (w ++ m) after same) ∙ is x w m text)

  -- what may stand behind is not what stands there
  pub never-follows : (test : T → Bool) (after : List T) → begins test after ≡ true → (m : List T) → begins test m ≡ false → first m ≡ first after → ⊥
  never-follows test after at m follows same = false≢true (sym follows ∙ first-begins test m after same ∙ at)

module _ {T Z : Type 0} (A : Z → List T → Type 0) (Follows : List T → Type 0) (before : List T) where
  -- nothing has been read
  pub begun : {Y : Type 0} (build : Y → Z) (Left : Y → List T → Type 0) → ((z : Z) (w : List T) → A z w → Made build Left z w) → ((y : Y) (w : List T) → Left y w → A (build y) w) → Leaves A Follows before before build Left
  begun build Left opened shut = record {
    taken = [];
    split = refl;
    back = shut;
    forth = λ z w m n text follows same looked.
        let made = opened z w text in
        (made.0, w, made.1, made.2, same);
  }

  module _ (after : List T) where
    -- only some of the values that were left agree with the token at which the reader stands
    pub refined : {X Y : Type 0} (build : Y → Z) (Left : Y → List T → Type 0) (narrow : X → Y) (Narrow : X → List T → Type 0) → Leaves A Follows before after build Left → ((x : X) (v : List T) → Narrow x v → Left (narrow x) v) → ((y : Y) (v m : List T) → Left y v → Follows m → first (v ++ m) ≡ first after → (x : X) × (y ≡ narrow x) × Narrow x v) → Leaves A Follows before after (λ x. build (narrow x)) Narrow
    refined build Left narrow Narrow so widens narrows = record {
      taken = so.taken;
      split = so.split;
      back = λ x v left. so.back (narrow x) v (widens x v left);
      forth = λ z w m n text follows same looked.
          let l = so.forth z w m n text follows same looked in
          let x = narrows l.0 l.1 m l.3 follows (ap first l.4 ∙ looked) in
          (x.0, l.1, l.2 ∙ ap build x.1, x.2, l.4);
    }

    -- the same value, built in another way
    pub rebuilt : {Y : Type 0} (build other : Y → Z) (Left : Y → List T → Type 0) → ((y : Y) → build y ≡ other y) → Leaves A Follows before after build Left → Leaves A Follows before after other Left
    rebuilt build other Left same_value so = record {
      taken = so.taken;
      split = so.split;
      back = λ y v left. subst (λ z. A z (so.taken ++ v)) (same_value y) (so.back y v left);
      forth = λ z w m n text follows same looked.
          let l = so.forth z w m n text follows same looked in
          (l.0, l.1, l.2 ∙ same_value l.0, l.3, l.4);
    }

    -- no value that is left agrees with the token at which the reader stands
    pub refused : {Y : Type 0} (build : Y → Z) (Left : Y → List T → Type 0) → Leaves A Follows before after build Left → ((y : Y) × (v : List T) × Left y v) → ((y : Y) (v m : List T) → Left y v → Follows m → first (v ++ m) ≡ first after → ⊥) → Stuck A Follows before after
    refused build Left so sample never = record {
      taken = so.taken;
      split = so.split;
      goes_on = (build sample.0, sample.1, so.back sample.0 sample.1 sample.2);
      none = λ z w m n text follows same looked.
          let l = so.forth z w m n text follows same looked in
          never l.0 l.1 m l.3 follows (ap first l.4 ∙ looked);
    }

    -- nothing is left
    pub ended : (build : ⊤ → Z) → Leaves A Follows before after build Nothing → Reached A Follows before after (build tt)
    ended build so = record {
      taken = so.taken;
      split = so.split;
      spelled = subst (A (build tt)) (append-nil so.taken) (so.back tt [] refl);
      only = λ z w m n text follows same looked.
          let l = so.forth z w m n text follows same looked in
          (l.2, ap (λ (v : List T). v ++ m) (sym l.3) ∙ l.4);
    }

    module _ {Y : Type 0} (build : Y → Z) where
      -- a value built of another one
      pub unmade : {X : Type 0} (make : X → Y) (B : X → List T → Type 0) → Leaves A Follows before after build (Made make B) → Leaves A Follows before after (λ x. build (make x)) B
      unmade make B so = refined build (Made make B) make B so (λ x v text. (x, refl, text)) (λ y v m text follows looked. text)

      -- the first of two, where the other agrees with no such token
      pub left : (B C : Y → List T → Type 0) → ((y : Y) (w m : List T) → C y w → Follows m → first (w ++ m) ≡ first after → ⊥) → Leaves A Follows before after build (B ∣ C) → Leaves A Follows before after build B
      left B C never so = refined build (B ∣ C) (λ y. y) B so (λ y v text. inl text)
          (λ y v m text follows looked. elim text [ inl b ↦ (y, refl, b) | inr c ↦ absurd (never y v m c follows looked) ])

      -- the second of two
      pub right : (B C : Y → List T → Type 0) → ((y : Y) (w m : List T) → B y w → Follows m → first (w ++ m) ≡ first after → ⊥) → Leaves A Follows before after build (B ∣ C) → Leaves A Follows before after build C
      right B C never so = refined build (B ∣ C) (λ y. y) C so (λ y v text. inr text)
          (λ y v m text follows looked. elim text [ inl b ↦ absurd (never y v m b follows looked) | inr c ↦ (y, refl, c) ])

    module _ {X : Type 0} (B : X → List T → Type 0) where
      -- what is optional stands here
      pub some : (build : Option X → Z) → ((m : List T) → Follows m → first m ≡ first after → ⊥) → Leaves A Follows before after build (Maybe B) → Leaves A Follows before after (λ x. build (Some x)) B
      some build never so = refined build (Maybe B) (λ x. Some x) B so (λ x v text. text) some-at
        where
          some-at : (o : Option X) (v m : List T) → Maybe B o v → Follows m → first (v ++ m) ≡ first after → (x : X) × (o ≡ Some x) × B x v
          some-at None v m none follows looked = absurd (never m follows (ap (λ (l : List T). first (l ++ m)) (sym none) ∙ looked))
          some-at (Some x) v m text follows looked = (x, refl, text)

      -- what is optional does not stand here
      pub none : (build : Option X → Z) → ((x : X) (w m : List T) → B x w → Follows m → first (w ++ m) ≡ first after → ⊥) → Leaves A Follows before after build (Maybe B) → Leaves A Follows before after (λ (u : ⊤). build None) Nothing
      none build never so = refined build (Maybe B) (λ (u : ⊤). None) Nothing so (λ u v text. text) none-at
        where
          none-at : (o : Option X) (v m : List T) → Maybe B o v → Follows m → first (v ++ m) ≡ first after → (u : ⊤) × (o ≡ None) × Nothing u v
          none-at None v m text follows looked = (tt, refl, text)
          none-at (Some x) v m text follows looked = absurd (never x v m text follows looked)

      -- a member stands here
      pub more : (build : List X → Z) → ((m : List T) → Follows m → first m ≡ first after → ⊥) → Leaves A Follows before after build (Each B) → Leaves A Follows before after (λ p. build (p.0 ∷ p.1)) (B ⋅ Each B)
      more build never so = refined build (Each B) (λ p. p.0 ∷ p.1) (B ⋅ Each B) so (λ p v text. text) more-at
        where
          more-at : (xs : List X) (v m : List T) → Each B xs v → Follows m → first (v ++ m) ≡ first after → (p : X × List X) × (xs ≡ p.0 ∷ p.1) × (B ⋅ Each B) p v
          more-at [] v m text follows looked = absurd (never m follows (ap (λ (l : List T). first (l ++ m)) (sym text) ∙ looked))
          more-at (x ∷ xs) v m text follows looked = ((x, xs), refl, text)

      -- no member stands here
      pub no_more : (build : List X → Z) → ((x : X) (w m : List T) → B x w → first (w ++ m) ≡ first after → ⊥) → Leaves A Follows before after build (Each B) → Leaves A Follows before after (λ (u : ⊤). build []) Nothing
      no_more build never so = refined build (Each B) (λ (u : ⊤). []) Nothing so (λ u v text. text) no_more-at
        where
          no_more-at : (xs : List X) (v m : List T) → Each B xs v → Follows m → first (v ++ m) ≡ first after → (u : ⊤) × (xs ≡ []) × Nothing u v
          no_more-at [] v m text follows looked = (tt, refl, text)
          no_more-at (x ∷ xs) v m text follows looked =
              absurd (never x text.0 (text.1 ++ m) text.3 (ap first (sym (append_assoc text.0 text.1 m)) ∙ ap (λ (l : List T). first (l ++ m)) (sym text.2) ∙ looked))

    -- a text was read, and another token stands behind it
    pub unended : (z : Z) → ((m : List T) → Follows m → m ≡ []) → (after ≡ [] → ⊥) → Reached A Follows before after z → Stuck A Follows before after
    unended z ends some so = record {
      taken = so.taken;
      split = so.split;
      goes_on = (z, [], subst (A z) (sym (append-nil so.taken)) so.spelled);
      none = λ y w m n text follows same looked.
          some (first-none after (sym looked ∙ ap first (sym (so.only y w m n text follows same looked).1 ∙ ends m follows)));
    }

  module _ {X : Type 0} (B : X → List T → Type 0) (Behind : List T → Type 0) (at after : List T) where
    module _ {Y : Type 0} (build : X × Y → Z) (C : Y → List T → Type 0) (so : Leaves A Follows before at build (B ⋅ C)) (follow : (y : Y) (w m : List T) → C y w → Follows m → Behind (w ++ m)) where
      -- one part of a production has been read
      pub step : (x : X) → Reached B Behind at after x → Leaves A Follows before after (λ y. build (x, y)) C
      step x part = record {
        taken = so.taken ++ part.taken;
        split = so.split ∙ ap (λ (l : List T). so.taken ++ l) part.split ∙ sym (append_assoc so.taken part.taken after);
        back = λ y v left. subst (A (build (x, y))) (sym (append_assoc so.taken part.taken v)) (so.back (x, y) (part.taken ++ v) (part.taken, v, refl, part.spelled, left));
        forth = λ z w m n text follows same looked.
            let l = so.forth z w m (part.taken ++ n) text follows (same ∙ append_assoc so.taken part.taken n) (first-same part.taken n after looked ∙ ap first (sym part.split)) in
            let y = l.0.1 in
            let vs = l.3.1 in
            let agrees = sym (append_assoc l.3.0 vs m) ∙ ap (λ (v : List T). v ++ m) (sym l.3.2) ∙ l.4 in
            let same_part = part.only l.0.0 l.3.0 (vs ++ m) n l.3.3 (follow y vs m l.3.4 follows) agrees looked in
            (y, vs, l.2 ∙ ap (λ (a : X). build (a, y)) same_part.0, l.3.4, same_part.1);
      }

      -- no text goes on inside a part of a production
      pub stuck : ((y : Y) × (w : List T) × C y w) → Stuck B Behind at after → Stuck A Follows before after
      stuck sample part = record {
        taken = so.taken ++ part.taken;
        split = so.split ∙ ap (λ (l : List T). so.taken ++ l) part.split ∙ sym (append_assoc so.taken part.taken after);
        goes_on =
            let x = part.goes_on.0 in
            let more = part.goes_on.1 in
            let whole = so.back (x, sample.0) ((part.taken ++ more) ++ sample.1) (part.taken ++ more, sample.1, refl, part.goes_on.2, sample.2) in (
              build (x, sample.0),
              more ++ sample.1,
              subst (A (build (x, sample.0))) (ap (λ (l : List T). so.taken ++ l) (append_assoc part.taken more sample.1) ∙ sym (append_assoc so.taken part.taken (more ++ sample.1))) whole,
            );
        none = λ z w m n text follows same looked.
            let l = so.forth z w m (part.taken ++ n) text follows (same ∙ append_assoc so.taken part.taken n) (first-same part.taken n after looked ∙ ap first (sym part.split)) in
            let vs = l.3.1 in
            let agrees = sym (append_assoc l.3.0 vs m) ∙ ap (λ (v : List T). v ++ m) (sym l.3.2) ∙ l.4 in
            part.none l.0.0 l.3.0 (vs ++ m) n l.3.3 (follow l.0.1 vs m l.3.4 follows) agrees looked;
      }

    module _ (build : X → Z) (so : Leaves A Follows before at build B) (follow : (m : List T) → Follows m → Behind m) where
      -- the last part of a production has been read
      pub last : (x : X) → Reached B Behind at after x → Reached A Follows before after (build x)
      last x part = record {
        taken = so.taken ++ part.taken;
        split = so.split ∙ ap (λ (l : List T). so.taken ++ l) part.split ∙ sym (append_assoc so.taken part.taken after);
        spelled = so.back x part.taken part.spelled;
        only = λ z w m n text follows same looked.
            let l = so.forth z w m (part.taken ++ n) text follows (same ∙ append_assoc so.taken part.taken n) (first-same part.taken n after looked ∙ ap first (sym part.split)) in
            let same_part = part.only l.0 l.1 m n l.3 (follow m follows) l.4 looked in
            (l.2 ∙ ap build same_part.0, same_part.1);
      }

      -- no text goes on inside the last part of a production
      pub last-stuck : Stuck B Behind at after → Stuck A Follows before after
      last-stuck part = record {
        taken = so.taken ++ part.taken;
        split = so.split ∙ ap (λ (l : List T). so.taken ++ l) part.split ∙ sym (append_assoc so.taken part.taken after);
        goes_on =
            let x = part.goes_on.0 in
            let more = part.goes_on.1 in
            (build x, more, subst (A (build x)) (sym (append_assoc so.taken part.taken more)) (so.back x (part.taken ++ more) part.goes_on.2));
        none = λ z w m n text follows same looked.
            let l = so.forth z w m (part.taken ++ n) text follows (same ∙ append_assoc so.taken part.taken n) (first-same part.taken n after looked ∙ ap first (sym part.split)) in
            part.none l.0 l.1 m n l.3 (follow m follows) l.4 looked;
      }

module _ {T P X : Type 0} (note : List T → P) (A : X → List T → Type 0) (Follows : List T → Type 0) (before after : List T) where
  -- what the tokens show is known beside the value
  pub noted : (p : P) (x : X) → (so : Reached A Follows before after x) → p ≡ note so.taken → Reached (Noted note A) Follows before after (p, x)
  noted p x so is = record {
    taken = so.taken;
    split = so.split;
    spelled = (is, so.spelled);
    only = λ y w m n text follows same looked.
        let l = so.only y.1 w m n text.1 follows same looked in
        let whole = append_cancel_right w so.taken m (same ∙ ap (λ (v : List T). so.taken ++ v) (sym l.1)) in
        (ap (λ (q : P). (q, y.1)) (text.0 ∙ ap note whole ∙ sym is) ∙ ap (λ (z : X). (p, z)) l.0, l.1);
  }

  pub noted-stuck : Stuck A Follows before after → Stuck (Noted note A) Follows before after
  noted-stuck so = record {
    taken = so.taken;
    split = so.split;
    goes_on = ((note (so.taken ++ so.goes_on.1), so.goes_on.0), so.goes_on.1, (refl, so.goes_on.2));
    none = λ y w m n text follows same looked. so.none y.1 w m n text.1 follows same looked;
  }

module _ {T X : Type 0} (A : X → List T → Type 0) (Follows : List T → Type 0) (before after : List T) (x : X) where
  -- no more is left than there was
  pub never-longer : Reached A Follows before after x → length after ≤ length before
  never-longer so = omega (arith, ap (λ (l : List T). length l) so.split, length-append so.taken after)

  -- less is left where no text of the language is empty
  pub shorter : ((y : X) (w : List T) → A y w → 0 < length w) → Reached A Follows before after x → length after < length before
  shorter some so = omega (arith, ap (λ (l : List T). length l) so.split, length-append so.taken after, some x so.taken so.spelled)

one-some : {T X : Type 0} (value : T → Option X) (x : X) (w : List T) → One value x w → 0 < length w
one-some {T} value x w text = omega (arith, ap (λ (l : List T). length l) text.1)

-- a token that was read is no longer left
pub one-shorter : {T X : Type 0} (value : T → Option X) (Follows : List T → Type 0) (before after : List T) (x : X) → Reached (One value) Follows before after x → length after < length before
one-shorter value Follows before after x so = shorter (One value) Follows before after x (one-some value) so

-- a call that hands on how a call in it failed
module _ {T X Y : Type 0} (A : X → List T → Type 0) (Follows : List T → Type 0) (before : List T) (B : Y → List T → Type 0) (Behind : List T → Type 0) (at after : List T) where
  failed-at : (fault : ReadFault) → Reads B Behind at after (Err fault) → (Stuck B Behind at after → Stuck A Follows before after) → Reads A Follows before after (Err fault)
  failed-at Syntax part whole = whole part
  failed-at NoMemory part whole = tt

  pub failed : (fault : ReadFault) (result : Result X ReadFault) → IsErrAnd result (λ e. e ≡ fault) → Reads B Behind at after (Err fault) → (Stuck B Behind at after → Stuck A Follows before after) → Reads A Follows before after result
  failed fault result is part whole =
      let p = err_from_is_err_and result is in
      subst (λ (r : Result X ReadFault). Reads A Follows before after r) (sym (p.1 ∙ ap (λ (e : ReadFault). Err e) p.2)) (failed-at fault part whole)
