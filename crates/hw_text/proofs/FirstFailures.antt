-- From what a whole list of tokens is, or the front of it up to a flaw, to the failure in a text.
use Rattle.std.proofs.Common.{◌≡◌, ◌∙◌, refl, sym, ap, subst, ℕ, ◌+◌, ◌<◌, ◌≤◌, List, [], length, length-take, take, take-take, append-nil, arith, Some, None, inl, inr}
use Rattle.hw_text.specs.declared.place.Place.{Place}
use Rattle.hw_text.specs.declared.refusal.Refusal.{Refusal}
use Rattle.hw_text.specs.declared.whole.Whole.{Whole}
use Rattle.hw_text.specs.declared.whole.Whole.TheVariants as whole
use Rattle.hw_text.specs.WholeLists.{GoesOn, GoesNoFurther, IsWhole, passed_in}
use Rattle.hw_text.specs.WholeTexts.{Rules, FailsAt}
use Rattle.hw_text.proofs.Verdicts.{earlier, text-goes-on}

module _ {T S X : Type 0} (rules : Rules T S X) (ts : List T) (end : Place) (stop : S) where
  -- no text goes on behind so many tokens, all of them as they should
  pub sound-stuck : (i : ℕ) → ((k : ℕ) → rules.flaw ts k ≡ None) → GoesNoFurther (rules.spelled end) ts i → FailsAt rules ts end stop i (rules.unexpected ts end stop i)
  sound-stuck i sound so = record {
    within = so.within;
    goes_on = so.goes_on;
    sound = λ k below. sound k;
    fails = inl (record { no_further = so.no_further; no_text = λ all ended x text. so.no_text all x text }, refl);
  }

  -- a text stands there, but it does not end with its tokens
  pub text-stopped : (x : X) → ((k : ℕ) → rules.flaw ts k ≡ None) → rules.spelled end x ts → (rules.whole stop → ⊥) → FailsAt rules ts end stop (length ts) (rules.unexpected ts end stop (length ts))
  text-stopped x sound text goes_on = record {
    within = omega arith;
    goes_on = text-goes-on (rules.spelled end) ts x text (length ts);
    sound = λ k below. sound k;
    fails = inl (record { no_further = λ below goes. absurd (omega (arith, below)); no_text = λ all ended y other. goes_on ended }, refl);
  }

  module _ (n : ℕ) (inside : n < length ts) (sound : (k : ℕ) → k < n → rules.flaw ts k ≡ None) where
    within : (i : ℕ) → i ≤ n + 1 → take i (take (n + 1) ts) ≡ take i ts
    within i below = take-take i (n + 1) ts below

    cut-length : length (take (n + 1) ts) ≡ n + 1
    cut-length = omega (arith, length-take (n + 1) ts, inside)

    -- no text goes on before the flaw
    cut-stuck : (i : ℕ) → i ≤ n → GoesNoFurther (rules.spelled end) (take (n + 1) ts) i → FailsAt rules ts end stop i (rules.unexpected ts end stop i)
    cut-stuck i below so = record {
      within = omega (arith, below, inside);
      goes_on = subst (GoesOn (rules.spelled end)) (within i (omega (arith, below))) so.goes_on;
      sound = λ k less. sound k (omega (arith, less, below));
      fails = inl (
        record {
          no_further = λ less goes. so.no_further (omega (arith, below, cut-length)) (subst (GoesOn (rules.spelled end)) (sym (within (i + 1) (omega (arith, below)))) goes);
          no_text = λ all ended x text. absurd (omega (arith, all, below, inside));
        },
        refl,
      );
    }

    -- a text goes on with the token that has a flaw
    flawed-there : (r : Refusal) → rules.flaw ts n ≡ Some r → GoesOn (rules.spelled end) (take (n + 1) ts) → FailsAt rules ts end stop n r
    flawed-there r told goes = record {
      within = omega (arith, inside);
      goes_on = earlier (rules.spelled end) ts n (n + 1) (omega arith) goes;
      sound = sound;
      fails = inr (record { within = inside; goes_on = goes; told = told });
    }

    module _ (cut : List T) (is_cut : cut ≡ take (n + 1) ts) (w : Whole X) (said : IsWhole (rules.spelled end) cut w) where
      length-cut : length cut ≡ n + 1
      length-cut = ap (λ (l : List T). length l) is_cut ∙ cut-length

      -- the tokens up to the flaw go on no further than to a token before it
      pub told-before : (i : ℕ) → i ≡ passed_in (length cut) w → i ≤ n → FailsAt rules ts end stop i (rules.unexpected ts end stop i)
      told-before i passed below = by w refl
        where
          by : (v : Whole X) → w ≡ v → FailsAt rules ts end stop i (rules.unexpected ts end stop i)
          by (whole.Text x) at = absurd (omega (arith, below, passed ∙ ap (passed_in (length cut)) at, length-cut))
          by (whole.Stuck k) at =
              let here : GoesNoFurther (rules.spelled end) cut k = subst (IsWhole (rules.spelled end) cut) at said in
              let same : i ≡ k = passed ∙ ap (passed_in (length cut)) at in
              cut-stuck i below (subst (λ (m : ℕ). GoesNoFurther (rules.spelled end) (take (n + 1) ts) m) (sym same) (subst (λ (l : List T). GoesNoFurther (rules.spelled end) l k) is_cut here))

      -- they go on with the token that has the flaw
      pub told-behind : (r : Refusal) → rules.flaw ts n ≡ Some r → n < passed_in (length cut) w → FailsAt rules ts end stop n r
      told-behind r told above = flawed-there r told (by w refl)
        where
          by : (v : Whole X) → w ≡ v → GoesOn (rules.spelled end) (take (n + 1) ts)
          by (whole.Text x) at =
              let here = subst (IsWhole (rules.spelled end) cut) at said in
              (x, [], subst (rules.spelled end x) (is_cut ∙ sym (append-nil (take (n + 1) ts))) here.0)
          by (whole.Stuck k) at =
              let here : GoesNoFurther (rules.spelled end) cut k = subst (IsWhole (rules.spelled end) cut) at said in
              let last : k ≡ n + 1 = omega (arith, above, ap (passed_in (length cut)) at, here.within, length-cut) in
              subst (GoesOn (rules.spelled end)) (ap (λ (m : ℕ). take m cut) last ∙ ap (take (n + 1)) is_cut ∙ within (n + 1) (omega arith)) here.goes_on
