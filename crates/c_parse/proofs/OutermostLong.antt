-- A token told as too many of an expression stands in one of more than 500 tokens, which stands in no other.
use Rattle.std.proofs.Common.{◌≡◌, ◌∙◌, refl, sym, ap, subst, ℕ, suc, ◌+◌, ◌-◌, ◌<◌, ◌≤◌, [], ◌∷◌, ◌++◌, length, take, Bool, true, false, append_assoc, append-nil, arith, Option, Some, None, inl, inr, length-append, length-take}
use Rattle.std.specs.Prelude.{cond, ◌&&◌}
use Rattle.std.proofs.lemmas.Bool.{false≢true, cases_lt}
use Rattle.std.proofs.lemmas.Option.{same_Some}
use Rattle.hw_text.specs.WholeLists.{GoesOn}
use Rattle.hw_text.specs.declared.place.Place.{Place}
use Rattle.c_tree.specs.declared.dialect.Dialect.TheVariants.{User}
use Rattle.c_tree.specs.declared.unit.Unit.{Unit as CUnit}
use Rattle.c_parse.specs.declared.flaw.Flaw.TheVariants.{TooLong}
use Rattle.c_parse.specs.Flaws.{begins_call, is_too_long, flaw_at}
use Rattle.c_parse.specs.Levels.{loosest_level}
use Rattle.c_parse.specs.Nesting.{opens, closes}
use Rattle.c_parse.specs.Outermost.{IsOutermost, IsTooLongAt}
use Rattle.c_parse.specs.UnitGrammar.{SpellsUnit}
use Rattle.c_parse.specs.Values.{Tokens}
use Rattle.c_parse.proofs.CallBegins.{begins_call as begins_as_call}
use Rattle.c_parse.proofs.Enclosed.{inside}
use Rattle.c_parse.proofs.EnclosedTexts.{expression-closed}
use Rattle.c_parse.proofs.Endings.{inside-deeper, front-inside}
use Rattle.c_parse.proofs.Explained.{EndsWithin, IsInOne, IsExplained, explained-at}
use Rattle.c_parse.proofs.ExplainedUnits.{unit-explained}
use Rattle.c_parse.proofs.Flawless.{flaw-of-long, flaw-too-long}
use Rattle.c_parse.proofs.LongExpressions.{too-long}
use Rattle.c_parse.proofs.TokenKinds.{none-some}
use Rattle.c_parse.proofs.Windows.{IsWindow, too-long-window, too-long-same, longer-first}
use Rattle.c_parse.proofs.Within.{is-there}

-- in the text that goes on so with these tokens, the last one is the 501st of an outermost expression
abbrev IsTooLongIn : Place → Tokens → ℕ → Tokens → Type 0
IsTooLongIn end ts i more = (us es vs : Tokens) × IsOutermost end us es vs × (us ++ (es ++ vs) ≡ take (i + 1) ts ++ more) × (length us + 500 ≡ i) × (500 < length es)

-- 501 tokens that end nothing, and more behind them
module _ (own more : Tokens) (deep : ℕ) (inner : inside 0 own ≡ Some deep) (many : length own ≡ 501) where
  -- are no text that ends soon
  not-ended : EndsWithin 501 (own ++ more) → ⊥
  not-ended soon =
      let us = soon.0 in
      let front = longer-first us soon.1 own more (sym soon.2) (omega (arith, soon.4, many)) in
      let known = front-inside us (take (length own - length us) soon.1) 0 deep (sym (ap (inside 0) front) ∙ inner) in
      none-some known.0 (sym soon.3 ∙ known.1)

  not-call : begins_call own ≡ false → begins_as_call (own ++ more) ≡ true → ⊥
  not-call none there = by own refl none there
    where
      by : (ts : Tokens) → own ≡ ts → begins_call ts ≡ false → begins_as_call (ts ++ more) ≡ true → ⊥
      by [] is none there = omega (arith, many, ap {B = ℕ} (λ (l : Tokens). length l) is)
      by (t ∷ []) is none there = omega (arith, many, ap {B = ℕ} (λ (l : Tokens). length l) is)
      by (t ∷ u ∷ ts) is none there = false≢true (sym none ∙ there)

  -- and go no further than an outermost expression that holds their first
  module _ (b : Tokens) (o : IsInOne b (own ++ more)) where
    abbrev all : Tokens
    all = o.had ++ o.more

    closed : inside 0 all ≡ Some 0
    closed = expression-closed User loosest_level o.value all o.text 0

    no-end-behind : (n e : ℕ) → inside 0 (o.more ++ o.ended.0 ∷ take n o.ended.1) ≡ Some e → ⊥
    no-end-behind n e is =
        let t = o.ended.0 in
        let known = front-inside o.more (t ∷ take n o.ended.1) 0 e is in
        let parts = front-inside o.had o.more 0 0 closed in
        let deeper = inside-deeper o.more 0 parts.0 known.0 known.1 in
        let at_end : known.0 + parts.0 ≡ 0 = same_Some (known.0 + parts.0) 0 (sym deeper ∙ ap (λ (m : ℕ). inside m o.more) (omega arith) ∙ parts.2) in
        let level : known.0 ≡ 0 = omega (arith, at_end) in
        let ends_here : inside 0 (t ∷ take n o.ended.1) ≡ None =
        ap {B = Option ℕ} (λ (b : Bool). cond (b && true) None (inside ((0 + cond (opens t.token) 1 0) - cond (closes t.token) 1 0) (take n o.ended.1))) o.ended.3 in
        none-some e (sym ends_here ∙ ap (λ (m : ℕ). inside m (t ∷ take n o.ended.1)) (sym level) ∙ known.2)

    pub within : 501 ≤ length o.more
    within = elim (cases_lt (length o.more) 501) [
      | inr long ↦ long
      | inl short ↦
          let split = longer-first o.more o.rest own more (sym o.after_is) (omega (arith, short, many)) in
          let count : length own - length o.more ≡ suc (500 - length o.more) = omega (arith, short, many) in
          let shown : own ≡ o.more ++ o.ended.0 ∷ take (500 - length o.more) o.ended.1 =
          split ∙ ap (λ (n : ℕ). o.more ++ take n o.rest) count ∙ ap (λ (l : Tokens). o.more ++ take (suc (500 - length o.more)) l) o.ended.2 in
          absurd (no-end-behind (500 - length o.more) deep (sym (ap (inside 0) shown) ∙ inner))
    ]

module _ (end : Place) (ts : Tokens) (i : ℕ) (u : CUnit) (more : Tokens) (text : SpellsUnit User end u (take (i + 1) ts ++ more)) (sound : (k : ℕ) → k < i → flaw_at User ts k ≡ None) (w : IsWindow ts i) where
  shape : take (i + 1) ts ++ more ≡ w.first ++ w.lead ∷ (w.own ++ more)
  shape = ap (λ (l : Tokens). l ++ more) w.split ∙ append_assoc w.first (w.lead ∷ w.own) more

  -- an outermost expression goes on between the window's first token and its second, or begins there
  module _ (o : IsInOne (w.first ++ w.lead ∷ []) (w.own ++ more)) where
    abbrev tokens : Tokens
    tokens = o.had ++ o.more

    joined : o.start ++ (tokens ++ o.rest) ≡ take (i + 1) ts ++ more
    joined =
        ap (λ (l : Tokens). o.start ++ l) (append_assoc o.had o.more o.rest) ∙ sym (append_assoc o.start o.had (o.more ++ o.rest)) ∙
        ap (λ (l : Tokens). l ++ (o.more ++ o.rest)) (sym o.before_is) ∙ ap (λ (l : Tokens). (w.first ++ w.lead ∷ []) ++ l) (sym o.after_is) ∙
        append_assoc w.first (w.lead ∷ []) (w.own ++ more) ∙ sym shape

    counted : length w.first + 1 ≡ length o.start + length o.had
    counted = omega (arith, ap {B = ℕ} (λ (l : Tokens). length l) o.before_is, length-append w.first (w.lead ∷ []), length-append o.start o.had)

    enough : 500 < length tokens
    enough = omega (arith, length-append o.had o.more, within w.own more w.deep w.inner w.many (w.first ++ w.lead ∷ []) o)

    -- it begins there, since an earlier one would have been told
    begins-there : length o.had ≡ 0
    begins-there = by o.had refl
      where
        by : (had : Tokens) → o.had ≡ had → length o.had ≡ 0
        by [] is = ap {B = ℕ} (λ (l : Tokens). length l) is
        by (h ∷ hs) is =
            let us = o.led.0 in
            let t = o.led.1 in
            let before_it : length o.start ≡ length us + 1 = ap {B = ℕ} (λ (l : Tokens). length l) o.led.2 ∙ length-append us (t ∷ []) ∙ omega arith in
            let some : length o.had ≡ length hs + 1 = ap {B = ℕ} (λ (l : Tokens). length l) is ∙ omega arith in
            let earlier : length us + 501 < i = omega (arith, before_it, some, counted, w.at) in
            let whole : take (i + 1) ts ++ more ≡ us ++ t ∷ (tokens ++ o.rest) = sym joined ∙ ap (λ (l : Tokens). l ++ (tokens ++ o.rest)) o.led.2 ∙ append_assoc us (t ∷ []) (tokens ++ o.rest) in
            let size : length (take (i + 1) ts) ≡ i + 1 = ap {B = ℕ} (λ (l : Tokens). length l) w.split ∙ length-append w.first (w.lead ∷ w.own) ∙ omega (arith, w.many, w.at) in
            let there : i < length ts = omega (arith, size, length-take (i + 1) ts) in
            let long = sym (too-long-same ts more i (length us + 501) (omega (arith, earlier)) there) ∙ ap (λ (l : Tokens). is_too_long l (length us + 501)) whole ∙ too-long tokens o.value o.text us o.rest t o.led.3 enough in
            absurd (flaw-of-long ts (length us + 501) long (sound (length us + 501) earlier))

    outermost : IsTooLongIn end ts i more
    outermost = (
      o.start,
      tokens,
      o.rest,
      (u, subst (SpellsUnit User end u) (sym joined) text, is-there o.start tokens o.rest o.there),
      joined,
      omega (arith, counted, begins-there, w.at),
      enough,
    )

  told : IsTooLongIn end ts i more
  told =
      let spelled = subst (SpellsUnit User end u) shape text in
      let all_of = unit-explained end u (w.first ++ w.lead ∷ (w.own ++ more)) spelled in
      let known = subst (IsExplained (w.first ++ w.lead ∷ [])) (append-nil (w.own ++ more)) (explained-at w.first w.lead (w.own ++ more) [] [] all_of w.leading) in
      elim known [
        | inl soon ↦ absurd (not-ended w.own more w.deep w.inner w.many soon)
        | inr (inl call) ↦ absurd (not-call w.own more w.deep w.inner w.many w.no_call call)
        | inr (inr o) ↦ outermost o
      ]

-- what is told as too long, in this text
pub too-long-in : (ts : Tokens) (i : ℕ) (end : Place) (u : CUnit) (more : Tokens) → SpellsUnit User end u (take (i + 1) ts ++ more) → ((k : ℕ) → k < i → flaw_at User ts k ≡ None) → is_too_long ts i ≡ true → IsTooLongIn end ts i more
too-long-in ts i end u more text sound long = told end ts i u more text sound (too-long-window ts i long)

pub refused : (ts : Tokens) (i : ℕ) (end : Place) → GoesOn (SpellsUnit User end) (take (i + 1) ts) → flaw_at User ts i ≡ Some TooLong → ((k : ℕ) → k < i → flaw_at User ts k ≡ None) → IsTooLongAt end ts i
refused ts i end goes long sound =
    let found = too-long-in ts i end goes.0 goes.1 goes.2 sound (flaw-too-long ts i long) in
    (found.0, found.1, found.2, goes.1, found.3, found.4, found.5, found.6)
