-- Nothing is wrong with the canonical tokens of a unit within the limits, wherever they stand.
use Rattle.std.proofs.Common.{◌≡◌, ◌∙◌, refl, sym, ap, subst, ℕ, ◌+◌, ◌-◌, ◌<◌, ◌≤◌, suc, zero, Bool, true, false, List, [], ◌∷◌, ◌++◌, length, take, drop, get_or, Option, Some, None, inl, inr, arith}
use Rattle.std.specs.Prelude.{cond, count_by, nat_le, slice_get, fold}
use Rattle.std.specs.Option.{option_map_or}
use Rattle.std.proofs.lemmas.Bool.{and_parts, leb-true, false≢true}
use Rattle.std.proofs.lemmas.List.{take-map, take-append-drop}
use Rattle.std.proofs.lemmas.Option.{slice_get_cases}
use Rattle.hw_text.specs.declared.place.Place.{Place}
use Rattle.hw_text.specs.declared.placed.Placed.{Placed}
use Rattle.c_tree.specs.declared.dialect.Dialect.TheVariants.{User, Full}
use Rattle.c_tree.specs.declared.unit.Unit.{Unit as CUnit}
use Rattle.c_parse.specs.declared.mark.Mark.TheVariants as mark
use Rattle.c_parse.specs.declared.token.Token.{Token}
use Rattle.c_parse.specs.declared.token.Token.TheVariants as token
use Rattle.c_parse.specs.Flaws.{is_too_deep, is_too_long, flaw_at}
use Rattle.c_parse.specs.Nesting.{opens, closes, brackets_open, open_behind}
use Rattle.c_parse.specs.Printed.{IsWithinLimits}
use Rattle.c_parse.specs.PrintedUnits.{unit_tokens}
use Rattle.c_parse.specs.RangeEnds.{empty_range_at}
use Rattle.c_parse.specs.UnitGrammar.{SpellsUnit}
use Rattle.c_parse.specs.Values.{Tokens}
use Rattle.c_parse.proofs.ClearRanges.{Clear}
use Rattle.c_parse.proofs.Flawless.{full-flawless, user-flawless}
use Rattle.c_parse.proofs.OutermostLong.{too-long-in}
use Rattle.c_parse.proofs.Prefixes.{count-more}
use Rattle.c_parse.proofs.RangeLaws.{range-at}
use Rattle.c_parse.proofs.SoundTokens.{tokens_of}

no-empty : (ts : Tokens) → Clear ts → (k : ℕ) → empty_range_at ts k ≡ None
no-empty ts clear k = by (empty_range_at ts k) refl
  where
    by : (o : Option Place) → empty_range_at ts k ≡ o → empty_range_at ts k ≡ None
    by None is = is
    by (Some at) is = absurd (clear.none k at (range-at ts k at is))

-- nothing is wrong in the full grammar but empty ranges
pub full-sound : (ts : Tokens) → Clear ts → (k : ℕ) → flaw_at Full ts k ≡ None
full-sound ts clear k = full-flawless ts k (no-empty ts clear k)

counts-on : (p : Token → Bool) (n : ℕ) (ts : Tokens) → fold (λ a x. a + cond (p x) 1 0) n (tokens_of ts) ≡ fold (λ a t. a + cond (p t.token) 1 0) n ts
counts-on p n [] = refl
counts-on p n (t ∷ ts) = counts-on p (n + cond (p t.token) 1 0) ts

same-open : (ts : Tokens) (k : ℕ) → brackets_open (take k (tokens_of ts)) ≡ open_behind (take k ts)
same-open ts k =
    ap brackets_open (take-map (λ t. t.token) k ts) ∙
    ap (λ (n : ℕ). n - count_by closes (tokens_of (take k ts))) (counts-on opens 0 (take k ts)) ∙
    ap (λ (n : ℕ). count_by (λ t. opens t.token) (take k ts) - n) (counts-on closes 0 (take k ts))

-- what opens a bracket closes none
no-closing : (t : Token) → opens t ≡ true → closes t ≡ false
no-closing (token.Mark mark.OpenParenthesis) is = refl
no-closing (token.Mark mark.OpenBracket) is = refl
no-closing (token.Mark mark.OpenBrace) is = refl
no-closing _ is = absurd (false≢true is)

deeper : (ts : Tokens) (i : ℕ) (t : Placed Token) → i < length ts → t ≡ get_or ts i t → opens t.token ≡ true → 64 ≤ open_behind (take i ts) → 64 < open_behind (take (i + 1) ts)
deeper ts i t within here opening deep =
    let opened = count-more (λ u. opens u.token) ts i t within here in
    let closed = count-more (λ u. closes u.token) ts i t within here in
    let one = ap {B = ℕ} (λ (b : Bool). cond b 1 0) opening in
    let none = ap {B = ℕ} (λ (b : Bool). cond b 1 0) (no-closing t.token opening) in
    omega (arith, opened, closed, one, none, deep)

too-deep : (ts : Tokens) (i : ℕ) → is_too_deep ts i ≡ true → 64 < open_behind (take (i + 1) ts)
too-deep ts i is =
    let parts = and_parts (option_map_or (λ t. opens t.token) (slice_get ts i) false) (nat_le 64 (open_behind (take i ts))) is in
    elim (slice_get_cases ts i).1 [
      | inl (t, within, there, here) ↦
          deeper ts i t within (sym here) (sym (ap (λ (o : Option (Placed Token)). option_map_or (λ u. opens u.token) o false) there) ∙ parts.0) (leb-true 64 (open_behind (take i ts)) parts.1)
      | inr (past, nothing) ↦ absurd (false≢true (sym (ap (λ (o : Option (Placed Token)). option_map_or (λ u. opens u.token) o false) nothing) ∙ parts.0))
    ]

not-true-so : (b : Bool) → (b ≡ true → ⊥) → b ≡ false
not-true-so false never = refl
not-true-so true never = absurd (never refl)

module _ (u q : CUnit) (end : Place) (ts : Tokens) (same : tokens_of ts ≡ unit_tokens u) (clear : Clear ts) (limits : IsWithinLimits u) (text : SpellsUnit User end q ts) where
  shallow : (k : ℕ) → is_too_deep ts k ≡ false
  shallow k = not-true-so (is_too_deep ts k) (λ is.
      let deep = too-deep ts k is in
      let bound = limits.brackets (k + 1) in
      let count = ap (λ (l : List Token). brackets_open (take (k + 1) l)) (sym same) ∙ same-open ts (k + 1) in
      absurd (omega (arith, deep, bound, count)))

  short : (k : ℕ) → ((j : ℕ) → j < k → flaw_at User ts j ≡ None) → is_too_long ts k ≡ false
  short k sound = not-true-so (is_too_long ts k) (λ is.
      let whole : take (k + 1) ts ++ drop (k + 1) ts ≡ ts = take-append-drop (k + 1) ts in
      let found = too-long-in ts k end q (drop (k + 1) ts) (subst (λ (l : Tokens). SpellsUnit User end q l) (sym whole) text) sound is in
      let bound = limits.expressions end found.0 found.1 found.2 (ap tokens_of (found.4 ∙ whole) ∙ same) found.3 in
      absurd (omega (arith, bound, found.6)))

  below : (n k : ℕ) → k < n → flaw_at User ts k ≡ None
  below zero k less = absurd (omega (arith, less))
  below (suc n) k less = user-flawless ts k (shallow k) (short k (λ j before. below n j (omega (arith, before, less)))) (no-empty ts clear k)

  pub user-sound : (k : ℕ) → flaw_at User ts k ≡ None
  user-sound k = below (suc k) k (omega arith)
