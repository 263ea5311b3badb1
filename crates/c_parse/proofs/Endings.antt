-- Tokens that all belong to an expression that begins with them, and those that do within more brackets.
use Rattle.std.proofs.Common.{◌≡◌, ◌∙◌, refl, sym, ap, ℕ, zero, suc, ◌+◌, ◌-◌, ◌<◌, ◌≤◌, [], ◌∷◌, ◌++◌, length, Bool, true, false, ◌&&◌, ◌==◌, arith, Option, Some, None}
use Rattle.std.specs.Prelude.{cond}
use Rattle.std.proofs.Math.Dec.{eqb-suc-zero}
use Rattle.std.specs.Option.{option_and_then}
use Rattle.std.proofs.lemmas.Bool.{false≢true}
use Rattle.std.proofs.lemmas.Option.{same_Some}
use Rattle.c_parse.specs.declared.token.Token.{Token}
use Rattle.c_parse.specs.Nesting.{opens, closes, ends, open_behind, expression_length}
use Rattle.c_parse.specs.Values.{Tokens}
use Rattle.c_parse.proofs.Enclosed.{inside, inside-append}
use Rattle.c_parse.proofs.LongExpressions.{opened, shut, one-more, closing-level}
use Rattle.c_parse.proofs.Prefixes.{left, left-all}
use Rattle.c_parse.proofs.TokenKinds.{none-some}

-- where an expression ends in tokens, not all of them are its own
pub left-short : (us ts : Tokens) (d : ℕ) → shut us + d ≡ opened us → inside d ts ≡ None → left us ts < length ts
left-short us [] d level ended = absurd (none-some d (sym ended))
left-short us (t ∷ ts) d level ended = by (ends t.token && (d == 0)) refl (λ stands more. left-short (us ++ t ∷ []) ts ((d + cond (opens t.token) 1 0) - cond (closes t.token) 1 0) stands more)
  where
    here : open_behind us ≡ d
    here = omega (arith, level)

    by : (b : Bool) → (ends t.token && (d == 0)) ≡ b → (shut (us ++ t ∷ []) + ((d + cond (opens t.token) 1 0) - cond (closes t.token) 1 0) ≡ opened (us ++ t ∷ []) → inside ((d + cond (opens t.token) 1 0) - cond (closes t.token) 1 0) ts ≡ None → left (us ++ t ∷ []) ts < length ts) → left us (t ∷ ts) < length (t ∷ ts)
    by true so more =
        let none : left us (t ∷ ts) ≡ 0 = ap {B = ℕ} (λ (b : Bool). cond b 0 (1 + left (us ++ t ∷ []) ts)) (ap (λ (n : ℕ). ends t.token && (n == 0)) here ∙ so) in
        omega (arith, none)
    by false so more =
        let fits = closing-level t.token d so in
        let counted : left us (t ∷ ts) ≡ 1 + left (us ++ t ∷ []) ts = ap {B = ℕ} (λ (b : Bool). cond b 0 (1 + left (us ++ t ∷ []) ts)) (ap (λ (n : ℕ). ends t.token && (n == 0)) here ∙ so) in
        let stands : shut (us ++ t ∷ []) + ((d + cond (opens t.token) 1 0) - cond (closes t.token) 1 0) ≡ opened (us ++ t ∷ []) =
        omega (arith, level, fits, one-more (λ u. opens u.token) us t, one-more (λ u. closes u.token) us t) in
        let later = more stands (sym (ap {B = Option ℕ} (λ (b : Bool). cond b None (inside ((d + cond (opens t.token) 1 0) - cond (closes t.token) 1 0) ts)) so) ∙ ended) in
        omega (arith, counted, later)

-- tokens that are all its own end it nowhere
pub all-inside : (ts : Tokens) → length ts ≤ expression_length ts → (e : ℕ) × (inside 0 ts ≡ Some e)
all-inside ts all = by (inside 0 ts) refl
  where
    by : (o : Option ℕ) → inside 0 ts ≡ o → (e : ℕ) × (inside 0 ts ≡ Some e)
    by None is = absurd (omega (arith, all, left-all ts, left-short [] ts 0 refl is))
    by (Some e) is = (e, is)

ended-deeper : (t : Token) (c d : ℕ) → (ends t && (c == 0)) ≡ false → (ends t && (c + d == 0)) ≡ false
ended-deeper t c d so = by (ends t) refl c so
  where
    by : (b : Bool) → ends t ≡ b → (c : ℕ) → (ends t && (c == 0)) ≡ false → (ends t && (c + d == 0)) ≡ false
    by false is c so = ap (λ (b : Bool). b && (c + d == 0)) is
    by true is zero so = absurd (false≢true (sym so ∙ ap (λ (b : Bool). b && true) is))
    by true is (suc c) so = ap (λ (b : Bool). b && (suc c + d == 0)) is ∙ ap (λ (n : ℕ). n == 0) (deeper c) ∙ eqb-suc-zero (c + d)
      where
        deeper : (c : ℕ) → suc c + d ≡ suc (c + d)
        deeper c = omega arith

-- what ends nothing ends nothing within more brackets
pub inside-deeper : (ts : Tokens) (c d e : ℕ) → inside c ts ≡ Some e → inside (c + d) ts ≡ Some (e + d)
inside-deeper [] c d e is = ap (λ (n : ℕ). Some (n + d)) (same_Some c e is)
inside-deeper (t ∷ ts) c d e is =
    by (ends t.token && (c == 0)) refl (λ more. inside-deeper ts ((c + cond (opens t.token) 1 0) - cond (closes t.token) 1 0) d e more)
  where
    by : (b : Bool) → (ends t.token && (c == 0)) ≡ b → (inside ((c + cond (opens t.token) 1 0) - cond (closes t.token) 1 0) ts ≡ Some e → inside (((c + cond (opens t.token) 1 0) - cond (closes t.token) 1 0) + d) ts ≡ Some (e + d)) → inside (c + d) (t ∷ ts) ≡ Some (e + d)
    by true so more = absurd (none-some e (sym (ap {B = Option ℕ} (λ (b : Bool). cond b None (inside ((c + cond (opens t.token) 1 0) - cond (closes t.token) 1 0) ts)) so) ∙ is))
    by false so more =
        let fits = closing-level t.token c so in
        let further : ((c + d) + cond (opens t.token) 1 0) - cond (closes t.token) 1 0 ≡ ((c + cond (opens t.token) 1 0) - cond (closes t.token) 1 0) + d = omega (arith, fits) in
        ap {B = Option ℕ} (λ (b : Bool). cond b None (inside (((c + d) + cond (opens t.token) 1 0) - cond (closes t.token) 1 0) ts)) (ended-deeper t.token c d so) ∙
        ap (λ (n : ℕ). inside n ts) further ∙ more (sym (ap {B = Option ℕ} (λ (b : Bool). cond b None (inside ((c + cond (opens t.token) 1 0) - cond (closes t.token) 1 0) ts)) so) ∙ is)

-- the first tokens of those that end nothing end nothing
pub front-inside : (us vs : Tokens) (d e : ℕ) → inside d (us ++ vs) ≡ Some e → (c : ℕ) × (inside d us ≡ Some c) × (inside c vs ≡ Some e)
front-inside us vs d e is = by (inside d us) refl
  where
    joined : option_and_then (λ c. inside c vs) (inside d us) ≡ Some e
    joined = sym (inside-append us vs d) ∙ is

    by : (o : Option ℕ) → inside d us ≡ o → (c : ℕ) × (inside d us ≡ Some c) × (inside c vs ≡ Some e)
    by None so = absurd (none-some e (sym (ap (option_and_then (λ c. inside c vs)) so) ∙ joined))
    by (Some c) so = (c, so, sym (ap (option_and_then (λ c. inside c vs)) so) ∙ joined)
