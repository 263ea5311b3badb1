-- Counts of brackets one token further, and how far an expression goes, told token by token.
use Rattle.std.proofs.Common.{◌≡◌, ◌<◌, ◌≤◌, ℕ, suc, ◌+◌, ◌-◌, Bool, true, false, [], ◌∷◌, ◌++◌, length, get_or, take, drop, refl, sym, ap, ◌∙◌, arith, add-one, append_assoc, length-append}
use Rattle.std.specs.Prelude.{not, cond, count_by, ◌==◌, ◌&&◌}
use Rattle.std.specs.List.{enumerate_from, position_or_len}
use Rattle.std.proofs.Math.ListN.{drop_of_length-le}
use Rattle.std.proofs.Math.Seq.{take-append_seam, take-suc, drop-cons as drop-suc}
use Rattle.std.proofs.lemmas.List.Sums.{count_by_more_yes, count_by_more_no}
use Rattle.hw_text.specs.declared.placed.Placed.{Placed}
use Rattle.c_parse.specs.declared.token.Token.{Token}
use Rattle.c_parse.specs.Nesting.{opens, closes, ends, ends_before, expression_length}
use Rattle.c_parse.specs.Values.{Tokens}

pub count-more : (p : Placed Token → Bool) (ts : Tokens) (i : ℕ) (t : Placed Token) → i < length ts → t ≡ get_or ts i t → count_by p (take (i + 1) ts) ≡ count_by p (take i ts) + cond (p t) 1 0
count-more p ts i t within here = by (p t) refl
  where
    by : (b : Bool) → p t ≡ b → count_by p (take (i + 1) ts) ≡ count_by p (take i ts) + cond (p t) 1 0
    by true so = count_by_more_yes p ts i t within (ap p (sym here) ∙ so) ∙ ap {B = ℕ} (λ (b : Bool). count_by p (take i ts) + cond b 1 0) (sym so)
    by false so = count_by_more_no p ts i t within (ap p (sym here) ∙ so) ∙ omega (arith, ap {B = ℕ} (λ (b : Bool). cond b 1 0) so)

-- how many tokens more an expression has that has some so far
abbrev pub left : Tokens → Tokens → ℕ
left before [] = 0
left before (t ∷ ts) = cond (ends_before before t) 0 (1 + left (before ++ t ∷ []) ts)

-- where an expression ends in these tokens, or their number, the first of them being so far from the beginning
first_end : Tokens → ℕ → Tokens → ℕ
first_end all n ts = position_or_len (λ p. ends_before (take p.0 all) p.1) (enumerate_from n ts)

first-end : (us ts all : Tokens) → all ≡ us ++ ts → first_end all (length us) ts ≡ left us ts
unfolding first_end
first-end us [] all is = refl
first-end us (t ∷ ts) all is =
    by
    (ap (λ (n : ℕ). first_end all n ts) (sym (length-append us (t ∷ []))) ∙ first-end (us ++ t ∷ []) ts all (is ∙ sym (append_assoc us (t ∷ []) ts)))
    (ends_before us t) refl
  where
    front : take (length us) all ≡ us
    front = ap (take (length us)) is ∙ take-append_seam us (t ∷ ts)

    by : first_end all (length us + 1) ts ≡ left (us ++ t ∷ []) ts → (b : Bool) → ends_before us t ≡ b → first_end all (length us) (t ∷ ts) ≡ left us (t ∷ ts)
    by more true so =
        ap {B = ℕ} (λ (b : Bool). cond (not b) (1 + first_end all (length us + 1) ts) 0) (ap (λ (w : Tokens). ends_before w t) front ∙ so) ∙
        sym (ap {B = ℕ} (λ (b : Bool). cond b 0 (1 + left (us ++ t ∷ []) ts)) so)
    by more false so =
        ap {B = ℕ} (λ (b : Bool). cond (not b) (1 + first_end all (length us + 1) ts) 0) (ap (λ (w : Tokens). ends_before w t) front ∙ so) ∙
        ap {B = ℕ} (λ (n : ℕ). 1 + n) more ∙ sym (ap {B = ℕ} (λ (b : Bool). cond b 0 (1 + left (us ++ t ∷ []) ts)) so)

pub left-all : (ts : Tokens) → left [] ts ≡ expression_length ts
unfolding first_end expression_length
left-all ts = sym (first-end [] ts ts refl)

left-here : (ts : Tokens) (i : ℕ) (t : Placed Token) (b : Bool) → i < length ts → t ≡ get_or ts i t → ends_before (take i ts) t ≡ b → left (take i ts) (drop i ts) ≡ cond b 0 (1 + left (take (i + 1) ts) (drop (i + 1) ts))
left-here ts i t b within here so =
    let next : drop i ts ≡ t ∷ drop (i + 1) ts = drop-suc ts i t within ∙ ap (λ (x : Placed Token). x ∷ drop (suc i) ts) (sym here) ∙ ap (λ (n : ℕ). t ∷ drop n ts) (sym (add-one i)) in
    let front : take (i + 1) ts ≡ take i ts ++ t ∷ [] = ap (λ (n : ℕ). take n ts) (add-one i) ∙ take-suc ts i t within ∙ ap (λ (x : Placed Token). take i ts ++ x ∷ []) (sym here) in
    ap (left (take i ts)) next ∙ ap {B = ℕ} (λ (c : Bool). cond c 0 (1 + left (take i ts ++ t ∷ []) (drop (i + 1) ts))) so ∙
    ap {B = ℕ} (λ (w : Tokens). cond b 0 (1 + left w (drop (i + 1) ts))) (sym front)

pub left-end : (ts : Tokens) (i : ℕ) (t : Placed Token) → i < length ts → t ≡ get_or ts i t → ends_before (take i ts) t ≡ true → left (take i ts) (drop i ts) ≡ 0
left-end ts i t within here so = left-here ts i t true within here so

pub left-more : (ts : Tokens) (i : ℕ) (t : Placed Token) → i < length ts → t ≡ get_or ts i t → ends_before (take i ts) t ≡ false → left (take i ts) (drop i ts) ≡ 1 + left (take (i + 1) ts) (drop (i + 1) ts)
left-more ts i t within here so = left-here ts i t false within here so

pub left-none : (ts : Tokens) (i : ℕ) → length ts ≤ i → left (take i ts) (drop i ts) ≡ 0
left-none ts i past = ap (left (take i ts)) (drop_of_length-le ts past)

-- whether an expression ends there, told by the counts of brackets
pub ends-counted : (ts : Tokens) (t : Placed Token) (opened closed : ℕ) (b : Bool) → opened ≡ count_by (λ u. opens u.token) ts → closed ≡ count_by (λ u. closes u.token) ts → b ≡ (ends t.token && (opened - closed == 0)) → ends_before ts t ≡ b
ends-counted ts t opened closed b o c is = ap (λ (n : ℕ). ends t.token && (n - count_by (λ u. closes u.token) ts == 0)) (sym o) ∙ ap (λ (n : ℕ). ends t.token && (opened - n == 0)) (sym c) ∙ sym is

left-le : (before ts : Tokens) → left before ts ≤ length ts
left-le before [] = omega arith
left-le before (t ∷ ts) = by (ends_before before t) (left-le (before ++ t ∷ []) ts)
  where
    by : (b : Bool) → left (before ++ t ∷ []) ts ≤ length ts → cond b 0 (1 + left (before ++ t ∷ []) ts) ≤ length (t ∷ ts)
    by true le = omega arith
    by false le = omega (arith, le)

pub expression-le : (ts : Tokens) → expression_length ts ≤ length ts
expression-le ts = omega (arith, left-le [] ts, left-all ts)
