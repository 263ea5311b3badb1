-- The window by which a token is told as one too many of an expression.
use Rattle.std.proofs.Common.{◌≡◌, ◌∙◌, refl, sym, ap, ℕ, ◌+◌, ◌-◌, ◌<◌, ◌≤◌, [], ◌∷◌, ◌++◌, length, take, drop, Bool, true, false, ◌&&◌, arith, Some, inl, inr, length-take, length-drop}
use Rattle.std.specs.Prelude.{not, nat_lt}
use Rattle.std.proofs.Math.Seq.{take-append-add, take-append_seam}
use Rattle.std.proofs.lemmas.Bool.{false≢true, le-ltb, cases_lt}
use Rattle.std.proofs.lemmas.List.{take-append-drop, take-append-le, take-take, length-take-le}
use Rattle.hw_text.specs.declared.placed.Placed.{Placed}
use Rattle.c_parse.specs.declared.token.Token.{Token}
use Rattle.c_parse.specs.Flaws.{begins_call, leads_too_far, is_too_long}
use Rattle.c_parse.specs.Nesting.{leads, expression_length}
use Rattle.c_parse.specs.Values.{Tokens}
use Rattle.c_parse.proofs.Endings.{all-inside}
use Rattle.c_parse.proofs.Enclosed.{inside}
use Rattle.c_parse.proofs.Prefixes.{expression-le}

-- behind the first of 502 tokens an expression begins, and the others are its own
pub record IsWindow (ts : Tokens) (i : ℕ) : Type 0 where
  pub first : Tokens
  pub lead : Placed Token
  pub own : Tokens
  pub deep : ℕ
  pub split : take (i + 1) ts ≡ first ++ lead ∷ own
  pub at : length first + 501 ≡ i
  pub many : length own ≡ 501
  pub leading : leads lead.token ≡ true
  pub no_call : begins_call own ≡ false
  pub inner : inside 0 own ≡ Some deep

both-left : (a b : Bool) → (a && b) ≡ true → a ≡ true
both-left true b is = refl
both-left false b is = absurd (false≢true is)

both-right : (a b : Bool) → (a && b) ≡ true → b ≡ true
both-right true b is = is
both-right false b is = absurd (false≢true is)

not-so : (a : Bool) → not a ≡ true → a ≡ false
not-so true is = absurd (false≢true is)
not-so false is = refl

above : (n : ℕ) → nat_lt 500 n ≡ true → 500 < n
above n is = elim (cases_lt 500 n) [
  | inl more ↦ more
  | inr few ↦ absurd (false≢true (sym (le-ltb 500 n few) ∙ is))
]

pub too-long-window : (ts : Tokens) (i : ℕ) → is_too_long ts i ≡ true → IsWindow ts i
too-long-window ts i is = by (drop (i - 501) (take (i + 1) ts)) refl is
  where
    front : Tokens
    front = take (i + 1) ts

    by : (ws : Tokens) → drop (i - 501) front ≡ ws → leads_too_far ws ≡ true → IsWindow ts i
    by [] here far = absurd (false≢true far)
    by (l ∷ ws) here far =
        let leading = both-left (leads l.token) (not (begins_call ws) && nat_lt 500 (expression_length ws)) far in
        let rest = both-right (leads l.token) (not (begins_call ws) && nat_lt 500 (expression_length ws)) far in
        let many = above (expression_length ws) (both-right (not (begins_call ws)) (nat_lt 500 (expression_length ws)) rest) in
        let counted : length front - (i - 501) ≡ length ws + 1 = sym (length-drop (i - 501) front) ∙ ap {B = ℕ} (λ (x : Tokens). length x) here ∙ omega arith in
        let within = expression-le ws in
        let size = length-take (i + 1) ts in
        let far_enough : 501 ≤ i = omega (arith, counted, within, size, many) in
        let all : length ws ≡ 501 = omega (arith, counted, within, size, many) in
        let before : length (take (i - 501) front) ≡ i - 501 = length-take-le (i - 501) front (omega (arith, counted, all)) in
        let inner = all-inside ws (omega (arith, all, many)) in record {
          first = take (i - 501) front;
          lead = l;
          own = ws;
          deep = inner.0;
          split = sym (take-append-drop (i - 501) front) ∙ ap (λ (x : Tokens). take (i - 501) front ++ x) here;
          at = omega (arith, before, far_enough);
          many = all;
          leading = leading;
          no_call = not-so (begins_call ws) (both-left (not (begins_call ws)) (nat_lt 500 (expression_length ws)) rest);
          inner = inner.1;
        }

-- the same is told of a token whatever stands behind it
pub too-long-same : (ts more : Tokens) (i k : ℕ) → k ≤ i → i < length ts → is_too_long (take (i + 1) ts ++ more) k ≡ is_too_long ts k
too-long-same ts more i k early within =
    ap (λ (l : Tokens). leads_too_far (drop (k - 501) l))
    (take-append-le (k + 1) (take (i + 1) ts) more (omega (arith, length-take (i + 1) ts, early, within)) ∙ take-take (k + 1) (i + 1) ts (omega (arith, early)))

-- the first of two splits of a list goes on into the second part of the other, where it is longer
pub longer-first : (us vs ws xs : Tokens) → us ++ vs ≡ ws ++ xs → length us ≤ length ws → ws ≡ us ++ take (length ws - length us) vs
longer-first us vs ws xs same longer =
    sym (take-append_seam ws xs) ∙ ap (take (length ws)) (sym same) ∙ ap (λ (n : ℕ). take n (us ++ vs)) (omega (arith, longer)) ∙ take-append-add us vs (length ws - length us)
