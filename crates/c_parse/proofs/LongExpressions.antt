-- How far an expression goes, that is spelled by these tokens; and where its 501st token is.
use Rattle.std.proofs.Common.{◌≡◌, ◌∙◌, refl, sym, ap, ℕ, zero, suc, ◌+◌, ◌-◌, ◌<◌, ◌≤◌, [], ◌∷◌, ◌++◌, length, take, drop, Bool, true, false, ◌&&◌, ◌==◌, append_assoc, append-nil, arith, Option, Some, None}
use Rattle.std.specs.Prelude.{cond, count_by, not, nat_lt}
use Rattle.std.specs.Option.{option_and_then}
use Rattle.std.proofs.Math.Seq.{take-append-add, drop-append_seam}
use Rattle.std.proofs.lemmas.List.{take-append-le, take-append-drop, length-take-le}
use Rattle.std.proofs.lemmas.Bool.{false≢true}
use Rattle.std.proofs.lemmas.List.Sums.{sum_by-append}
use Rattle.std.proofs.lemmas.Option.{same_Some}
use Rattle.hw_text.specs.declared.placed.Placed.{Placed}
use Rattle.c_tree.specs.declared.dialect.Dialect.TheVariants.{User}
use Rattle.c_tree.specs.declared.expression.Expression.{Expression}
use Rattle.c_parse.specs.declared.token.Token.{Token}
use Rattle.c_parse.specs.declared.token.Token.TheVariants as token
use Rattle.c_parse.specs.declared.mark.Mark.TheVariants as mark
use Rattle.c_parse.specs.ExpressionGrammar.{SpellsWhole}
use Rattle.c_parse.specs.Flaws.{begins_call, leads_too_far, is_too_long}
use Rattle.c_parse.specs.Levels.{loosest_level}
use Rattle.c_parse.specs.Nesting.{opens, closes, ends, leads, open_behind, ends_before, expression_length}
use Rattle.c_parse.specs.Values.{Tokens}
use Rattle.c_parse.proofs.CallBegins.{begins_call as begins_as_call, expression-no-call}
use Rattle.c_parse.proofs.Enclosed.{inside, inside-append}
use Rattle.c_parse.proofs.EnclosedTexts.{expression-closed}
use Rattle.c_parse.proofs.Prefixes.{left, left-all}
use Rattle.c_parse.proofs.TokenKinds.{none-some}

abbrev pub opened : Tokens → ℕ
opened ts = count_by (λ t. opens t.token) ts

abbrev pub shut : Tokens → ℕ
shut ts = count_by (λ t. closes t.token) ts

pub one-more : (p : Placed Token → Bool) (us : Tokens) (t : Placed Token) → count_by p (us ++ t ∷ []) ≡ count_by p us + cond (p t) 1 0
one-more p us t = sum_by-append (λ x. cond (p x) 1 0) us (t ∷ []) ∙ ap {B = ℕ} (λ (n : ℕ). count_by p us + n) (omega arith)

-- what closes a bracket ends an expression outside brackets
closes-ends : (t : Token) → closes t ≡ true → ends t ≡ true
closes-ends (token.Mark mark.CloseParenthesis) is = refl
closes-ends (token.Mark mark.CloseBracket) is = refl
closes-ends (token.Mark mark.CloseBrace) is = refl
closes-ends _ is = absurd (false≢true is)

-- where no expression ends, no more brackets close than are open
pub closing-level : (t : Token) (d : ℕ) → (ends t && (d == 0)) ≡ false → cond (closes t) 1 0 ≤ d
closing-level t (suc d) so = by (closes t)
  where
    by : (c : Bool) → cond c 1 0 ≤ suc d
    by true = omega arith
    by false = omega arith
closing-level t zero so = by (closes t) refl
  where
    by : (c : Bool) → closes t ≡ c → cond c 1 0 ≤ 0
    by true is = absurd (false≢true (sym so ∙ ap (λ (b : Bool). b && true) (closes-ends t is)))
    by false is = omega arith

-- tokens among which an expression does not end belong to it
pub left-inside : (us ws after : Tokens) (d e : ℕ) → shut us + d ≡ opened us → inside d ws ≡ Some e → (left us (ws ++ after) ≡ length ws + left (us ++ ws) after) × (shut (us ++ ws) + e ≡ opened (us ++ ws))
left-inside us [] after d e level is = (
  sym (ap {B = ℕ} (λ (l : Tokens). 0 + left l after) (append-nil us) ∙ omega arith),
  ap (λ (l : Tokens). shut l + e) (append-nil us) ∙ ap (λ (n : ℕ). shut us + n) (sym (same_Some d e is)) ∙ level ∙ sym (ap opened (append-nil us)),
)
left-inside us (t ∷ ws) after d e level is =
    by (ends t.token && (d == 0)) refl
    (λ so more. left-inside (us ++ t ∷ []) ws after ((d + cond (opens t.token) 1 0) - cond (closes t.token) 1 0) e so more)
  where
    next : ℕ
    next = (d + cond (opens t.token) 1 0) - cond (closes t.token) 1 0

    rest : Type 0
    rest = (left (us ++ t ∷ []) (ws ++ after) ≡ length ws + left ((us ++ t ∷ []) ++ ws) after) × (shut ((us ++ t ∷ []) ++ ws) + e ≡ opened ((us ++ t ∷ []) ++ ws))

    by : (b : Bool) → (ends t.token && (d == 0)) ≡ b → (shut (us ++ t ∷ []) + next ≡ opened (us ++ t ∷ []) → inside next ws ≡ Some e → rest) → (left us ((t ∷ ws) ++ after) ≡ length (t ∷ ws) + left (us ++ t ∷ ws) after) × (shut (us ++ t ∷ ws) + e ≡ opened (us ++ t ∷ ws))
    by true so more = absurd (none-some e (sym (ap {B = Option ℕ} (λ (b : Bool). cond b None (inside next ws)) so) ∙ is))
    by false so more =
        let fits = closing-level t.token d so in
        let here : open_behind us ≡ d = omega (arith, level) in
        let goes_on : ends_before us t ≡ false = ap (λ (n : ℕ). ends t.token && (n == 0)) here ∙ so in
        let stands : shut (us ++ t ∷ []) + next ≡ opened (us ++ t ∷ []) = omega (arith, level, fits, one-more (λ u. opens u.token) us t, one-more (λ u. closes u.token) us t) in
        let both = more stands (sym (ap {B = Option ℕ} (λ (b : Bool). cond b None (inside next ws)) so) ∙ is) in
        let joined = append_assoc us (t ∷ []) ws in
        let counted : left us (t ∷ (ws ++ after)) ≡ 1 + left (us ++ t ∷ []) (ws ++ after) = ap {B = ℕ} (λ (b : Bool). cond b 0 (1 + left (us ++ t ∷ []) (ws ++ after))) goes_on in (
          omega (arith, counted, both.0, ap (λ (l : Tokens). left l after) joined),
          sym (ap (λ (l : Tokens). shut l + e) joined) ∙ both.1 ∙ ap opened joined,
        )

module _ (ts : Tokens) (x : Expression) (text : SpellsWhole User x ts) where
  expression-left : (after : Tokens) → (left [] (ts ++ after) ≡ length ts + left ts after) × (shut ts + 0 ≡ opened ts)
  expression-left after = left-inside [] ts after 0 0 refl (expression-closed User loosest_level x ts text 0)

  -- it has as many tokens as spell it, up to what ends it
  pub expression-ended : (after : Tokens) (t : Placed Token) → ends t.token ≡ true → expression_length (ts ++ t ∷ after) ≡ length ts
  expression-ended after t is =
      let both = expression-left (t ∷ after) in
      let level : open_behind ts ≡ 0 = omega (arith, both.1) in
      let ended : ends_before ts t ≡ true = ap (λ (n : ℕ). ends t.token && (n == 0)) level ∙ ap (λ (b : Bool). b && true) is in
      let none : left ts (t ∷ after) ≡ 0 = ap {B = ℕ} (λ (b : Bool). cond b 0 (1 + left (ts ++ t ∷ []) after)) ended in
      omega (arith, left-all (ts ++ t ∷ after), both.0, none)

  pub expression-last : expression_length ts ≡ length ts
  expression-last =
      let both = expression-left [] in
      let all : left [] (ts ++ []) ≡ expression_length ts = ap (left []) (append-nil ts) ∙ left-all ts in
      omega (arith, all, both.0)

  -- some of its first tokens do not end it
  front-inside : (n : ℕ) → (e : ℕ) × (inside 0 (take n ts) ≡ Some e)
  front-inside n = by (inside 0 (take n ts)) refl
    where
      whole : option_and_then (λ e. inside e (drop n ts)) (inside 0 (take n ts)) ≡ Some 0
      whole = sym (inside-append (take n ts) (drop n ts) 0) ∙ ap (inside 0) (take-append-drop n ts) ∙ expression-closed User loosest_level x ts text 0

      by : (o : Option ℕ) → inside 0 (take n ts) ≡ o → (e : ℕ) × (inside 0 (take n ts) ≡ Some e)
      by None is = absurd (none-some 0 (sym (ap (option_and_then (λ e. inside e (drop n ts))) is) ∙ whole))
      by (Some e) is = (e, is)

  front-length : (n : ℕ) → n ≤ length ts → expression_length (take n ts) ≡ n
  front-length n within =
      let f = front-inside n in
      let both = left-inside [] (take n ts) [] 0 f.0 refl f.1 in
      let all : left [] (take n ts ++ []) ≡ expression_length (take n ts) = ap (left []) (append-nil (take n ts)) ∙ left-all (take n ts) in
      omega (arith, all, both.0, length-take-le n ts within)

  no-call : (us after : Tokens) → us ≡ ts → 500 < length us → begins_call (take 501 (us ++ after)) ≡ false
  no-call [] after is many = absurd (omega (arith, many))
  no-call (t ∷ []) after is many = absurd (omega (arith, many))
  no-call (t ∷ u ∷ us) after is many = ap begins_as_call is' ∙ expression-no-call User loosest_level x ts [] text refl
    where
      is' : t ∷ u ∷ us ++ [] ≡ ts ++ []
      is' = ap (λ (l : Tokens). l ++ []) is

  -- its 501st token is one too many
  pub too-long : (before after : Tokens) (t : Placed Token) → leads t.token ≡ true → 500 < length ts → is_too_long (before ++ t ∷ (ts ++ after)) (length before + 501) ≡ true
  too-long before after t leading many =
      let all = t ∷ (ts ++ after) in
      let front : take (length before + 501 + 1) (before ++ all) ≡ before ++ take 502 all = ap (λ (n : ℕ). take n (before ++ all)) (omega arith) ∙ take-append-add before all 502 in
      let window : drop (length before + 501 - 501) (take (length before + 501 + 1) (before ++ all)) ≡ t ∷ take 501 (ts ++ after) =
      ap (λ (n : ℕ). drop n (take (length before + 501 + 1) (before ++ all))) (omega arith) ∙ ap (drop (length before)) front ∙ drop-append_seam before (take 502 all) in
      let within : 501 ≤ length ts = omega (arith, many) in
      let counted : expression_length (take 501 (ts ++ after)) ≡ 501 = ap expression_length (take-append-le 501 ts after within) ∙ front-length 501 within in
      ap leads_too_far window ∙ ap (λ (b : Bool). b && (not (begins_call (take 501 (ts ++ after))) && nat_lt 500 (expression_length (take 501 (ts ++ after))))) leading ∙
      ap (λ (b : Bool). not b && nat_lt 500 (expression_length (take 501 (ts ++ after)))) (no-call ts after refl many) ∙ ap (nat_lt 500) counted
