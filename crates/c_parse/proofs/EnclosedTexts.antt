-- The brackets of an expression: what opens in its text closes in it, and nothing in the text ends it.
use Rattle.std.proofs.Common.{◌≡◌, ◌∙◌, refl, sym, ap, ℕ, suc, ◌+◌, ◌-◌, List, [], ◌∷◌, ◌++◌, Bool, true, false, ◌&&◌, ◌==◌, append_assoc, arith, Option, Some, None, inl, inr}
use Rattle.std.specs.Prelude.{cond}
use Rattle.std.proofs.Math.Dec.{eqb-suc-zero}
use Rattle.std.specs.Option.{option_and_then}
use Rattle.hw_text.specs.declared.place.Place.{Place}
use Rattle.c_tree.specs.declared.dialect.Dialect.{Dialect}
use Rattle.c_tree.specs.declared.expression.Base.{Base}
use Rattle.c_tree.specs.declared.expression.Selector.{Selector}
use Rattle.c_tree.specs.declared.expression.Lvalue.{Lvalue}
use Rattle.c_tree.specs.declared.expression.Expression.{Expression}
use Rattle.c_parse.specs.declared.token.Token.{Token}
use Rattle.c_parse.specs.declared.token.Token.TheVariants as token
use Rattle.c_parse.specs.declared.mark.Mark.{Mark}
use Rattle.c_parse.specs.declared.mark.Mark.TheVariants as mark
use Rattle.c_parse.specs.Nesting.{opens, closes, ends}
use Rattle.c_parse.specs.Values.{Tokens}
use Rattle.c_parse.specs.ExpressionGrammar.{Sign, Operation, SpellsBase, SpellsExpression, SpellsOperations, SpellsPrefix, SpellsLvalue, SpellsParts, chain, prefix, no_operation, an_operation, number, truth, value, parenthesised, unary, cast, lvalue, no_part, a_member, an_index}
use Rattle.c_parse.proofs.Enclosed.{inside, inside-append, Closed, closed-append, moved, step, one-closed, name-closed, sign-closed}
use Rattle.c_parse.proofs.MarkTokens.{mark-token}
use Rattle.c_parse.proofs.Levels.{operator_starts}
use Rattle.c_parse.proofs.TokenShapes.{a_literal, a_truth, a_unary, an_integer, of_kind}

-- a bracket that opens, and the one that closes it
pub record ArePair (m n : Mark) : Type 0 where
  opened : opens (token.Mark m) ≡ true
  no_close : closes (token.Mark m) ≡ false
  no_end : ends (token.Mark m) ≡ false
  no_open : opens (token.Mark n) ≡ false
  closed : closes (token.Mark n) ≡ true
  end : ends (token.Mark n) ≡ true

parentheses : ArePair mark.OpenParenthesis mark.CloseParenthesis
parentheses = record { opened = refl; no_close = refl; no_end = refl; no_open = refl; closed = refl; end = refl }

pub braces : ArePair mark.OpenBrace mark.CloseBrace
braces = record { opened = refl; no_close = refl; no_end = refl; no_open = refl; closed = refl; end = refl }

square : ArePair mark.OpenBracket mark.CloseBracket
square = record { opened = refl; no_close = refl; no_end = refl; no_open = refl; closed = refl; end = refl }

closing : (t : Token) (m n : Mark) (at : Place) (d : ℕ) → ArePair m n → t ≡ token.Mark n → inside (suc d) (record { token = t; place = at } ∷ []) ≡ Some d
unfolding step
closing t m n at d pair is =
    ap (λ (u : Token). step (suc d) (opens u) (closes u) (ends u)) is ∙ ap (λ (o : Bool). step (suc d) o (closes (token.Mark n)) (ends (token.Mark n))) pair.no_open ∙
    ap (λ (c : Bool). step (suc d) false c (ends (token.Mark n))) pair.closed ∙ ap (step (suc d) false true) pair.end ∙
    ap {B = Option ℕ} (λ (b : Bool). cond b None (Some ((suc d + 0) - 1))) (eqb-suc-zero d) ∙ ap Some (omega arith)

pub bracketed : (m n : Mark) → ArePair m n → (p q : Place) (ps ws qs : Tokens) → Sign m p ps → Closed ws → Sign n q qs → Closed (ps ++ (ws ++ qs))
bracketed m n pair p q ps ws qs opening inner ending d =
    let rest = ws ++ qs in
    let is = mark-token m opening.0 p opening.2 in
    let after : (d + cond true 1 0) - cond false 1 0 ≡ suc d = omega arith in
    ap (λ (l : Tokens). inside d (l ++ rest)) opening.1 ∙
    ap {B = Option ℕ} (λ (u : Token). cond (ends u && (d == 0)) None (inside ((d + cond (opens u) 1 0) - cond (closes u) 1 0) rest)) is ∙
    ap {B = Option ℕ} (λ (b : Bool). cond (b && (d == 0)) None (inside ((d + cond (opens (token.Mark m)) 1 0) - cond (closes (token.Mark m)) 1 0) rest)) pair.no_end ∙
    ap {B = Option ℕ} (λ (o : Bool). inside ((d + cond o 1 0) - cond (closes (token.Mark m)) 1 0) rest) pair.opened ∙
    ap {B = Option ℕ} (λ (c : Bool). inside ((d + 1) - cond c 1 0) rest) pair.no_close ∙
    ap (λ (e : ℕ). inside e rest) after ∙ inside-append ws qs (suc d) ∙ ap (option_and_then (λ e. inside e qs)) (inner (suc d)) ∙
    ap (inside (suc d)) ending.1 ∙ closing ending.0.token m n ending.0.place d pair (mark-token n ending.0 q ending.2)

base-closed : (f : Dialect) (b : Base) (ws : Tokens) → SpellsBase f b ws → Closed ws
base-closed f b ws (inl (x, is, name)) = name-closed x ws name
base-closed f b ws (inr (inl (dialect, (p, is, (os, more, split, opening, (ss, us, next, star, (ns, cs, last, name, end))))))) =
    moved ws (os ++ ((ss ++ ns) ++ cs))
    (split ∙ ap (λ (l : Tokens). os ++ l) (next ∙ ap (λ (l : Tokens). ss ++ l) last ∙ sym (append_assoc ss ns cs)))
    (bracketed mark.OpenParenthesis mark.CloseParenthesis parentheses p.0 p.1.1.1 os (ss ++ ns) cs opening
    (closed-append ss ns (sign-closed mark.Star (refl, refl, refl) p.1.0 ss star) (name-closed p.1.1.0 ns name)) end)
base-closed f b ws (inr (inr (dialect, (p, is, (ns, more, split, name, (ars, ms, next, arrow, target)))))) =
    moved ws (ns ++ (ars ++ ms)) (split ∙ ap (λ (l : Tokens). ns ++ l) next)
    (closed-append ns (ars ++ ms) (name-closed p.0 ns name) (closed-append ars ms (sign-closed mark.Arrow (refl, refl, refl) p.1.0 ars arrow) (name-closed p.1.1 ms target)))

mutual
  pub expression-closed : (f : Dialect) (n : ℕ) (e : Expression) (ws : Tokens) → SpellsExpression f n e ws → Closed ws
  expression-closed f n e ws (chain g k x os us vs d ts low is split first rest) =
      moved ws (us ++ vs) split (closed-append us vs (expression-closed f (n + 1) x us first) (operations-closed f n os vs rest))
  expression-closed f n e ws (prefix g k d ts tight text) = prefix-closed f e ws text

  operations-closed : (f : Dialect) (n : ℕ) (os : List Operation) (ws : Tokens) → SpellsOperations f n os ws → Closed ws
  operations-closed f n os ws (no_operation g k all ts is none) = moved ws [] none (λ d. refl)
  operations-closed f n os ws (an_operation g k o r rest us vs xs all ts is split operator right more) =
      moved ws (us ++ (vs ++ xs)) split
      (closed-append us (vs ++ xs) (one-closed (operator_starts n) refl o us operator)
      (closed-append vs xs (expression-closed f (n + 1) r vs right) (operations-closed f n rest xs more)))

  prefix-closed : (f : Dialect) (e : Expression) (ws : Tokens) → SpellsPrefix f e ws → Closed ws
  prefix-closed f e ws (number g l d ts is one) = one-closed (of_kind a_literal) refl l ws one
  prefix-closed f e ws (truth g p d ts is one) = one-closed (of_kind a_truth) refl p ws one
  prefix-closed f e ws (value g l d ts is text) = lvalue-closed f l ws text
  prefix-closed f e ws (parenthesised g p q x ps us qs d ts is split opening inner end) =
      moved ws (ps ++ (us ++ qs)) split (bracketed mark.OpenParenthesis mark.CloseParenthesis parentheses p q ps us qs opening (expression-closed f _ x us inner) end)
  prefix-closed f e ws (unary g p x os us d ts is split operator operand) =
      moved ws (os ++ us) split (closed-append os us (one-closed (of_kind a_unary) refl p os operator) (prefix-closed f x us operand))
  prefix-closed f e ws (cast g p q c x ps cs qs us d ts is split opening class end operand) =
      moved ws ((ps ++ (cs ++ qs)) ++ us) (split ∙ ap (λ (l : Tokens). ps ++ l) (sym (append_assoc cs qs us)) ∙ sym (append_assoc ps (cs ++ qs) us))
      (closed-append (ps ++ (cs ++ qs)) us
      (bracketed mark.OpenParenthesis mark.CloseParenthesis parentheses p q ps cs qs opening (one-closed (of_kind an_integer) refl c cs class) end)
      (prefix-closed f x us operand))

  lvalue-closed : (f : Dialect) (l : Lvalue) (ws : Tokens) → SpellsLvalue f l ws → Closed ws
  lvalue-closed f l ws (lvalue g b ps us vs k ts is split first rest) =
      moved ws (us ++ vs) split (closed-append us vs (base-closed f b us first) (parts-closed f ps vs rest))

  parts-closed : (f : Dialect) (ps : List Selector) (ws : Tokens) → SpellsParts f ps ws → Closed ws
  parts-closed f ps ws (no_part g all ts is none) = moved ws [] none (λ d. refl)
  parts-closed f ps ws (a_member g p x qs ds ns us all ts is split dot name rest) =
      moved ws (ds ++ (ns ++ us)) split
      (closed-append ds (ns ++ us) (sign-closed mark.Dot (refl, refl, refl) p ds dot) (closed-append ns us (name-closed x ns name) (parts-closed f qs us rest)))
  parts-closed f ps ws (an_index g p q x rs os us cs vs all ts is split opening index end rest) =
      moved ws ((os ++ (us ++ cs)) ++ vs) (split ∙ ap (λ (l : Tokens). os ++ l) (sym (append_assoc us cs vs)) ∙ sym (append_assoc os (us ++ cs) vs))
      (closed-append (os ++ (us ++ cs)) vs
      (bracketed mark.OpenBracket mark.CloseBracket square p q os us cs opening (expression-closed f _ x us index) end) (parts-closed f rs vs rest))
