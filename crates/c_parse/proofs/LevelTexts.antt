-- What has been read of an expression of one level, as its reader goes.
use Rattle.std.proofs.Common.{◌≡◌, refl, sym, ap, subst, ℕ, ◌+◌, ◌<◌, ◌≤◌, [], ◌∷◌, ◌++◌, length, drop, length-drop, arith, true, false, Option, Some, None}
use Rattle.std.specs.Prelude.{is_some}
use Rattle.std.proofs.lemmas.Bool.{false≢true}
use Rattle.hw_text.specs.Language.{One}
use Rattle.hw_text.specs.Reading.{first, ahead, begins, Anything, Reached, Stuck, Leaves}
use Rattle.hw_text.proofs.Reading.{refined, ahead-reached, never-longer, shorter}
use Rattle.hw_text.specs.declared.place.Place.{Place}
use Rattle.c_tree.specs.Starts.{start_in}
use Rattle.c_tree.specs.declared.dialect.Dialect.{Dialect}
use Rattle.c_tree.specs.declared.named.Named.{Named}
use Rattle.c_tree.specs.declared.operator.BinaryOperator.{BinaryOperator}
use Rattle.c_tree.specs.declared.expression.Expression.{Expression}
use Rattle.c_tree.specs.declared.expression.Expression.TheVariants.{Binary}
use Rattle.c_parse.specs.Values.{Tokens, name_token}
use Rattle.c_parse.specs.Levels.{prefix_level}
use Rattle.c_parse.specs.Operators.{binary_at, operates, Ends}
use Rattle.c_parse.specs.ExpressionGrammar.{chained, SpellsExpression, SpellsOperations, SpellsPrefix, chain, prefix}
use Rattle.c_parse.specs.PartGrammar.{from_name}
use Rattle.c_parse.proofs.Shapes.{some_token}
use Rattle.c_parse.proofs.Chains.{chain-read, right-stuck, right-read}
use Rattle.c_parse.proofs.OperandTexts.{expression_starts}
use Rattle.c_parse.proofs.Steps.{all_left}

operator-there : (n : ℕ) (ts : Tokens) (o : Place × BinaryOperator) → ahead (binary_at n) ts ≡ Some o → begins (operates n) ts ≡ true
operator-there n [] o there = absurd (false≢true (ap is_some there))
operator-there n (t ∷ ts) o there = ap is_some there

operator-none : (n : ℕ) (ts : Tokens) → ahead (binary_at n) ts ≡ None → begins (operates n) ts ≡ false
operator-none n [] none = refl
operator-none n (t ∷ ts) none = ap is_some none

module _ (dialect : Dialect) (n : ℕ) where
  abbrev OfLevel : Expression → Tokens → Type 0
  OfLevel = SpellsExpression dialect n

  pub expression-some : (e : Expression) (w : Tokens) → OfLevel e w → 0 < length w
  expression-some = some_token (expression_starts dialect n)

  -- a name that was passed is part of what is read from it on
  pub passed-shorter : (passed : Option Named) (ts after : Tokens) (e : Expression) → Reached OfLevel (Ends n) (from_name passed ts) after e → length after ≤ length ts
  passed-shorter None ts after e so = never-longer OfLevel (Ends n) ts after e so
  passed-shorter (Some x) ts after e so = omega (arith, shorter OfLevel (Ends n) (name_token x ∷ ts) after e expression-some so)

  -- an expression of the tightest level is an operand
  pub tightest : n ≡ prefix_level → (before : Tokens) → Leaves OfLevel (Ends n) before before (λ e. e) (SpellsPrefix dialect)
  tightest is before = refined OfLevel (Ends n) before before (λ e. e) OfLevel (λ e. e) (SpellsPrefix dialect) (all_left OfLevel (Ends n) before)
      (λ e w text. prefix dialect n e w is text) narrows
    where
      narrows : (e : Expression) (w m : Tokens) → OfLevel e w → Ends n m → first (w ++ m) ≡ first before → (x : Expression) × (e ≡ x) × SpellsPrefix dialect x w
      narrows e w m (chain f k x os us vs d ts low split_is split first_text rest) ends same = absurd (omega (arith, low, is))
      narrows e w m (prefix f k d ts tight text) ends same = (e, refl, text)

  module _ (before at : Tokens) (left : Expression) (so : Leaves OfLevel (Ends n) before at (λ os. chained left os) (SpellsOperations dialect n)) where
    pub level-read : ahead (binary_at n) at ≡ None → Reached OfLevel (Ends n) before at left
    level-read none = chain-read dialect n before at left so (operator-none n at none)

    module _ (o : Place × BinaryOperator) (there : ahead (binary_at n) at ≡ Some o) (mid : Tokens) (behind : mid ≡ drop 1 at) (after : Tokens) where
      operator : Reached (One (binary_at n)) Anything at mid o
      operator = ahead-reached (binary_at n) Anything at mid o there behind

      pub right-operand-stuck : Stuck (SpellsExpression dialect (n + 1)) (Ends (n + 1)) mid after → Stuck OfLevel (Ends n) before after
      right-operand-stuck part = right-stuck dialect n before at left so (operator-there n at o there) mid o operator after part

      pub operation-read : (right next : Expression) → next ≡ Binary (start_in left) o.1 o.0 left right → Reached (SpellsExpression dialect (n + 1)) (Ends (n + 1)) mid after right → Leaves OfLevel (Ends n) before after (λ os. chained next os) (SpellsOperations dialect n)
      operation-read right next is part =
          subst (λ (e : Expression). Leaves OfLevel (Ends n) before after (λ os. chained e os) (SpellsOperations dialect n)) (sym is)
          (right-read dialect n before at left so (operator-there n at o there) mid o operator after right part)

      pub operation-shorter : (right : Expression) → Reached (SpellsExpression dialect (n + 1)) (Ends (n + 1)) mid after right → length after ≤ length at
      operation-shorter right part =
          omega (arith, never-longer (SpellsExpression dialect (n + 1)) (Ends (n + 1)) mid after right part, ap (λ (l : Tokens). length l) behind, length-drop 1 at)
