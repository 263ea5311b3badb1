-- Expressions of a level, where a looser one is wanted.
use Rattle.std.proofs.Common.{◌≡◌, ◌<◌, ◌≤◌, ℕ, zero, suc, ◌+◌, [], refl, sym, subst, arith}
use Rattle.std.proofs.lemmas.List.{append-nil}
use Rattle.c_tree.specs.declared.dialect.Dialect.{Dialect}
use Rattle.c_tree.specs.declared.expression.Expression.{Expression}
use Rattle.c_parse.specs.ExpressionGrammar.{SpellsExpression, SpellsPrefix, chain, prefix, no_operation}
use Rattle.c_parse.specs.Levels.{prefix_level}
use Rattle.c_parse.specs.Values.{Tokens}

module _ (dialect : Dialect) (e : Expression) (ts : Tokens) where
  -- an expression of the next level is one of a level
  looser : (n : ℕ) → n < prefix_level → SpellsExpression dialect (n + 1) e ts → SpellsExpression dialect n e ts
  looser n below text = chain dialect n e [] ts [] e ts below refl (sym (append-nil ts)) text (no_operation dialect n [] [] refl refl)

  -- so many levels up
  pub climbed : (k n : ℕ) → n + k ≤ prefix_level → SpellsExpression dialect (n + k) e ts → SpellsExpression dialect n e ts
  climbed zero n within text =
      let same : n + 0 ≡ n = omega arith in
      subst (λ (m : ℕ). SpellsExpression dialect m e ts) same text
  climbed (suc k) n within text =
      let same : n + suc k ≡ n + 1 + k = omega arith in
      let inner : n + 1 + k ≤ prefix_level = omega arith in
      let below : n < prefix_level = omega arith in
      looser n below (climbed k (n + 1) inner (subst (λ (m : ℕ). SpellsExpression dialect m e ts) same text))

  -- what has no operator stands at each level
  pub tightest : (k n : ℕ) → n + k ≡ prefix_level → SpellsPrefix dialect e ts → SpellsExpression dialect n e ts
  tightest k n same text =
      let within : n + k ≤ prefix_level = omega arith in
      climbed k n within (prefix dialect (n + k) e ts same text)
