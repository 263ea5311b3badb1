-- What has been read of an expression with operators of one level, step by step.
use Rattle.std.proofs.Common.{◌≡◌, ◌+◌, ◌<◌, ◌∙◌, refl, sym, ap, ℕ, List, [], ◌∷◌, ◌++◌, true, false, append_assoc, arith}
use Rattle.std.specs.Prelude.{⊤}
use Rattle.std.proofs.lemmas.Bool.{false≢true}
use Rattle.hw_text.specs.Language.{One, Nothing, ◌⋅◌, Made}
use Rattle.hw_text.specs.Reading.{first, begins, Begins, Anything, Reached, Stuck, Leaves}
use Rattle.hw_text.proofs.Reading.{begun, refined, ended, step, stuck, first-begins, never-begins, one-begins, then-begins}
use Rattle.hw_text.specs.declared.place.Place.{Place}
use Rattle.c_tree.specs.Starts.{start_in}
use Rattle.c_tree.specs.declared.dialect.Dialect.{Dialect}
use Rattle.c_tree.specs.declared.operator.BinaryOperator.{BinaryOperator}
use Rattle.c_tree.specs.declared.expression.Expression.{Expression}
use Rattle.c_tree.specs.declared.expression.Expression.TheVariants.{Binary}
use Rattle.c_parse.specs.Values.{Tokens}
use Rattle.c_parse.specs.Levels.{prefix_level}
use Rattle.c_parse.specs.Operators.{binary_at, operates, goes_on, Ends}
use Rattle.c_parse.specs.ExpressionGrammar.{Operation, chained, SpellsExpression, chain, prefix, SpellsOperations, no_operation, an_operation}
use Rattle.c_parse.proofs.TokenKinds.{some-is}
use Rattle.c_parse.proofs.Levels.{ends-up, binary-ends, operates-goes_on}

abbrev pub chained_of : Expression × List Operation → Expression
chained_of p = chained p.0 p.1

module _ (dialect : Dialect) (n : ℕ) where
  opened : n < prefix_level → (e : Expression) (w : Tokens) → SpellsExpression dialect n e w → Made chained_of (SpellsExpression dialect (n + 1) ⋅ SpellsOperations dialect n) e w
  opened low e w (chain f k x os us vs d ts below is split first rest) = ((x, os), is, (us, vs, split, first, rest))
  opened low e w (prefix f k d ts tight text) = absurd (omega (arith, low, tight))

  shut : n < prefix_level → (p : Expression × List Operation) (w : Tokens) → (SpellsExpression dialect (n + 1) ⋅ SpellsOperations dialect n) p w → SpellsExpression dialect n (chained_of p) w
  shut low p w text = chain dialect n p.0 p.1 text.0 text.1 (chained_of p) w low refl text.2 text.3 text.4

  operator-ends : (o : Place × BinaryOperator) (os m : Tokens) → One (binary_at n) o os → Ends (n + 1) (os ++ m)
  operator-ends o os m text = ap (λ (l : Tokens). begins (goes_on (n + 1)) (l ++ m)) text.1 ∙ binary-ends n text.0 o text.2

  operations-follow : (all : List Operation) (w m : Tokens) → SpellsOperations dialect n all w → Ends n m → Ends (n + 1) (w ++ m)
  operations-follow all w m (no_operation f k xs ts none empty) ends = ap (λ (l : Tokens). begins (goes_on (n + 1)) (l ++ m)) empty ∙ ends-up n m ends
  operations-follow all w m (an_operation f k o r rest os us vs xs ts is split operator right more) ends =
      ap (λ (l : Tokens). begins (goes_on (n + 1)) (l ++ m)) split ∙ ap (begins (goes_on (n + 1))) (append_assoc os (us ++ vs) m)
      ∙ operator-ends o os ((us ++ vs) ++ m) operator

module _ (dialect : Dialect) (n : ℕ) (low : n < prefix_level) (before : Tokens) where
  whole : Leaves (SpellsExpression dialect n) (Ends n) before before chained_of (SpellsExpression dialect (n + 1) ⋅ SpellsOperations dialect n)
  whole = begun (SpellsExpression dialect n) (Ends n) before chained_of (SpellsExpression dialect (n + 1) ⋅ SpellsOperations dialect n) (opened dialect n low) (shut dialect n low)

  module _ (at : Tokens) where
    pub first-stuck : Stuck (SpellsExpression dialect (n + 1)) (Ends (n + 1)) before at → Stuck (SpellsExpression dialect n) (Ends n) before at
    first-stuck part = stuck (SpellsExpression dialect n) (Ends n) before (SpellsExpression dialect (n + 1)) (Ends (n + 1)) before at chained_of (SpellsOperations dialect n) whole (operations-follow dialect n) ([], [], no_operation dialect n [] [] refl refl) part

    pub first-read : (x : Expression) → Reached (SpellsExpression dialect (n + 1)) (Ends (n + 1)) before at x → Leaves (SpellsExpression dialect n) (Ends n) before at (λ os. chained x os) (SpellsOperations dialect n)
    first-read x part = step (SpellsExpression dialect n) (Ends n) before (SpellsExpression dialect (n + 1)) (Ends (n + 1)) before at chained_of (SpellsOperations dialect n) whole (operations-follow dialect n) x part

operates-begins : (dialect : Dialect) (n : ℕ) → Begins (operates n) true (One (binary_at n) ⋅ SpellsExpression dialect (n + 1) ⋅ SpellsOperations dialect n)
operates-begins dialect n = then-begins (operates n) true (One (binary_at n)) (SpellsExpression dialect (n + 1) ⋅ SpellsOperations dialect n)
    (one-begins (operates n) true (binary_at n) (λ t o is. some-is (binary_at n t) o is))

-- what may stand behind begins with no operator of the level
ends-never : (n : ℕ) (at m : Tokens) → begins (operates n) at ≡ true → Ends n m → first m ≡ first at → ⊥
ends-never n at [] there ends same = false≢true (first-begins (operates n) [] at same ∙ there)
ends-never n at (t ∷ m) there ends same = false≢true (sym ends ∙ operates-goes_on n t (first-begins (operates n) (t ∷ m) at same ∙ there))

module _ (dialect : Dialect) (n : ℕ) (before at : Tokens) (left : Expression) (so : Leaves (SpellsExpression dialect n) (Ends n) before at (λ os. chained left os) (SpellsOperations dialect n)) where
  pub chain-read : begins (operates n) at ≡ false → Reached (SpellsExpression dialect n) (Ends n) before at left
  chain-read none = ended (SpellsExpression dialect n) (Ends n) before at (λ u. left)
      (refined (SpellsExpression dialect n) (Ends n) before at (λ os. chained left os) (SpellsOperations dialect n) (λ (u : ⊤). []) Nothing so (λ u v text. no_operation dialect n [] v refl text) narrows)
    where
      narrows : (all : List Operation) (v m : Tokens) → SpellsOperations dialect n all v → Ends n m → first (v ++ m) ≡ first at → (u : ⊤) × (all ≡ []) × Nothing u v
      narrows all v m (no_operation f k xs ts is empty) ends same = (tt, is, empty)
      narrows all v m (an_operation f k o r rest os us vs xs ts is split operator right more) ends same =
          absurd (never-begins (operates n) (One (binary_at n) ⋅ SpellsExpression dialect (n + 1) ⋅ SpellsOperations dialect n) at (operates-begins dialect n) none (o, (r, rest)) v m (os, us ++ vs, split, operator, (us, vs, refl, right, more)) same)

  module _ (there : begins (operates n) at ≡ true) (mid : Tokens) where
    at_operator : Leaves (SpellsExpression dialect n) (Ends n) before at (λ p. chained left ((p.0, p.1.0) ∷ p.1.1)) (One (binary_at n) ⋅ SpellsExpression dialect (n + 1) ⋅ SpellsOperations dialect n)
    at_operator = refined (SpellsExpression dialect n) (Ends n) before at (λ os. chained left os) (SpellsOperations dialect n) (λ p. (p.0, p.1.0) ∷ p.1.1) (One (binary_at n) ⋅ SpellsExpression dialect (n + 1) ⋅ SpellsOperations dialect n) so
        (λ p v text. an_operation dialect n p.0 p.1.0 p.1.1 text.0 text.4.0 text.4.1 ((p.0, p.1.0) ∷ p.1.1) v refl (text.2 ∙ ap (λ (l : Tokens). text.0 ++ l) text.4.2) text.3 text.4.3 text.4.4) narrows
      where
        narrows : (all : List Operation) (v m : Tokens) → SpellsOperations dialect n all v → Ends n m → first (v ++ m) ≡ first at → (p : (Place × BinaryOperator) × (Expression × List Operation)) × (all ≡ (p.0, p.1.0) ∷ p.1.1) × (One (binary_at n) ⋅ SpellsExpression dialect (n + 1) ⋅ SpellsOperations dialect n) p v
        narrows all v m (no_operation f k xs ts is empty) ends same = absurd (ends-never n at m there ends (ap (λ (l : Tokens). first (l ++ m)) (sym empty) ∙ same))
        narrows all v m (an_operation f k o r rest os us vs xs ts is split operator right more) ends same =
            ((o, (r, rest)), is, (os, us ++ vs, split, operator, (us, vs, refl, right, more)))

    module _ (o : Place × BinaryOperator) (operator : Reached (One (binary_at n)) Anything at mid o) (behind : Tokens) where
      behind_operator : Leaves (SpellsExpression dialect n) (Ends n) before mid (λ p. chained left ((o, p.0) ∷ p.1)) (SpellsExpression dialect (n + 1) ⋅ SpellsOperations dialect n)
      behind_operator = step (SpellsExpression dialect n) (Ends n) before (One (binary_at n)) Anything at mid (λ p. chained left ((p.0, p.1.0) ∷ p.1.1)) (SpellsExpression dialect (n + 1) ⋅ SpellsOperations dialect n) at_operator (λ y w m text follows. tt) o operator

      pub right-stuck : Stuck (SpellsExpression dialect (n + 1)) (Ends (n + 1)) mid behind → Stuck (SpellsExpression dialect n) (Ends n) before behind
      right-stuck part = stuck (SpellsExpression dialect n) (Ends n) before (SpellsExpression dialect (n + 1)) (Ends (n + 1)) mid behind (λ p. chained left ((o, p.0) ∷ p.1)) (SpellsOperations dialect n) behind_operator (operations-follow dialect n) ([], [], no_operation dialect n [] [] refl refl) part

      pub right-read : (r : Expression) → Reached (SpellsExpression dialect (n + 1)) (Ends (n + 1)) mid behind r → Leaves (SpellsExpression dialect n) (Ends n) before behind (λ os. chained (Binary (start_in left) o.1 o.0 left r) os) (SpellsOperations dialect n)
      right-read r part = step (SpellsExpression dialect n) (Ends n) before (SpellsExpression dialect (n + 1)) (Ends (n + 1)) mid behind (λ p. chained left ((o, p.0) ∷ p.1)) (SpellsOperations dialect n) behind_operator (operations-follow dialect n) r part
