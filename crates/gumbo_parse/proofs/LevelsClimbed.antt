-- Expressions of a level, where a looser one is wanted, and with an operation more behind them.
use Rattle.std.proofs.Common.{◌≡◌, ℕ, zero, suc, ◌+◌, ◌-◌, ◌≤◌, List, [], ◌∷◌, ◌++◌, None, false, refl, sym, ap, ◌∙◌, subst, append_assoc, arith}
use Rattle.std.proofs.lemmas.Bool.{ltb-false}
use Rattle.std.proofs.lemmas.List.{append-nil}
use Rattle.gumbo_parse.specs.declared.expression.Expression.{Expression}
use Rattle.gumbo_parse.specs.declared.level.Level.{Level}
use Rattle.gumbo_parse.specs.declared.level.Level.TheVariants as level
use Rattle.gumbo_parse.specs.declared.level.Form.TheVariants as form
use Rattle.gumbo_parse.specs.declared.operation.Operation.{Operation}
use Rattle.gumbo_parse.specs.Grammar.{Spells, SpellsOperation, SpellsOperations, applied, chained}
use Rattle.gumbo_parse.specs.Grammar as grammar
use Rattle.gumbo_parse.specs.Levels.{next, form_of, height, is_looser}
use Rattle.gumbo_parse.specs.Values.{Tokens}

-- the level that is so many levels tighter than the loosest
abbrev level_at : ℕ → Level
level_at zero = level.Implication
level_at (suc n) = next (level_at n)

alone-chain : (l : Level) (x : Expression) (ts : Tokens) → form_of l ≡ form.Chain → Spells (next l) x ts → Spells l x ts
alone-chain l x ts is text = grammar.chain l x [] ts [] x ts is refl (sym (append-nil ts)) text (grammar.no_operations l [] [] refl refl)

alone-pair : (l : Level) (x : Expression) (ts : Tokens) → form_of l ≡ form.Pair → Spells (next l) x ts → Spells l x ts
alone-pair l x ts is text = grammar.pair l x None ts [] x ts is refl (sym (append-nil ts)) text (grammar.no_operation l None [] refl refl)

-- an expression of the next level is one of a level
looser : (l : Level) (x : Expression) (ts : Tokens) → Spells (next l) x ts → Spells l x ts
looser level.Implication x ts text = alone-pair level.Implication x ts refl text
looser level.Disjunction x ts text = alone-chain level.Disjunction x ts refl text
looser level.Conjunction x ts text = alone-chain level.Conjunction x ts refl text
looser level.Negation x ts text = grammar.plain level.Negation x ts refl text
looser level.Comparison x ts text = alone-pair level.Comparison x ts refl text
looser level.Sum x ts text = alone-chain level.Sum x ts refl text
looser level.Product x ts text = alone-chain level.Product x ts refl text
looser level.Sign x ts text = grammar.plain level.Sign x ts refl text
looser level.Operand x ts text = text

abbrev above : ℕ → ℕ → ℕ
above zero n = n
above (suc k) n = suc (above k n)

above-is : (k n : ℕ) → above k n ≡ k + n
above-is zero n = omega arith
above-is (suc k) n = omega (arith, above-is k n)

climbed : (k n : ℕ) (x : Expression) (ts : Tokens) → Spells (level_at (above k n)) x ts → Spells (level_at n) x ts
climbed zero n x ts text = text
climbed (suc k) n x ts text = climbed k n x ts (looser (level_at (above k n)) x ts text)

loose_at : (own wanted : ℕ) (x : Expression) (ts : Tokens) → wanted ≤ own → Spells (level_at own) x ts → Spells (level_at wanted) x ts
loose_at own wanted x ts within text =
    let is : own ≡ above (own - wanted) wanted = omega (arith, above-is (own - wanted) wanted) in
    climbed (own - wanted) wanted x ts (subst (λ (n : ℕ). Spells (level_at n) x ts) is text)

tightest : (wanted : Level) → is_looser level.Operand wanted ≡ false
tightest level.Implication = refl
tightest _ = refl

depth-is : (l : Level) → level_at (8 - height l) ≡ l
depth-is level.Implication = refl
depth-is _ = refl

bounded : (l : Level) → height l ≤ 8
bounded level.Implication = omega arith
bounded _ = omega arith

-- what stands at a level stands where one that is no tighter is wanted
pub loose : (own wanted : Level) (x : Expression) (ts : Tokens) → is_looser own wanted ≡ false → Spells own x ts → Spells wanted x ts
loose own wanted x ts is text =
    subst (λ (l : Level). Spells l x ts) (depth-is wanted)
    (loose_at (8 - height own) (8 - height wanted) x ts (omega (arith, bounded own, bounded wanted, ltb-false (height wanted) (height own) is))
    (subst (λ (l : Level). Spells l x ts) (sym (depth-is own)) text))

-- no level is looser than that of whole expressions
pub loosest : (own : Level) → is_looser own level.Implication ≡ false
loosest level.Implication = refl
loosest _ = refl

-- an operand stands at each level
pub operand_at : (wanted : Level) (x : Expression) (ts : Tokens) → Spells level.Operand x ts → Spells wanted x ts
operand_at wanted x ts text = loose level.Operand wanted x ts (tightest wanted) text

chained-more : (x : Expression) (os : List Operation) (o : Operation) → chained x (os ++ o ∷ []) ≡ applied (chained x os) o
chained-more x [] o = refl
chained-more x (p ∷ os) o = chained-more (applied x p) os o

-- one operation more behind others
operations-more : (l : Level) (os : List Operation) (o : Operation) (us vs : Tokens) → SpellsOperations l os us → SpellsOperation l o vs → SpellsOperations l (os ++ o ∷ []) (us ++ vs)
operations-more l os o us vs (grammar.no_operations k all ts none empty) more =
    subst (λ (ps : List Operation). SpellsOperations l (ps ++ o ∷ []) (us ++ vs)) (sym none)
    (subst (λ (ws : Tokens). SpellsOperations l (o ∷ []) (ws ++ vs)) (sym empty)
    (grammar.operations l o [] vs [] (o ∷ []) vs refl (sym (append-nil vs)) more (grammar.no_operations l [] [] refl refl)))
operations-more l os o us vs (grammar.operations k p ps ws xs all ts is split first others) more =
    subst (λ (qs : List Operation). SpellsOperations l (qs ++ o ∷ []) (us ++ vs)) (sym is)
    (subst (λ (ys : Tokens). SpellsOperations l (p ∷ (ps ++ o ∷ [])) (ys ++ vs)) (sym split)
    (grammar.operations l p (ps ++ o ∷ []) ws (xs ++ vs) (p ∷ (ps ++ o ∷ [])) ((ws ++ xs) ++ vs) refl (append_assoc ws xs vs) first (operations-more l ps o xs vs others more)))

-- one operation more behind a chain
pub chain-more : (l : Level) (x : Expression) (us : Tokens) (o : Operation) (vs : Tokens) → form_of l ≡ form.Chain → Spells l x us → SpellsOperation l o vs → Spells l (applied x o) (us ++ vs)
chain-more l x us o vs is (grammar.chain k y os ws xs e ts kind made split first others) more =
    grammar.chain l y (os ++ o ∷ []) ws (xs ++ vs) (applied x o) (us ++ vs) is (ap (λ (w : Expression). applied w o) made ∙ sym (chained-more y os o))
    (ap (λ (w : Tokens). w ++ vs) split ∙ append_assoc ws xs vs) first (operations-more l os o xs vs others more)
chain-more l x us o vs is (grammar.pair k y p ws xs e ts kind made split first other) more = absurd (cc (sym is ∙ kind))
chain-more l x us o vs is (grammar.prefixed k p y ws xs e ts kind made split sign first) more = absurd (cc (sym is ∙ kind))
chain-more l x us o vs is (grammar.plain k e ts kind first) more = absurd (cc (sym is ∙ kind))
chain-more l x us o vs is (grammar.operand k e ts kind first) more = absurd (cc (sym is ∙ kind))
