-- The productions of levels, each as its parts.
use Rattle.std.proofs.Common.{◌≡◌, ◌∙◌, refl, sym, subst, ap, List, [], ◌∷◌, ◌++◌, true, Option, Some, None, append_assoc, inl, inr}
use Rattle.hw_text.specs.Language.{One, ◌⋅◌, Made, ◌∣◌, Maybe, Each}
use Rattle.hw_text.specs.Reading.{begins, Begins, Leaves}
use Rattle.hw_text.proofs.Reading.{begun, then-begins}
use Rattle.hw_text.specs.declared.place.Place.{Place}
use Rattle.hw_reading.specs.Shapes.{shapes_of}
use Rattle.gumbo_parse.specs.declared.expression.Expression.{Expression}
use Rattle.gumbo_parse.specs.declared.expression.Expression.TheVariants.{Unary}
use Rattle.gumbo_parse.specs.declared.level.Level.{Level}
use Rattle.gumbo_parse.specs.declared.level.Form.TheVariants as form
use Rattle.gumbo_parse.specs.declared.operation.Operation.{Operation}
use Rattle.gumbo_parse.specs.declared.operator.BinaryOperator.{BinaryOperator}
use Rattle.gumbo_parse.specs.declared.operator.UnaryOperator.{UnaryOperator}
use Rattle.gumbo_parse.specs.Grammar.{Spells, chain, pair, prefixed, plain, operand, SpellsOperation, operation, SpellsOperations, no_operations, operations, SpellsOptional, no_operation, one_operation, SpellsOperand, chained, paired, operation_of}
use Rattle.gumbo_parse.specs.Levels.{next, right, form_of, infixes, prefixes, Ends}
use Rattle.gumbo_parse.specs.Values.{Tokens, one_of, one_listed}
use Rattle.gumbo_parse.proofs.BoundForms.{listed-begins}
use Rattle.gumbo_parse.proofs.LevelFacts.{starts, starts-is, starts-operand}
use Rattle.gumbo_parse.proofs.OperandForms.{operand-begins}
use Rattle.gumbo_parse.proofs.Shapes.{begins-left, begins-more}

abbrev pub chained_of : Expression × List Operation → Expression
chained_of p = chained p.0 p.1

abbrev pub unary_of : (Place × UnaryOperator) × Expression → Expression
unary_of p = Unary p.0.0 p.0.1 p.1

abbrev pub ChainForm : Level → Expression → Tokens → Type 0
ChainForm l = Made chained_of (Spells (next l) ⋅ Each (SpellsOperation l))

abbrev pub PairForm : Level → Expression → Tokens → Type 0
PairForm l = Made paired (Spells (next l) ⋅ Maybe (SpellsOperation l))

abbrev pub UnaryForm : Level → Expression → Tokens → Type 0
UnaryForm l = Made unary_of (One (one_listed (prefixes l)) ⋅ Spells l)

abbrev pub OperationForm : Level → Operation → Tokens → Type 0
OperationForm l = Made operation_of (One (one_listed (infixes l)) ⋅ Spells (right l))

module _ (l : Level) where
  operations-opened : (os : List Operation) (w : Tokens) → SpellsOperations l os w → Each (SpellsOperation l) os w
  operations-opened os w (no_operations k all ts is empty) = subst (λ x. Each (SpellsOperation l) x w) (sym is) empty
  operations-opened os w (operations k o rest us vs all ts is split one more) =
      subst (λ x. Each (SpellsOperation l) x w) (sym is) (us, vs, split, one, operations-opened rest vs more)

  operations-shut : (os : List Operation) (w : Tokens) → Each (SpellsOperation l) os w → SpellsOperations l os w
  operations-shut [] w text = no_operations l [] w refl text
  operations-shut (o ∷ os) w text = operations l o os text.0 text.1 (o ∷ os) w refl text.2 text.3 (operations-shut os text.1 text.4)

  optional-opened : (o : Option Operation) (w : Tokens) → SpellsOptional l o w → Maybe (SpellsOperation l) o w
  optional-opened o w (no_operation k all ts is empty) = subst (λ x. Maybe (SpellsOperation l) x w) (sym is) empty
  optional-opened o w (one_operation k x all ts is text) = subst (λ x. Maybe (SpellsOperation l) x w) (sym is) text

  optional-shut : (o : Option Operation) (w : Tokens) → Maybe (SpellsOperation l) o w → SpellsOptional l o w
  optional-shut None w text = no_operation l None w refl text
  optional-shut (Some x) w text = one_operation l x (Some x) w refl text

  chain-opened : form_of l ≡ form.Chain → (e : Expression) (w : Tokens) → Spells l e w → ChainForm l e w
  chain-opened here e w (chain k x os us vs d ts form is split first rest) = ((x, os), is, (us, vs, split, first, operations-opened os vs rest))
  chain-opened here e w (pair k x o us vs d ts other is split first rest) = cc
  chain-opened here e w (prefixed k o x os us d ts other is split first rest) = cc
  chain-opened here e w (plain k d ts other text) = cc
  chain-opened here e w (operand k d ts other text) = cc

  chain-shut : form_of l ≡ form.Chain → (p : Expression × List Operation) (w : Tokens) → (Spells (next l) ⋅ Each (SpellsOperation l)) p w → Spells l (chained_of p) w
  chain-shut here p w text = chain l p.0 p.1 text.0 text.1 (chained_of p) w here refl text.2 text.3 (operations-shut p.1 text.1 text.4)

  pair-opened : form_of l ≡ form.Pair → (e : Expression) (w : Tokens) → Spells l e w → PairForm l e w
  pair-opened here e w (pair k x o us vs d ts form is split first rest) = ((x, o), is, (us, vs, split, first, optional-opened o vs rest))
  pair-opened here e w (chain k x os us vs d ts other is split first rest) = cc
  pair-opened here e w (prefixed k o x os us d ts other is split first rest) = cc
  pair-opened here e w (plain k d ts other text) = cc
  pair-opened here e w (operand k d ts other text) = cc

  pair-shut : form_of l ≡ form.Pair → (p : Expression × Option Operation) (w : Tokens) → (Spells (next l) ⋅ Maybe (SpellsOperation l)) p w → Spells l (paired p) w
  pair-shut here p w text = pair l p.0 p.1 text.0 text.1 (paired p) w here refl text.2 text.3 (optional-shut p.1 text.1 text.4)

  prefix-opened : form_of l ≡ form.Prefix → (e : Expression) (w : Tokens) → Spells l e w → (UnaryForm l ∣ Spells (next l)) e w
  prefix-opened here e w (prefixed k o x os us d ts form is split first rest) = inl ((o, x), is, (os, us, split, first, rest))
  prefix-opened here e w (plain k d ts form text) = inr text
  prefix-opened here e w (chain k x os us vs d ts other is split first rest) = cc
  prefix-opened here e w (pair k x o us vs d ts other is split first rest) = cc
  prefix-opened here e w (operand k d ts other text) = cc

  prefix-shut : form_of l ≡ form.Prefix → (e : Expression) (w : Tokens) → (UnaryForm l ∣ Spells (next l)) e w → Spells l e w
  prefix-shut here e w (inl made) = prefixed l made.0.0 made.0.1 made.2.0 made.2.1 e w here made.1 made.2.2 made.2.3 made.2.4
  prefix-shut here e w (inr text) = plain l e w here text

  pub operand-opened : form_of l ≡ form.Operand → (e : Expression) (w : Tokens) → Spells l e w → SpellsOperand e w
  operand-opened here e w (operand k d ts form text) = text
  operand-opened here e w (chain k x os us vs d ts other is split first rest) = cc
  operand-opened here e w (pair k x o us vs d ts other is split first rest) = cc
  operand-opened here e w (prefixed k o x os us d ts other is split first rest) = cc
  operand-opened here e w (plain k d ts other text) = cc

  pub operand-shut : form_of l ≡ form.Operand → (e : Expression) (w : Tokens) → SpellsOperand e w → Spells l e w
  operand-shut here e w text = operand l e w here text

  operation-opened : (o : Operation) (w : Tokens) → SpellsOperation l o w → OperationForm l o w
  operation-opened o w (operation k p x os us all ts is split first rest) = ((p, x), is, (os, us, split, first, rest))

  operation-shut : (p : (Place × BinaryOperator) × Expression) (w : Tokens) → (One (one_listed (infixes l)) ⋅ Spells (right l)) p w → SpellsOperation l (operation_of p) w
  operation-shut p w text = operation l p.0 p.1 text.0 text.1 (operation_of p) w refl text.2 text.3 text.4

  pub unary-begins : Begins (one_of (shapes_of (prefixes l))) true (UnaryForm l)
  unary-begins e w m made =
      then-begins (one_of (shapes_of (prefixes l))) true (One (one_listed (prefixes l))) (Spells l) (listed-begins (prefixes l)) made.0 w m made.2

  pub operation-begins : Begins (one_of (shapes_of (infixes l))) true (SpellsOperation l)
  operation-begins o w m text =
      let made = operation-opened o w text in
      then-begins (one_of (shapes_of (infixes l))) true (One (one_listed (infixes l))) (Spells (right l)) (listed-begins (infixes l)) made.0 w m made.2

  module _ (before : Tokens) where
    pub chain_opening : form_of l ≡ form.Chain → Leaves (Spells l) (Ends l) before before chained_of (Spells (next l) ⋅ Each (SpellsOperation l))
    chain_opening here = begun (Spells l) (Ends l) before chained_of (Spells (next l) ⋅ Each (SpellsOperation l)) (chain-opened here) (chain-shut here)

    pub pair_opening : form_of l ≡ form.Pair → Leaves (Spells l) (Ends l) before before paired (Spells (next l) ⋅ Maybe (SpellsOperation l))
    pair_opening here = begun (Spells l) (Ends l) before paired (Spells (next l) ⋅ Maybe (SpellsOperation l)) (pair-opened here) (pair-shut here)

    pub prefix_opening : form_of l ≡ form.Prefix → Leaves (Spells l) (Ends l) before before (λ e. e) (UnaryForm l ∣ Spells (next l))
    prefix_opening here = begun (Spells l) (Ends l) before (λ e. e) (UnaryForm l ∣ Spells (next l)) (λ e w text. (e, refl, prefix-opened here e w text)) (prefix-shut here)

    pub operation_opening : Leaves (SpellsOperation l) (Ends (right l)) before before operation_of (One (one_listed (infixes l)) ⋅ Spells (right l))
    operation_opening = begun (SpellsOperation l) (Ends (right l)) before operation_of (One (one_listed (infixes l)) ⋅ Spells (right l)) operation-opened operation-shut

-- what an expression of the next level begins with an expression of the level may begin with
starts-up : (l : Level) (m : Tokens) → begins (one_of (starts (next l))) m ≡ true → begins (one_of (starts l)) m ≡ true
starts-up l m is =
    subst (λ s. begins (one_of s) m ≡ true) (sym (starts-is l)) (begins-more (shapes_of (prefixes l)) (starts (next l)) m is)

-- how the texts of a level begin
pub spells-begins : (l : Level) → Begins (one_of (starts l)) true (Spells l)
spells-begins l e w m (chain k x os us vs d ts form is split first rest) =
    starts-up l (w ++ m) (ap (λ (u : Tokens). begins (one_of (starts (next l))) (u ++ m)) split ∙ ap (begins (one_of (starts (next l)))) (append_assoc us vs m) ∙ spells-begins (next l) x us (vs ++ m) first)
spells-begins l e w m (pair k x o us vs d ts form is split first rest) =
    starts-up l (w ++ m) (ap (λ (u : Tokens). begins (one_of (starts (next l))) (u ++ m)) split ∙ ap (begins (one_of (starts (next l)))) (append_assoc us vs m) ∙ spells-begins (next l) x us (vs ++ m) first)
spells-begins l e w m (prefixed k o x os us d ts form is split first rest) =
    subst (λ s. begins (one_of s) (w ++ m) ≡ true) (sym (starts-is l))
    (begins-left (One (one_listed (prefixes l)) ⋅ Spells l) (shapes_of (prefixes l)) (starts (next l))
    (then-begins (one_of (shapes_of (prefixes l))) true (One (one_listed (prefixes l))) (Spells l) (listed-begins (prefixes l))) (o, x) w m (os, us, split, first, rest))
spells-begins l e w m (plain k d ts form text) = starts-up l (w ++ m) (spells-begins (next l) e w m text)
spells-begins l e w m (operand k d ts form text) = starts-operand l form (w ++ m) (operand-begins e w m text)
