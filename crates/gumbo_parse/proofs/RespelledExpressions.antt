-- The canonical tokens of expressions spell them.
use Rattle.std.proofs.Common.{◌≡◌, Bool, true, false, if◌then◌else◌, List, [], ◌∷◌, ◌++◌, Some, refl, sym, ap, ◌∙◌, subst, append_assoc}
use Rattle.hw_text.specs.declared.place.Place.{Place}
use Rattle.hw_text.specs.Language.{One}
use Rattle.gumbo_parse.specs.declared.expression.Expression.{Expression}
use Rattle.gumbo_parse.specs.declared.expression.Expression.TheVariants as expression
use Rattle.gumbo_parse.specs.declared.level.Level.{Level}
use Rattle.gumbo_parse.specs.declared.level.Level.TheVariants as level
use Rattle.gumbo_parse.specs.declared.level.Form.TheVariants as form
use Rattle.gumbo_parse.specs.declared.mark.Mark.TheVariants as mark
use Rattle.gumbo_parse.specs.declared.operation.Operation.{Operation}
use Rattle.gumbo_parse.specs.declared.operator.BinaryOperator.{BinaryOperator}
use Rattle.gumbo_parse.specs.declared.operator.BinaryOperator.TheVariants as binary
use Rattle.gumbo_parse.specs.declared.operator.UnaryOperator.{UnaryOperator}
use Rattle.gumbo_parse.specs.declared.operator.UnaryOperator.TheVariants as unary
use Rattle.gumbo_parse.specs.declared.token.Token.{Token}
use Rattle.gumbo_parse.specs.declared.token.Token.TheVariants as token
use Rattle.gumbo_parse.specs.declared.word.Word.TheVariants as word
use Rattle.gumbo_parse.specs.ExpressionTokens.{Written, in_parentheses, unary_token, binary_token, expression_tokens}
use Rattle.gumbo_parse.specs.Grammar.{Spells, SpellsGroup, applied, operation_of}
use Rattle.gumbo_parse.specs.Grammar as grammar
use Rattle.gumbo_parse.specs.Levels.{next, right, form_of, infixes, prefixes}
use Rattle.gumbo_parse.specs.Levels.{unary_level, binary_level, left_level, right_level, is_looser}
use Rattle.gumbo_parse.specs.Unplaced.{unplaced_expression}
use Rattle.gumbo_parse.specs.Values.{Tokens, start, one_listed}
use Rattle.gumbo_parse.proofs.ExpressionInduction.{of_each_expression}
use Rattle.gumbo_parse.proofs.LevelsClimbed.{loose, loosest, chain-more}
use Rattle.gumbo_parse.proofs.Respelled.{Spelled, one, onto, told_as, split}
use Rattle.gumbo_parse.proofs.RespelledPieces.{at_start}
use Rattle.gumbo_parse.proofs.RespelledOperands.{SpelledAt, Respells, PartRespells, operand, parenthesised, number_respells, truth_respells, value_respells, before_respells, test_respells, must_send_respells, quantified_respells, field_respells, index_respells}
use Rattle.gumbo_parse.proofs.TokensOfExpressions.{tokens-Unary, tokens-Binary}
use Rattle.gumbo_parse.proofs.UnplacedExpressions.{unplaced-Unary, unplaced-Binary}

-- an expression of a level, in parentheses where a tighter one is wanted
grouped : (own wanted : Level) (b : Bool) {z : Expression} {us : List Token} → is_looser own wanted ≡ b → SpelledAt own z us → SpelledAt wanted z (if b then in_parentheses us else us)
grouped own wanted true is text =
    operand wanted (parenthesised (onto SpellsGroup (λ y ts spelled. grammar.whole y ts (loose own level.Implication y ts (loosest own) spelled)) text))
grouped own wanted false is text =
    onto (Spells wanted) (λ y ts spelled. loose own wanted y ts is spelled) text

-- an operator of a level, as it is printed
abbrev Infix : Level → BinaryOperator → Type 0
Infix l o = Spelled (One (one_listed (infixes l))) at_start (start, o) (binary_token o ∷ [])

abbrev Expressed : Level → Expression → List Token → Type 0
Expressed l z us = Spelled (Spells l) unplaced_expression z us

binary-bare : (at : Place) (o other : BinaryOperator) (x y u v : Expression) → unplaced_expression x ≡ u → at_start (at, other) ≡ (start, o) → unplaced_expression y ≡ v → unplaced_expression (expression.Binary at other x y) ≡ expression.Binary start o u v
binary-bare at o other x y u v e sign f =
    unplaced-Binary at other x y ∙ ap (λ (k : Place × BinaryOperator). expression.Binary start k.1 (unplaced_expression x) (unplaced_expression y)) sign ∙
    ap (λ (k : Expression). expression.Binary start o k (unplaced_expression y)) e ∙ ap (λ (k : Expression). expression.Binary start o u k) f

module _ (l : Level) (o : BinaryOperator) (x y : Expression) (us vs : List Token) where
  abbrev whole : List Token
  whole = us ++ binary_token o ∷ [] ++ vs

  paired : form_of l ≡ form.Pair → Expressed (next l) x us → Infix l o → Expressed (right l) y vs → Expressed l (expression.Binary start o x y) whole
  paired is a sign b = record {
    read = λ ts e.
        let cut = split (us ++ binary_token o ∷ []) vs ts e in
        let front = split us (binary_token o ∷ []) cut.0 cut.3 in
        let p = a.read front.0 front.3 in
        let q = sign.read front.1 front.4 in
        let r = b.read cut.1 cut.4 in
        let behind : Tokens = front.1 ++ cut.1 in
        let more : Operation = operation_of (q.0, r.0) in
        let all : ts ≡ front.0 ++ behind = cut.2 ∙ ap (λ (w : Tokens). w ++ cut.1) front.2 ∙ append_assoc front.0 front.1 cut.1 in (
          applied p.0 more,
          grammar.pair l p.0 (Some more) front.0 behind (applied p.0 more) ts is refl all p.1
              (grammar.one_operation l more (Some more) behind refl (grammar.operation l q.0 r.0 front.1 cut.1 more behind refl refl q.1 r.1)),
          binary-bare q.0.0 o q.0.1 p.0 r.0 x y p.2 q.2 r.2,
        );
  }

  chained : form_of l ≡ form.Chain → Expressed l x us → Infix l o → Expressed (right l) y vs → Expressed l (expression.Binary start o x y) whole
  chained is a sign b = record {
    read = λ ts e.
        let cut = split (us ++ binary_token o ∷ []) vs ts e in
        let front = split us (binary_token o ∷ []) cut.0 cut.3 in
        let p = a.read front.0 front.3 in
        let q = sign.read front.1 front.4 in
        let r = b.read cut.1 cut.4 in
        let behind : Tokens = front.1 ++ cut.1 in
        let more : Operation = operation_of (q.0, r.0) in
        let all : ts ≡ front.0 ++ behind = cut.2 ∙ ap (λ (w : Tokens). w ++ cut.1) front.2 ∙ append_assoc front.0 front.1 cut.1 in (
          applied p.0 more,
          subst (λ (w : Tokens). Spells l (applied p.0 more) w) (sym all)
              (chain-more l p.0 front.0 more behind is p.1 (grammar.operation l q.0 r.0 front.1 cut.1 more behind refl refl q.1 r.1)),
          binary-bare q.0.0 o q.0.1 p.0 r.0 x y p.2 q.2 r.2,
        );
  }

infix_spelled : (o : BinaryOperator) → Infix (binary_level o) o
infix_spelled binary.Implies = one (one_listed (infixes level.Implication)) at_start (start, binary.Implies) (token.Word word.Implies) (λ at. (at, binary.Implies)) (λ at. refl) (λ at. refl)
infix_spelled o = one (one_listed (infixes (binary_level o))) at_start (start, o) (binary_token o) (λ at. (at, o)) (λ at. refl) (λ at. refl)

-- what an operator joins
joins : (o : BinaryOperator) (x y : Expression) (us vs : List Token) → SpelledAt (left_level o) x us → SpelledAt (right_level o) y vs → SpelledAt (binary_level o) (expression.Binary start o x y) (us ++ binary_token o ∷ [] ++ vs)
joins binary.Implies x y us vs a b = paired level.Implication binary.Implies x y us vs refl a (infix_spelled binary.Implies) b
joins binary.Or x y us vs a b = chained level.Disjunction binary.Or x y us vs refl a (infix_spelled binary.Or) b
joins binary.And x y us vs a b = chained level.Conjunction binary.And x y us vs refl a (infix_spelled binary.And) b
joins binary.Add x y us vs a b = chained level.Sum binary.Add x y us vs refl a (infix_spelled binary.Add) b
joins binary.Subtract x y us vs a b = chained level.Sum binary.Subtract x y us vs refl a (infix_spelled binary.Subtract) b
joins binary.Multiply x y us vs a b = chained level.Product binary.Multiply x y us vs refl a (infix_spelled binary.Multiply) b
joins binary.Divide x y us vs a b = chained level.Product binary.Divide x y us vs refl a (infix_spelled binary.Divide) b
joins binary.Remainder x y us vs a b = chained level.Product binary.Remainder x y us vs refl a (infix_spelled binary.Remainder) b
joins binary.Equal x y us vs a b = paired level.Comparison binary.Equal x y us vs refl a (infix_spelled binary.Equal) b
joins binary.NotEqual x y us vs a b = paired level.Comparison binary.NotEqual x y us vs refl a (infix_spelled binary.NotEqual) b
joins binary.Less x y us vs a b = paired level.Comparison binary.Less x y us vs refl a (infix_spelled binary.Less) b
joins binary.LessOrEqual x y us vs a b = paired level.Comparison binary.LessOrEqual x y us vs refl a (infix_spelled binary.LessOrEqual) b
joins binary.Greater x y us vs a b = paired level.Comparison binary.Greater x y us vs refl a (infix_spelled binary.Greater) b
joins binary.GreaterOrEqual x y us vs a b = paired level.Comparison binary.GreaterOrEqual x y us vs refl a (infix_spelled binary.GreaterOrEqual) b

binary_respells : (at : Place) (o : BinaryOperator) (l r : Expression) → Respells l → Respells r → Respells (expression.Binary at o l r)
binary_respells at o l r a b wanted =
    told_as (sym (ap (λ (w : Written). w wanted) (tokens-Binary at o l r))) (sym (unplaced-Binary at o l r))
    (grouped (binary_level o) wanted (is_looser (binary_level o) wanted) refl
    (joins o (unplaced_expression l) (unplaced_expression r) (expression_tokens l (left_level o)) (expression_tokens r (right_level o)) (a (left_level o)) (b (right_level o))))

abbrev Prefixed : Level → UnaryOperator → Type 0
Prefixed l o = Spelled (One (one_listed (prefixes l))) at_start (start, o) (unary_token o ∷ [])

signed : (l : Level) (o : UnaryOperator) (x : Expression) (us : List Token) → form_of l ≡ form.Prefix → Prefixed l o → Expressed l x us → Expressed l (expression.Unary start o x) (unary_token o ∷ us)
signed l o x us is sign a = record {
  read = λ ts e.
      let cut = split (unary_token o ∷ []) us ts e in
      let q = sign.read cut.0 cut.3 in
      let p = a.read cut.1 cut.4 in (
        expression.Unary q.0.0 q.0.1 p.0,
        grammar.prefixed l q.0 p.0 cut.0 cut.1 (expression.Unary q.0.0 q.0.1 p.0) ts is refl cut.2 q.1 p.1,
        unplaced-Unary q.0.0 q.0.1 p.0 ∙ ap (λ (k : Place × UnaryOperator). expression.Unary start k.1 (unplaced_expression p.0)) q.2 ∙
            ap (λ (k : Expression). expression.Unary start o k) p.2,
      );
}

leads : (o : UnaryOperator) (x : Expression) (us : List Token) → SpelledAt (unary_level o) x us → SpelledAt (unary_level o) (expression.Unary start o x) (unary_token o ∷ us)
leads unary.Not x us a =
    signed level.Negation unary.Not x us refl (one (one_listed (prefixes level.Negation)) at_start (start, unary.Not) (token.Word word.Not) (λ at. (at, unary.Not)) (λ at. refl) (λ at. refl)) a
leads unary.Minus x us a =
    signed level.Sign unary.Minus x us refl (one (one_listed (prefixes level.Sign)) at_start (start, unary.Minus) (token.Mark mark.Minus) (λ at. (at, unary.Minus)) (λ at. refl) (λ at. refl)) a

unary_respells : (at : Place) (o : UnaryOperator) (x : Expression) → Respells x → Respells (expression.Unary at o x)
unary_respells at o x a wanted =
    told_as (sym (ap (λ (w : Written). w wanted) (tokens-Unary at o x))) (sym (unplaced-Unary at o x))
    (grouped (unary_level o) wanted (is_looser (unary_level o) wanted) refl (leads o (unplaced_expression x) (expression_tokens x (unary_level o)) (a (unary_level o))))

-- the canonical tokens of an expression spell it in each place
pub respelled : (x : Expression) → Respells x
respelled = of_each_expression Respells PartRespells (record {
  number = number_respells;
  truth = truth_respells;
  value = value_respells;
  before = before_respells;
  test = test_respells;
  must_send = must_send_respells;
  unary = unary_respells;
  binary = binary_respells;
  quantified = quantified_respells;
  field = field_respells;
  index = index_respells;
})
