-- The canonical tokens of expressions without an operator between operands spell them.
use Rattle.std.proofs.Common.{Bool, List, [], ◌∷◌, ◌++◌, refl, sym, ap, ◌∙◌, subst, IsTrue}
use Rattle.hw_text.specs.declared.place.Place.{Place}
use Rattle.hw_text.specs.Language.{One, ◌⋅◌}
use Rattle.c_tree.specs.Starts.{Layer, start_of_base}
use Rattle.c_tree.specs.declared.dialect.Dialect.{Dialect}
use Rattle.c_tree.specs.declared.integer_type.IntegerType.{IntegerType}
use Rattle.c_tree.specs.declared.named.Literal.{Literal}
use Rattle.c_tree.specs.declared.operator.UnaryOperator.{UnaryOperator}
use Rattle.c_tree.specs.declared.operator.UnaryOperator.TheVariants as unary_operator
use Rattle.c_tree.specs.declared.print_expression.Position.{Position}
use Rattle.c_tree.specs.declared.print_expression.Position.TheVariants.{Whole, Operand, BehindMinus}
use Rattle.c_tree.specs.declared.expression.Selector.{Selector}
use Rattle.c_tree.specs.declared.expression.Lvalue.{Lvalue}
use Rattle.c_tree.specs.declared.expression.Expression.{Expression}
use Rattle.c_tree.specs.declared.expression.Expression.TheFolds.{fold-roll-Expression, map-Expression}
use Rattle.c_tree.specs.declared.expression.Expression.TheOpen as opened
use Rattle.c_tree.specs.declared.expression.Expression.TheVariants as expression
use Rattle.c_tree.specs.declared.expression.Expression.TheViews.{roll-Expression}
use Rattle.c_tree.specs.Expressions.{position_behind}
use Rattle.c_tree.specs.Unplaced.{origin, unplaced_step, unplaced_part_step, unplaced_lvalue_step, unplaced_expression, unplaced_part, unplaced_lvalue}
use Rattle.c_parse.specs.ExpressionGrammar.{Sign, SpellsPrefix, SpellsLvalue, SpellsWhole}
use Rattle.c_parse.specs.ExpressionGrammar as grammar
use Rattle.c_parse.specs.Operators.{unary_of}
use Rattle.c_parse.specs.PartGrammar.{SpellsPart}
use Rattle.c_parse.specs.PrintedExpressions.{Written, unary_mark, expression_tokens_step, selector_tokens_step, lvalue_tokens_step, expression_tokens, selector_tokens, lvalue_tokens}
use Rattle.c_tree.specs.Dialects.{has_step, has_part_step, has_lvalue_step, has_expression, has_part, has_lvalue}
use Rattle.c_parse.specs.Values.{Tokens, integer_of}
use Rattle.c_parse.specs.declared.mark.Mark.TheVariants as mark
use Rattle.c_parse.specs.declared.token.Token.{Token}
use Rattle.c_parse.specs.declared.token.Token.TheVariants as token
use Rattle.c_parse.proofs.LevelsClimbed.{tightest}
use Rattle.c_parse.proofs.Respelled.{Respells, after, turned, one}
use Rattle.c_parse.proofs.RespelledWords.{sign, literal, integer, truth}
use Rattle.c_tree.proofs.UnplacedForms.{unplaced-Number, unplaced-Truth, unplaced-Value, unplaced-Unary, unplaced-Cast}

-- what an expression is, for where it stands
abbrev pub SpellsAt : Dialect → Position → Expression → Tokens → Type 0
SpellsAt dialect Whole = SpellsWhole dialect
SpellsAt dialect Operand = SpellsPrefix dialect
SpellsAt dialect BehindMinus = SpellsPrefix dialect

module _ (dialect : Dialect) where
  -- where it stands, an expression is spelled by its tokens
  pub record ReadAt (bare : Expression) (tokens : Written) : Type 0 where
    pub at : (p : Position) → Respells (SpellsAt dialect p) unplaced_expression bare (tokens p)

  pub record ExpressionRead (x : Expression) : Type 0 where
    pub read : IsTrue (has_expression dialect x) → ReadAt (unplaced_expression x) (expression_tokens x)

  pub record PartRead (s : Selector) : Type 0 where
    pub read : IsTrue (has_part dialect s) → Respells (SpellsPart dialect) unplaced_part (unplaced_part s) (selector_tokens s)

  pub record LvalueRead (l : Lvalue) : Type 0 where
    pub read : IsTrue (has_lvalue dialect l) → Respells (SpellsLvalue dialect) unplaced_lvalue (unplaced_lvalue l) (lvalue_tokens l)

  -- an expression is read as its form is
  pub form-read : (z : Layer) → (IsTrue (has_step dialect (map-Expression Expression Selector Lvalue Bool Bool Bool (has_expression dialect) (has_part dialect) (has_lvalue dialect) z)) → ReadAt (unplaced_step (map-Expression Expression Selector Lvalue Expression Selector Lvalue unplaced_expression unplaced_part unplaced_lvalue z)) (expression_tokens_step (map-Expression Expression Selector Lvalue Written (List Token) (List Token) expression_tokens selector_tokens lvalue_tokens z))) → ExpressionRead (roll-Expression z)
  form-read z read = record {
    read = λ allowed.
        subst (λ (x : Expression). ReadAt x (expression_tokens (roll-Expression z))) (sym (fold-roll-Expression Expression Selector Lvalue unplaced_step unplaced_part_step unplaced_lvalue_step z))
        (subst (λ (w : Written). ReadAt (unplaced_step (map-Expression Expression Selector Lvalue Expression Selector Lvalue unplaced_expression unplaced_part unplaced_lvalue z)) w) (sym (fold-roll-Expression Written (List Token) (List Token) expression_tokens_step selector_tokens_step lvalue_tokens_step z))
        (read (subst (λ (b : Bool). IsTrue b) (fold-roll-Expression Bool Bool Bool (has_step dialect) (has_part_step dialect) (has_lvalue_step dialect) z) allowed)));
  }

  pub whole-of : {g : Expression → Expression} {z : Expression} {us : List Token} → Respells (SpellsPrefix dialect) g z us → Respells (SpellsWhole dialect) g z us
  whole-of text = turned (λ x. x) (λ x ts spelled. tightest dialect x ts 10 1 refl spelled) (λ x same. same) text

  -- what has no operator between operands stands in each place
  pub placed : {z : Expression} {us : List Token} → (p : Position) → Respells (SpellsPrefix dialect) unplaced_expression z us → Respells (SpellsAt dialect p) unplaced_expression z us
  placed Whole text = whole-of text
  placed Operand text = text
  placed BehindMinus text = text

  pub number-read : (start : Place) (l : Literal) → ExpressionRead (roll-Expression (opened.Number start l))
  number-read start l = form-read (opened.Number start l) (λ allowed. record {
    at = λ p. placed p
        (turned (λ (k : Literal). expression.Number k.place k) (λ k ts text. grammar.number dialect k (expression.Number k.place k) ts refl text)
        (λ k same. unplaced-Number k.place k ∙ ap (expression.Number origin) same) (literal l));
  })

  pub truth-read : (start : Place) (b : Bool) → ExpressionRead (roll-Expression (opened.Truth start b))
  truth-read start b = form-read (opened.Truth start b) (λ allowed. record {
    at = λ p. placed p
        (turned (λ (k : Place × Bool). expression.Truth k.0 k.1) (λ k ts text. grammar.truth dialect k (expression.Truth k.0 k.1) ts refl text)
        (λ k same. unplaced-Truth k.0 k.1 ∙ ap (λ (q : Place × Bool). expression.Truth origin q.1) same) (truth b));
  })

  pub value-read : (start : Place) (l : Lvalue) → LvalueRead l → ExpressionRead (roll-Expression (opened.Value start l))
  value-read start l inner = form-read (opened.Value start l) (λ allowed. record {
    at = λ p. placed p
        (turned (λ (k : Lvalue). expression.Value (start_of_base k.base) k) (λ k ts text. grammar.value dialect k (expression.Value (start_of_base k.base) k) ts refl text)
        (λ k same. unplaced-Value (start_of_base k.base) k ∙ ap (expression.Value origin) same) (inner.read allowed));
  })

  -- an operator before an operand, but for its place
  abbrev unary_bare : Place × UnaryOperator → Place × UnaryOperator
  unary_bare q = (origin, q.1)

  prefix_operator : (o : UnaryOperator) → Respells (One unary_of) unary_bare (origin, o) (token.Mark (unary_mark o) ∷ [])
  prefix_operator unary_operator.Minus = one unary_of (token.Mark mark.Minus) (λ at. (at, unary_operator.Minus)) (λ at. refl) (λ at. refl)
  prefix_operator unary_operator.Not = one unary_of (token.Mark mark.Bang) (λ at. (at, unary_operator.Not)) (λ at. refl) (λ at. refl)
  prefix_operator unary_operator.Complement = one unary_of (token.Mark mark.Tilde) (λ at. (at, unary_operator.Complement)) (λ at. refl) (λ at. refl)

  behind_operator : (o : UnaryOperator) {z : Expression} {w : Written} → ReadAt z w → Respells (SpellsPrefix dialect) unplaced_expression z (w (position_behind o))
  behind_operator unary_operator.Minus text = text.at BehindMinus
  behind_operator unary_operator.Not text = text.at Operand
  behind_operator unary_operator.Complement text = text.at Operand

  pub unary-read : (start : Place) (o : UnaryOperator) (at : Place) (x : Expression) → ExpressionRead x → ExpressionRead (roll-Expression (opened.Unary start o at x))
  unary-read start o at x inner = form-read (opened.Unary start o at x) (λ allowed. record {
    at = λ p. placed p
        (turned (λ (k : (Place × UnaryOperator) × Expression). expression.Unary k.0.0 k.0.1 k.0.0 k.1)
        (λ k ts text. grammar.unary dialect k.0 k.1 text.0 text.1 (expression.Unary k.0.0 k.0.1 k.0.0 k.1) ts refl text.2 text.3 text.4)
        (λ k same. unplaced-Unary k.0.0 k.0.1 k.0.0 k.1 ∙ ap (λ (q : (Place × UnaryOperator) × Expression). expression.Unary origin q.0.1 origin q.1) same)
        (after (prefix_operator o) (behind_operator o (inner.read allowed))));
  })

  abbrev CastParts : Type 0
  CastParts = Place × ((Place × IntegerType) × (Place × Expression))

  abbrev cast_of : CastParts → Expression
  cast_of k = expression.Cast k.0 k.1.0.1 k.0 k.1.1.1

  cast-spelled : (k : CastParts) (ts : Tokens) → (Sign mark.OpenParenthesis ⋅ One integer_of ⋅ Sign mark.CloseParenthesis ⋅ SpellsPrefix dialect) k ts → SpellsPrefix dialect (cast_of k) ts
  cast-spelled k ts text =
      let ps = text.0 in
      let more = text.4 in
      let cs = more.0 in
      let last = more.4 in
      grammar.cast dialect k.0 k.1.1.0 k.1.0 k.1.1.1 ps cs last.0 last.1 (cast_of k) ts refl
      (text.2 ∙ ap (λ (l : Tokens). ps ++ l) (more.2 ∙ ap (λ (l : Tokens). cs ++ l) last.2)) text.3 more.3 last.3 last.4

  pub cast-read : (start : Place) (c : IntegerType) (at : Place) (x : Expression) → ExpressionRead x → ExpressionRead (roll-Expression (opened.Cast start c at x))
  cast-read start c at x inner = form-read (opened.Cast start c at x) (λ allowed. record {
    at = λ p. placed p
        (turned cast_of cast-spelled
        (λ k same. unplaced-Cast k.0 k.1.0.1 k.0 k.1.1.1 ∙ ap (λ (q : CastParts). expression.Cast origin q.1.0.1 origin q.1.1.1) same)
        (after (sign mark.OpenParenthesis) (after (integer c) (after (sign mark.CloseParenthesis) ((inner.read allowed).at Operand)))));
  })
