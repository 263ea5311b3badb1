-- The canonical text of an expression has its canonical tokens.
use Rattle.std.proofs.Common.{◌≡◌, ℕ, List, [], ◌∷◌, ◌++◌, codes, refl, sym, subst, append_assoc}
use Rattle.std.proofs.lemmas.List.{append-nil}
use Rattle.hw_text.specs.declared.place.Place.{Place}
use Rattle.c_tree.specs.declared.integer_type.IntegerType.{IntegerType}
use Rattle.c_tree.specs.declared.named.Named.{Named}
use Rattle.c_tree.specs.declared.operator.UnaryOperator.{UnaryOperator}
use Rattle.c_tree.specs.declared.operator.UnaryOperator.TheVariants as unary
use Rattle.c_tree.specs.declared.operator.BinaryOperator.{BinaryOperator}
use Rattle.c_tree.specs.declared.operator.BinaryOperator.TheVariants as binary
use Rattle.c_tree.specs.declared.print_expression.Position.{Position}
use Rattle.c_tree.specs.declared.print_expression.Position.TheVariants.{Whole, Operand, BehindMinus}
use Rattle.c_tree.specs.declared.expression.Lvalue.{Lvalue}
use Rattle.c_tree.specs.declared.expression.Expression.{Expression}
use Rattle.c_tree.specs.declared.expression.Expression.TheOpen as opened
use Rattle.c_tree.specs.declared.expression.Expression.TheViews.{roll-Expression, roll-Selector}
use Rattle.c_tree.specs.Expressions.{Text, opening, closing, unary_sign, position_behind, expression_text, lvalue_text}
use Rattle.c_tree.specs.Operators.{binary_text}
use Rattle.c_parse.specs.Marks.{mark_text}
use Rattle.c_parse.specs.PrintedExpressions.{Written, unary_mark, binary_mark, grouped_tokens, expression_tokens, lvalue_tokens}
use Rattle.c_parse.specs.declared.mark.Mark.TheVariants as mark
use Rattle.c_parse.specs.declared.token.Token.{Token}
use Rattle.c_parse.specs.declared.token.Token.TheVariants as token
use Rattle.c_tree.proofs.ExpressionInduction.{Cases, of_each_expression, of_each_lvalue}
use Rattle.c_parse.proofs.MarkFronts.{NoSign, NoEqual}
use Rattle.c_parse.proofs.PrintedPieces.{name, integer, closed, mark_space, minus, bang}
use Rattle.c_parse.proofs.WordFronts.{Ended}
use Rattle.c_parse.proofs.Written.{Writes, Anything, both, next, blank-behind, blank-before, space}
use Rattle.c_parse.proofs.WrittenOperands.{Fits, PartFits, LvalueFits, ExpressionFits, fits, part_fits, open_ended, number-fits, truth-fits, value-fits, lvalue-fits}

signed : (o : UnaryOperator) (p : Position) (text : Text) (tokens : Written) → Fits text tokens → Writes Ended (unary_sign o p ++ text (position_behind o)) (token.Mark (unary_mark o) ∷ tokens (position_behind o))
signed unary.Minus BehindMinus text tokens fit = both (blank-before (codes " ") space minus) (fit.written BehindMinus) (λ rest ended. fit.unsigned rest)
signed unary.Minus Whole text tokens fit = both minus (fit.written BehindMinus) (λ rest ended. fit.unsigned rest)
signed unary.Minus Operand text tokens fit = both minus (fit.written BehindMinus) (λ rest ended. fit.unsigned rest)
signed unary.Not p text tokens fit = both bang (fit.written Operand) (λ rest ended. fit.unequal rest)
signed unary.Complement p text tokens fit = next (closed mark.Tilde refl) (fit.written Operand)

unary-no-equal : (o : UnaryOperator) (s rest : List ℕ) → NoEqual (unary_sign o Operand ++ s ++ rest)
unary-no-equal unary.Minus s rest = refl
unary-no-equal unary.Not s rest = refl
unary-no-equal unary.Complement s rest = refl

unary-no-sign : (o : UnaryOperator) (s rest : List ℕ) → NoSign (unary_sign o BehindMinus ++ s ++ rest)
unary-no-sign unary.Minus s rest = (refl, refl)
unary-no-sign unary.Not s rest = (refl, refl)
unary-no-sign unary.Complement s rest = (refl, refl)

unary-fits : (start : Place) (o : UnaryOperator) (at : Place) (x : Expression) → ExpressionFits x → ExpressionFits (roll-Expression (opened.Unary start o at x))
unary-fits start o at x fit = fits (opened.Unary start o at x) (record {
  written = λ p. signed o p (expression_text x) (expression_tokens x) fit;
  unequal = λ rest. unary-no-equal o (expression_text x (position_behind o)) rest;
  unsigned = λ rest. unary-no-sign o (expression_text x (position_behind o)) rest;
})

cast-fits : (start : Place) (c : IntegerType) (at : Place) (x : Expression) → ExpressionFits x → ExpressionFits (roll-Expression (opened.Cast start c at x))
cast-fits start c at x fit = fits (opened.Cast start c at x) (record {
  written = λ p. next (both (next (closed mark.OpenParenthesis refl) (integer c)) (closed mark.CloseParenthesis refl) (λ rest any. refl)) (fit.written Operand);
  unequal = λ rest. refl;
  unsigned = λ rest. (refl, refl);
})

operator-text : (o : BinaryOperator) → binary_text o ≡ mark_text (binary_mark o)
operator-text binary.Or = refl
operator-text _ = refl

operator : (o : BinaryOperator) → Writes Anything (binary_text o ++ codes " ") (token.Mark (binary_mark o) ∷ [])
operator o = subst (λ (bs : List ℕ). Writes Anything (bs ++ codes " ") (token.Mark (binary_mark o) ∷ [])) (sym (operator-text o)) (mark_space (binary_mark o))

-- what an operator joins
joins : (o : BinaryOperator) (left right : List ℕ) (ls rs : List Token) → Writes Ended left ls → Writes Ended right rs → Writes Ended (left ++ codes " " ++ (binary_text o ++ codes " ") ++ right) (ls ++ token.Mark (binary_mark o) ∷ [] ++ rs)
joins o left right ls rs a b = next (next (blank-behind (codes " ") space a (λ rest. refl)) (operator o)) b

-- the same, as it is written
joined : (o : BinaryOperator) (left right : List ℕ) (ls rs : List Token) → Writes Ended left ls → Writes Ended right rs → Writes Ended (left ++ codes " " ++ binary_text o ++ codes " " ++ right) (ls ++ token.Mark (binary_mark o) ∷ [] ++ rs)
joined o left right ls rs a b =
    subst (λ (bs : List ℕ). Writes Ended (bs ++ right) (ls ++ token.Mark (binary_mark o) ∷ [] ++ rs)) (sym (append_assoc (left ++ codes " ") (binary_text o) (codes " ")))
    (joins o left right ls rs a b)

-- in parentheses or not
group : (p : Position) (s : List ℕ) (ts : List Token) → Writes Ended s ts → Writes Ended (opening p ++ s ++ closing p) (grouped_tokens p ts)
group Whole s ts text = subst (λ (bs : List ℕ). Writes Ended bs ts) (sym (append-nil s)) text
group Operand s ts text = open_ended (both (next (closed mark.OpenParenthesis refl) text) (closed mark.CloseParenthesis refl) (λ rest any. refl))
group BehindMinus s ts text = open_ended (both (next (closed mark.OpenParenthesis refl) text) (closed mark.CloseParenthesis refl) (λ rest any. refl))

grouped : (p : Position) (o : BinaryOperator) (l r : List ℕ) (ts : List Token) → Writes Ended (l ++ codes " " ++ binary_text o ++ codes " " ++ r) ts → Writes Ended (opening p ++ l ++ codes " " ++ binary_text o ++ codes " " ++ r ++ closing p) (grouped_tokens p ts)
grouped Whole o l r ts text = group Whole (l ++ codes " " ++ binary_text o ++ codes " " ++ r) ts text
grouped Operand o l r ts text = group Operand (l ++ codes " " ++ binary_text o ++ codes " " ++ r) ts text
grouped BehindMinus o l r ts text = group BehindMinus (l ++ codes " " ++ binary_text o ++ codes " " ++ r) ts text

binary-fits : (start : Place) (o : BinaryOperator) (at : Place) (l r : Expression) → ExpressionFits l → ExpressionFits r → ExpressionFits (roll-Expression (opened.Binary start o at l r))
binary-fits start o at l r a b =
    let left : List ℕ = expression_text l Operand in
    let right : List ℕ = expression_text r Operand in
    let ls : List Token = expression_tokens l Operand in
    let rs : List Token = expression_tokens r Operand in
    fits (opened.Binary start o at l r) (record {
      written = λ p. grouped p o left right (ls ++ token.Mark (binary_mark o) ∷ [] ++ rs) (joined o left right ls rs (a.written Operand) (b.written Operand));
      unequal = λ rest. refl;
      unsigned = λ rest. (refl, refl);
    })

member-fits : (x : Named) → PartFits (roll-Selector (opened.Member x))
member-fits x =
    part_fits (opened.Member x) (codes "." ++ x.name.bytes) (token.Mark mark.Dot ∷ token.Name x.name ∷ []) refl refl (next (closed mark.Dot refl) (name x.name)) (λ rest. refl)

index-fits : (x : Expression) → ExpressionFits x → PartFits (roll-Selector (opened.Index x))
index-fits x fit =
    part_fits (opened.Index x) (codes "[" ++ expression_text x Whole ++ codes "]") (token.Mark mark.OpenBracket ∷ expression_tokens x Whole ++ token.Mark mark.CloseBracket ∷ [])
    refl refl (open_ended (both (next (closed mark.OpenBracket refl) (fit.written Whole)) (closed mark.CloseBracket refl) (λ rest any. refl))) (λ rest. refl)

cases : Cases ExpressionFits PartFits LvalueFits
cases = record {
  number = number-fits;
  truth = truth-fits;
  value = value-fits;
  unary = unary-fits;
  cast = cast-fits;
  binary = binary-fits;
  member = member-fits;
  index = index-fits;
  lvalue = lvalue-fits;
}

pub expression : (x : Expression) → Writes Ended (expression_text x Whole) (expression_tokens x Whole)
expression x = (of_each_expression ExpressionFits PartFits LvalueFits cases x).written Whole

pub lvalue : (l : Lvalue) → Writes Ended (lvalue_text l) (lvalue_tokens l)
lvalue l = (of_each_lvalue ExpressionFits PartFits LvalueFits cases l).written
