-- The canonical text of an expression has its canonical tokens.
use Rattle.std.proofs.Common.{◌≡◌, ℕ, Bool, true, false, if◌then◌else◌, List, [], ◌∷◌, ◌++◌, codes, refl, sym, subst}
use Rattle.std.proofs.lemmas.List.{append-nil}
use Rattle.hw_text.specs.declared.place.Place.{Place}
use Rattle.gumbo_parse.specs.declared.level.Level.TheVariants as level
use Rattle.gumbo_parse.specs.declared.expression.Expression.{Expression}
use Rattle.gumbo_parse.specs.declared.expression.Expression.TheOpen as opened
use Rattle.gumbo_parse.specs.declared.expression.Expression.TheVariants as expression
use Rattle.gumbo_parse.specs.declared.expression.Named.{Named}
use Rattle.gumbo_parse.specs.declared.expression.Bound.{Bound}
use Rattle.gumbo_parse.specs.declared.expression.Selector.{Selector}
use Rattle.gumbo_parse.specs.declared.expression.Selector.TheVariants as selector
use Rattle.gumbo_parse.specs.declared.mark.Mark.TheVariants as mark
use Rattle.gumbo_parse.specs.declared.operator.BinaryOperator.{BinaryOperator}
use Rattle.gumbo_parse.specs.declared.operator.BinaryOperator.TheVariants as binary
use Rattle.gumbo_parse.specs.declared.operator.Quantifier.{Quantifier}
use Rattle.gumbo_parse.specs.declared.operator.UnaryOperator.{UnaryOperator}
use Rattle.gumbo_parse.specs.declared.operator.UnaryOperator.TheVariants as unary
use Rattle.gumbo_parse.specs.declared.token.Token.{Token}
use Rattle.gumbo_parse.specs.declared.token.Token.TheVariants as token
use Rattle.gumbo_parse.specs.declared.word.Word.TheVariants as word
use Rattle.gumbo_parse.specs.ExpressionTokens.{Written, in_parentheses, unary_token, binary_token, expression_tokens_step, expression_tokens, selector_tokens}
use Rattle.gumbo_parse.specs.Levels.{unary_level, binary_level, left_level, right_level, is_looser}
use Rattle.gumbo_parse.specs.Operators.{binary_text}
use Rattle.gumbo_parse.specs.Printing.{Text, grouped, opening, closing, sign_text, is_minus, expression_step, expression_text, selector_text}
use Rattle.gumbo_parse.proofs.ExpressionInduction.{of_each_expression}
use Rattle.gumbo_parse.proofs.ExpressionTexts.{text-Unary, text-Binary, text-Quantified, text-Field, text-Index}
use Rattle.gumbo_parse.proofs.NumberTokens.{NoSign}
use Rattle.gumbo_parse.proofs.Pieces.{Ended, Spaced, a_word, closed, any_mark, minus}
use Rattle.gumbo_parse.proofs.Phrases.{behind_dot, quantification}
use Rattle.gumbo_parse.proofs.TokensOfExpressions.{tokens-Unary, tokens-Binary, tokens-Quantified, tokens-Field, tokens-Index}
use Rattle.gumbo_parse.proofs.Written.{Writes}
use Rattle.hw_reading.proofs.Written.{both, blank-behind, blank-before, weaker}
use Rattle.gumbo_parse.proofs.WrittenOperands.{Fits, PartFits, ExpressionFits, fits-by, open_ended, number-fits, truth-fits, value-fits, before-fits, test-fits, must_send-fits}

-- in parentheses or not
group : (b : Bool) (s : List ℕ) (ts : List Token) → Writes Ended s ts → Writes Ended (opening b ++ s ++ closing b) (if b then in_parentheses ts else ts)
group true s ts text = open_ended (both (both (closed mark.OpenParenthesis refl) text (λ rest allowed ended. tt)) (closed mark.CloseParenthesis refl) (λ rest allowed any. (refl, refl)))
group false s ts text = subst (λ (bs : List ℕ). Writes Ended bs ts) (sym (append-nil s)) text

signed : (o : UnaryOperator) (after_minus : Bool) (text : Text) (tokens : Written) → Fits text tokens → Writes Ended (sign_text o after_minus ++ text (unary_level o) (is_minus o)) (unary_token o ∷ tokens (unary_level o))
signed unary.Not after_minus text tokens fits = both (blank-behind (codes " ") (λ rest. refl) (a_word word.Not) (λ rest. (refl, refl))) (fits.written level.Negation false) (λ rest allowed ended. tt)
signed unary.Minus false text tokens fits = both minus (fits.written level.Sign true) (λ rest allowed ended. fits.unsigned rest allowed)
signed unary.Minus true text tokens fits = both (blank-before (codes " ") (λ rest. refl) minus) (fits.written level.Sign true) (λ rest allowed ended. fits.unsigned rest allowed)

unary-no-sign : (o : UnaryOperator) (s rest : List ℕ) → NoSign (grouped (unary_level o) level.Sign (sign_text o true ++ s) ++ rest)
unary-no-sign unary.Not s rest = (refl, refl)
unary-no-sign unary.Minus s rest = (refl, refl)

unary-fits : (at : Place) (o : UnaryOperator) (x : Expression) → ExpressionFits x → ExpressionFits (expression.Unary at o x)
unary-fits at o x fits =
    let text = expression_text x in
    let tokens = expression_tokens x in
    let own = unary_level o in
    fits-by (expression_text (expression.Unary at o x)) (expression_step (opened.Unary at o text)) (expression_tokens (expression.Unary at o x)) (expression_tokens_step (opened.Unary at o tokens))
    (text-Unary at o x) (tokens-Unary at o x) (record {
      written = λ wanted after_minus.
          group (is_looser own wanted) (sign_text o after_minus ++ text own (is_minus o)) (unary_token o ∷ tokens own) (signed o after_minus text tokens fits);
      unsigned = λ rest allowed. unary-no-sign o (text own (is_minus o)) rest;
    })

spaced-word : (rest : List ℕ) → Spaced rest → Ended rest
spaced-word rest spaced = subst Ended (sym spaced.1) (refl, refl)

operator : (o : BinaryOperator) → Writes Spaced (binary_text o) (binary_token o ∷ [])
operator binary.Implies = weaker spaced-word (a_word word.Implies)
operator binary.Or = weaker spaced-word (a_word word.Or)
operator binary.And = weaker spaced-word (a_word word.And)
operator binary.Equal = any_mark mark.Equal
operator binary.NotEqual = any_mark mark.NotEqual
operator binary.Less = any_mark mark.Less
operator binary.LessOrEqual = any_mark mark.LessOrEqual
operator binary.Greater = any_mark mark.Greater
operator binary.GreaterOrEqual = any_mark mark.GreaterOrEqual
operator binary.Add = any_mark mark.Plus
operator binary.Subtract = any_mark mark.Minus
operator binary.Multiply = any_mark mark.Star
operator binary.Divide = any_mark mark.Slash
operator binary.Remainder = any_mark mark.Percent

-- what an operator joins
joins : (o : BinaryOperator) (left right : List ℕ) (ls rs : List Token) → Writes Ended left ls → Writes Ended right rs → Writes Ended (left ++ codes " " ++ binary_text o ++ codes " " ++ right) (ls ++ binary_token o ∷ [] ++ rs)
joins o left right ls rs a b =
    both (blank-behind (codes " ") (λ rest. refl)
    (both (blank-behind (codes " ") (λ rest. refl) a (λ rest. (refl, refl))) (operator o) (λ rest allowed spaced. tt)) (λ rest. (rest, refl)))
    b (λ rest allowed ended. tt)

binary-no-sign : (o : BinaryOperator) (s rest : List ℕ) → NoSign (grouped (binary_level o) level.Sign s ++ rest)
binary-no-sign binary.Implies s rest = (refl, refl)
binary-no-sign _ s rest = (refl, refl)

binary-fits : (at : Place) (o : BinaryOperator) (l r : Expression) → ExpressionFits l → ExpressionFits r → ExpressionFits (expression.Binary at o l r)
binary-fits at o l r a b =
    let left : List ℕ = expression_text l (left_level o) false in
    let right : List ℕ = expression_text r (right_level o) false in
    let ls : List Token = expression_tokens l (left_level o) in
    let rs : List Token = expression_tokens r (right_level o) in
    fits-by (expression_text (expression.Binary at o l r)) (expression_step (opened.Binary at o (expression_text l) (expression_text r)))
    (expression_tokens (expression.Binary at o l r)) (expression_tokens_step (opened.Binary at o (expression_tokens l) (expression_tokens r)))
    (text-Binary at o l r) (tokens-Binary at o l r) (record {
      written = λ wanted after_minus.
          group (is_looser (binary_level o) wanted) (left ++ codes " " ++ binary_text o ++ codes " " ++ right) (ls ++ binary_token o ∷ [] ++ rs)
          (joins o left right ls rs (a.written (left_level o) false) (b.written (right_level o) false));
      unsigned = λ rest allowed. binary-no-sign o (left ++ codes " " ++ binary_text o ++ codes " " ++ right) rest;
    })

quantified-fits : (at : Place) (all : Quantifier) (x : Named) (from below : Bound) (start : Place) (body : Expression) → ExpressionFits body → ExpressionFits (expression.Quantified at all x from below start body)
quantified-fits at all x from below start body fits =
    fits-by (expression_text (expression.Quantified at all x from below start body)) (expression_step (opened.Quantified at all x from below start (expression_text body)))
    (expression_tokens (expression.Quantified at all x from below start body)) (expression_tokens_step (opened.Quantified at all x from below start (expression_tokens body)))
    (text-Quantified at all x from below start body) (tokens-Quantified at all x from below start body) (record {
      written = λ wanted after_minus.
          open_ended (both (both (quantification all x from below) (fits.written level.Implication false) (λ rest allowed ended. tt)) (closed mark.CloseParenthesis refl) (λ rest allowed any. (refl, refl)));
      unsigned = λ rest allowed. (refl, refl);
    })

part-fits : (s : Selector) (text : List ℕ) (tokens : List Token) → selector_text s ≡ text → selector_tokens s ≡ tokens → Writes Ended text tokens → ((rest : List ℕ) → Ended (text ++ rest)) → PartFits s
part-fits s text tokens e is written ended = record {
  written = subst (λ (bs : List ℕ). Writes Ended bs (selector_tokens s)) (sym e) (subst (λ (ts : List Token). Writes Ended text ts) (sym is) written);
  ended = λ rest. subst (λ (bs : List ℕ). Ended (bs ++ rest)) (sym e) (ended rest);
}

field-fits : (x : Named) → PartFits (selector.Field x)
field-fits x =
    part-fits (selector.Field x) (codes "." ++ x.name) (token.Mark mark.Dot ∷ token.Name x.name ∷ []) (text-Field x) (tokens-Field x) (behind_dot x.name) (λ rest. (refl, refl))

index-fits : (start : Place) (x : Expression) → ExpressionFits x → PartFits (selector.Index start x)
index-fits start x fits =
    part-fits (selector.Index start x) (codes "[" ++ expression_text x level.Implication false ++ codes "]") (token.Mark mark.OpenBracket ∷ expression_tokens x level.Implication ++ token.Mark mark.CloseBracket ∷ [])
    (text-Index start x) (tokens-Index start x)
    (open_ended (both (both (closed mark.OpenBracket refl) (fits.written level.Implication false) (λ rest allowed ended. tt)) (closed mark.CloseBracket refl) (λ rest allowed any. (refl, refl))))
    (λ rest. (refl, refl))

all-fit : (x : Expression) → ExpressionFits x
all-fit = of_each_expression ExpressionFits PartFits (record {
  number = number-fits;
  truth = truth-fits;
  value = value-fits;
  before = before-fits;
  test = test-fits;
  must_send = must_send-fits;
  unary = unary-fits;
  binary = binary-fits;
  quantified = quantified-fits;
  field = field-fits;
  index = index-fits;
})

pub expression_written : (x : Expression) → Writes Ended (expression_text x level.Implication false) (expression_tokens x level.Implication)
expression_written x = (all-fit x).written level.Implication false
