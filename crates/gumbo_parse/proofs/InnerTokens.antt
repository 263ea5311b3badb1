-- No token of an expression begins or ends a clause.
use Rattle.std.proofs.Common.{◌≡◌, ℕ, ◌+◌, Bool, true, false, if◌then◌else◌, List, [], ◌∷◌, ◌++◌, map, refl, sym, subst}
use Rattle.std.proofs.lemmas.Bool.{false≢true}
use Rattle.std.specs.List.{flat_map}
use Rattle.gumbo_parse.specs.declared.level.Level.TheVariants as level
use Rattle.gumbo_parse.specs.declared.level.Level.{Level}
use Rattle.gumbo_parse.specs.declared.expression.Bound.{Bound}
use Rattle.gumbo_parse.specs.declared.expression.Expression.{Expression}
use Rattle.gumbo_parse.specs.declared.expression.Expression.TheVariants as expression
use Rattle.gumbo_parse.specs.declared.expression.Named.{Named}
use Rattle.gumbo_parse.specs.declared.expression.Selector.{Selector}
use Rattle.gumbo_parse.specs.declared.flaw.Spot.TheVariants as spot
use Rattle.gumbo_parse.specs.declared.mark.Mark.TheVariants as mark
use Rattle.gumbo_parse.specs.declared.operator.BinaryOperator.{BinaryOperator}
use Rattle.gumbo_parse.specs.declared.operator.BinaryOperator.TheVariants as binary
use Rattle.gumbo_parse.specs.declared.operator.PortTest.{PortTest}
use Rattle.gumbo_parse.specs.declared.operator.PortTest.TheVariants as port_test
use Rattle.gumbo_parse.specs.declared.operator.Quantifier.{Quantifier}
use Rattle.gumbo_parse.specs.declared.operator.Quantifier.TheVariants.{ForAll, Exists}
use Rattle.gumbo_parse.specs.declared.operator.UnaryOperator.{UnaryOperator}
use Rattle.gumbo_parse.specs.declared.operator.UnaryOperator.TheVariants as unary
use Rattle.gumbo_parse.specs.declared.token.Token.{Token}
use Rattle.gumbo_parse.specs.declared.token.Token.TheVariants as token
use Rattle.gumbo_parse.specs.declared.word.Word.TheVariants as word
use Rattle.gumbo_parse.specs.ExpressionTokens.{Written, in_parentheses, unary_token, binary_token, truth_word, sign_tokens, bound_tokens, port_tokens, quantification_tokens, expression_tokens, selector_tokens}
use Rattle.gumbo_parse.specs.FarTokens.{stays_in_clause}
use Rattle.gumbo_parse.specs.Flaws.{spot_behind}
use Rattle.gumbo_parse.specs.Levels.{unary_level, binary_level, left_level, right_level, is_looser}
use Rattle.gumbo_parse.specs.Operators.{test_word}
use Rattle.gumbo_parse.proofs.ExpressionInduction.{OfEach, of_each_expression}
use Rattle.gumbo_parse.proofs.TokensOfExpressions.{tokens-Number, tokens-Truth, tokens-Value, tokens-Before, tokens-Test, tokens-MustSend, tokens-Unary, tokens-Binary, tokens-Quantified, tokens-Field, tokens-Index}

-- tokens of which none begins or ends a clause
abbrev pub Inner : List Token → Type 0
Inner [] = Unit {0}
Inner (t ∷ ts) = (stays_in_clause t ≡ true) × Inner ts

-- such a token is one more of an expression
pub one-more : (t : Token) (n : ℕ) → stays_in_clause t ≡ true → spot_behind (spot.Expression n) t ≡ spot.Expression (n + 1)
one-more (token.Word word.Assume) n e = absurd (false≢true e)
one-more (token.Word word.Guarantee) n e = absurd (false≢true e)
one-more (token.Word w) n e = refl
one-more (token.Mark mark.Semicolon) n e = absurd (false≢true e)
one-more (token.Mark m) n e = refl
one-more t n e = refl

both : (us vs : List Token) → Inner us → Inner vs → Inner (us ++ vs)
both [] vs a b = b
both (u ∷ us) vs a b = (a.0, both us vs a.1 b)

all : (tss : List (List Token)) → OfEach Inner tss → Inner (flat_map (λ ts. ts) tss)
all [] each = tt
all (ts ∷ tss) each = both ts (flat_map (λ us. us) tss) each.0 (all tss each.1)

enclosed : (us : List Token) → Inner us → Inner (in_parentheses us)
enclosed us a = (refl, both us (token.Mark mark.CloseParenthesis ∷ []) a (refl, tt))

grouped : (b : Bool) (us : List Token) → Inner us → Inner (if b then in_parentheses us else us)
grouped true us a = enclosed us a
grouped false us a = a

truth : (b : Bool) → Inner (token.Word (truth_word b) ∷ [])
truth true = (refl, tt)
truth false = (refl, tt)

a_test : (what : PortTest) (x : Named) → Inner (port_tokens (test_word what) x)
a_test port_test.HasEvent x = (refl, (refl, (refl, (refl, tt))))
a_test port_test.NoSend x = (refl, (refl, (refl, (refl, tt))))
a_test port_test.MustSend x = (refl, (refl, (refl, (refl, tt))))

signed : (negative : Bool) (v : ℕ) → Inner (sign_tokens negative ++ token.Number v ∷ [])
signed true v = (refl, (refl, tt))
signed false v = (refl, tt)

bound : (b : Bound) → Inner (bound_tokens b)
bound b = signed b.negative b.number

range : (from below : Bound) → Inner (bound_tokens from ++ token.Mark mark.Below ∷ [] ++ bound_tokens below ++ token.Mark mark.Colon ∷ [])
range from below =
    both (bound_tokens from ++ token.Mark mark.Below ∷ [] ++ bound_tokens below) (token.Mark mark.Colon ∷ [])
    (both (bound_tokens from ++ token.Mark mark.Below ∷ []) (bound_tokens below) (both (bound_tokens from) (token.Mark mark.Below ∷ []) (bound from) (refl, tt)) (bound below)) (refl, tt)

heading : (all_of : Quantifier) (x : Named) (from below : Bound) → Inner (quantification_tokens all_of x from below)
heading ForAll x from below = (refl, (refl, (refl, range from below)))
heading Exists x from below = (refl, (refl, (refl, range from below)))

prefix : (o : UnaryOperator) (us : List Token) → Inner us → Inner (unary_token o ∷ us)
prefix unary.Not us a = (refl, a)
prefix unary.Minus us a = (refl, a)

infix_token : (o : BinaryOperator) → Inner (binary_token o ∷ [])
infix_token binary.Implies = (refl, tt)
infix_token _ = (refl, tt)

abbrev InEach : Expression → Type 0
InEach x = (wanted : Level) → Inner (expression_tokens x wanted)

abbrev InPart : Selector → Type 0
InPart s = Inner (selector_tokens s)

so : (f g : Written) → f ≡ g → ((wanted : Level) → Inner (g wanted)) → (wanted : Level) → Inner (f wanted)
so f g e a wanted = subst (λ (w : Written). Inner (w wanted)) (sym e) (a wanted)

part_tokens : (ps : List Selector) → OfEach InPart ps → OfEach Inner (map selector_tokens ps)
part_tokens [] each = tt
part_tokens (p ∷ ps) each = (each.0, part_tokens ps each.1)

pub expression_inner : (x : Expression) → InEach x
expression_inner = of_each_expression InEach InPart (record {
  number = λ at v. so (expression_tokens (expression.Number at v)) (λ wanted. token.Number v ∷ []) (tokens-Number at v) (λ wanted. (refl, tt));
  truth = λ at b. so (expression_tokens (expression.Truth at b)) (λ wanted. token.Word (truth_word b) ∷ []) (tokens-Truth at b) (λ wanted. truth b);
  value = λ x ps each.
      so (expression_tokens (expression.Value x ps)) (λ wanted. token.Name x.name ∷ flat_map (λ ts. ts) (map selector_tokens ps)) (tokens-Value x ps) (λ wanted. (refl, all (map selector_tokens ps) (part_tokens ps each)));
  before = λ at x ps each.
      so (expression_tokens (expression.Before at x ps)) (λ wanted. port_tokens word.In x ++ flat_map (λ ts. ts) (map selector_tokens ps)) (tokens-Before at x ps)
      (λ wanted. (refl, (refl, (refl, (refl, all (map selector_tokens ps) (part_tokens ps each))))));
  test = λ at what x. so (expression_tokens (expression.Test at what x)) (λ wanted. port_tokens (test_word what) x) (tokens-Test at what x) (λ wanted. a_test what x);
  must_send = λ at x start sent inner.
      so (expression_tokens (expression.MustSend at x start sent))
      (λ wanted. token.Word word.MustSend ∷ token.Mark mark.OpenParenthesis ∷ token.Name x.name ∷ token.Mark mark.Comma ∷ expression_tokens sent level.Implication ++ token.Mark mark.CloseParenthesis ∷ []) (tokens-MustSend at x start sent)
      (λ wanted. (refl, (refl, (refl, (refl, both (expression_tokens sent level.Implication) (token.Mark mark.CloseParenthesis ∷ []) (inner level.Implication) (refl, tt))))));
  unary = λ at o x inner.
      so (expression_tokens (expression.Unary at o x)) (λ wanted. if is_looser (unary_level o) wanted then in_parentheses (unary_token o ∷ expression_tokens x (unary_level o)) else unary_token o ∷ expression_tokens x (unary_level o))
      (tokens-Unary at o x) (λ wanted. grouped (is_looser (unary_level o) wanted) (unary_token o ∷ expression_tokens x (unary_level o)) (prefix o (expression_tokens x (unary_level o)) (inner (unary_level o))));
  binary = λ at o l r left right.
      let us : List Token = expression_tokens l (left_level o) ++ binary_token o ∷ [] ++ expression_tokens r (right_level o) in
      so (expression_tokens (expression.Binary at o l r)) (λ wanted. if is_looser (binary_level o) wanted then in_parentheses us else us) (tokens-Binary at o l r)
      (λ wanted. grouped (is_looser (binary_level o) wanted) us
      (both (expression_tokens l (left_level o) ++ binary_token o ∷ []) (expression_tokens r (right_level o))
      (both (expression_tokens l (left_level o)) (binary_token o ∷ []) (left (left_level o)) (infix_token o)) (right (right_level o))));
  quantified = λ at all_of x from below start body inner.
      let us : List Token = quantification_tokens all_of x from below ++ expression_tokens body level.Implication in
      so (expression_tokens (expression.Quantified at all_of x from below start body)) (λ wanted. in_parentheses us) (tokens-Quantified at all_of x from below start body)
      (λ wanted. enclosed us (both (quantification_tokens all_of x from below) (expression_tokens body level.Implication) (heading all_of x from below) (inner level.Implication)));
  field = λ x. subst Inner (sym (tokens-Field x)) (refl, (refl, tt));
  index = λ start x inner.
      subst Inner (sym (tokens-Index start x)) (refl, both (expression_tokens x level.Implication) (token.Mark mark.CloseBracket ∷ []) (inner level.Implication) (refl, tt));
})
