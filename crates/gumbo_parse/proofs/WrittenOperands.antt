-- The canonical texts of operands have their canonical tokens.
use Rattle.std.proofs.Common.{◌≡◌, ℕ, Bool, true, false, List, [], ◌∷◌, ◌++◌, map, codes, refl, sym, subst, append_assoc}
use Rattle.std.proofs.lemmas.List.Elements.{All-head}
use Rattle.std.specs.List.{flat_map}
use Rattle.hw_text.specs.declared.place.Place.{Place}
use Rattle.gumbo_parse.specs.declared.level.Level.TheVariants as level
use Rattle.gumbo_parse.specs.declared.level.Level.{Level}
use Rattle.gumbo_parse.specs.declared.expression.Expression.{Expression}
use Rattle.gumbo_parse.specs.declared.expression.Expression.TheOpen as opened
use Rattle.gumbo_parse.specs.declared.expression.Expression.TheVariants as expression
use Rattle.gumbo_parse.specs.declared.expression.Named.{Named}
use Rattle.gumbo_parse.specs.declared.expression.Selector.{Selector}
use Rattle.gumbo_parse.specs.declared.mark.Mark.TheVariants as mark
use Rattle.gumbo_parse.specs.declared.operator.PortTest.{PortTest}
use Rattle.gumbo_parse.specs.declared.operator.PortTest.TheVariants as port_test
use Rattle.gumbo_parse.specs.declared.token.Token.{Token}
use Rattle.gumbo_parse.specs.declared.token.Token.TheVariants as token
use Rattle.gumbo_parse.specs.declared.word.Word.TheVariants as word
use Rattle.gumbo_parse.specs.Allowed.{IsAllowed, AreAllowed}
use Rattle.gumbo_parse.specs.ExpressionTokens.{Written, truth_word, expression_tokens_step, expression_tokens, selector_tokens}
use Rattle.gumbo_parse.specs.Operators.{test_word}
use Rattle.gumbo_parse.specs.Printing.{Text, truth_text, expression_step, expression_text, selector_text}
use Rattle.gumbo_parse.proofs.ExpressionInduction.{OfEach}
use Rattle.gumbo_parse.proofs.ExpressionTexts.{text-Number, text-Truth, text-Value, text-Before, text-Test, text-MustSend}
use Rattle.gumbo_parse.proofs.NumberTokens.{NoSign, number-no-sign}
use Rattle.gumbo_parse.proofs.Pieces.{Ended, name, a_word, number, closed, name-no-sign}
use Rattle.gumbo_parse.proofs.Phrases.{port}
use Rattle.gumbo_parse.proofs.TokensOfExpressions.{tokens-Number, tokens-Truth, tokens-Value, tokens-Before, tokens-Test, tokens-MustSend}
use Rattle.gumbo_parse.proofs.Written.{Writes}
use Rattle.hw_reading.proofs.Written.{Anything, both, blank-behind, weaker, nothing}

-- behind a minus it begins with no minus and no `>`, where it is as tight as a minus wants
abbrev pub Unsigned : Text → Written → Type 0
Unsigned text tokens = (rest : List ℕ) → AreAllowed (tokens level.Sign) → NoSign (text level.Sign true ++ rest)

-- in each place, a text with its tokens
pub record Fits (text : Text) (tokens : Written) : Type 0 where
  pub written : (wanted : Level) (after_minus : Bool) → Writes Ended (text wanted after_minus) (tokens wanted)
  pub unsigned : Unsigned text tokens

pub record PartFits (s : Selector) : Type 0 where
  pub written : Writes Ended (selector_text s) (selector_tokens s)
  pub ended : (rest : List ℕ) → Ended (selector_text s ++ rest)

abbrev pub ExpressionFits : Expression → Type 0
ExpressionFits x = Fits (expression_text x) (expression_tokens x)

pub fits-by : (f g : Text) (h k : Written) → f ≡ g → h ≡ k → Fits g k → Fits f h
fits-by f g h k e is fits = subst (λ (t : Text). Fits t h) (sym e) (subst (λ (w : Written). Fits g w) (sym is) fits)

pub open_ended : {s : List ℕ} {ts : List Token} → Writes Anything s ts → Writes Ended s ts
open_ended w = weaker (λ rest ended. tt) w

pub number-fits : (at : Place) (v : ℕ) → ExpressionFits (expression.Number at v)
number-fits at v =
    fits-by (expression_text (expression.Number at v)) (expression_step (opened.Number at v)) (expression_tokens (expression.Number at v)) (expression_tokens_step (opened.Number at v))
    (text-Number at v) (tokens-Number at v) (record {
      written = λ wanted after_minus. number v;
      unsigned = λ rest allowed. number-no-sign v rest (All-head IsAllowed (token.Number v) [] allowed);
    })

truth : (b : Bool) → Writes Ended (truth_text b) (token.Word (truth_word b) ∷ [])
truth true = a_word word.True
truth false = a_word word.False

truth-no-sign : (b : Bool) (rest : List ℕ) → NoSign (truth_text b ++ rest)
truth-no-sign true rest = (refl, refl)
truth-no-sign false rest = (refl, refl)

pub truth-fits : (at : Place) (b : Bool) → ExpressionFits (expression.Truth at b)
truth-fits at b =
    fits-by (expression_text (expression.Truth at b)) (expression_step (opened.Truth at b)) (expression_tokens (expression.Truth at b)) (expression_tokens_step (opened.Truth at b))
    (text-Truth at b) (tokens-Truth at b) (record { written = λ wanted after_minus. truth b; unsigned = λ rest allowed. truth-no-sign b rest })

-- parts, one behind the other
parts-ended : (ps : List Selector) → OfEach PartFits ps → (rest : List ℕ) → Ended rest → Ended (flat_map (λ t. t) (map selector_text ps) ++ rest)
parts-ended [] each rest ended = ended
parts-ended (p ∷ ps) each rest ended =
    subst Ended (sym (append_assoc (selector_text p) (flat_map (λ t. t) (map selector_text ps)) rest)) (each.0.ended (flat_map (λ t. t) (map selector_text ps) ++ rest))

parts : (ps : List Selector) → OfEach PartFits ps → Writes Ended (flat_map (λ t. t) (map selector_text ps)) (flat_map (λ ts. ts) (map selector_tokens ps))
parts [] each = nothing
parts (p ∷ ps) each = both each.0.written (parts ps each.1) (λ rest allowed ended. parts-ended ps each.1 rest ended)

pub value-fits : (x : Named) (ps : List Selector) → OfEach PartFits ps → ExpressionFits (expression.Value x ps)
value-fits x ps each =
    let texts = map selector_text ps in
    let tokens = map selector_tokens ps in
    fits-by (expression_text (expression.Value x ps)) (expression_step (opened.Value x texts)) (expression_tokens (expression.Value x ps)) (expression_tokens_step (opened.Value x tokens))
    (text-Value x ps) (tokens-Value x ps) (record {
      written = λ wanted after_minus. both (name x.name) (parts ps each) (λ rest allowed ended. parts-ended ps each rest ended);
      unsigned = λ rest allowed.
          subst NoSign (sym (append_assoc x.name (flat_map (λ t. t) texts) rest)) (name-no-sign x.name (flat_map (λ t. t) texts ++ rest) (flat_map (λ ts. ts) tokens) allowed);
    })

pub before-fits : (at : Place) (x : Named) (ps : List Selector) → OfEach PartFits ps → ExpressionFits (expression.Before at x ps)
before-fits at x ps each =
    let texts = map selector_text ps in
    let tokens = map selector_tokens ps in
    fits-by (expression_text (expression.Before at x ps)) (expression_step (opened.Before at x texts)) (expression_tokens (expression.Before at x ps)) (expression_tokens_step (opened.Before at x tokens))
    (text-Before at x ps) (tokens-Before at x ps) (record {
      written = λ wanted after_minus. both (port word.In x) (parts ps each) (λ rest allowed ended. tt);
      unsigned = λ rest allowed. (refl, refl);
    })

test-no-sign : (what : PortTest) (x : Named) (rest : List ℕ) → NoSign (expression_step (opened.Test (record { line = 1; column = 1 }) what x) level.Sign true ++ rest)
test-no-sign port_test.HasEvent x rest = (refl, refl)
test-no-sign port_test.NoSend x rest = (refl, refl)
test-no-sign port_test.MustSend x rest = (refl, refl)

pub test-fits : (at : Place) (what : PortTest) (x : Named) → ExpressionFits (expression.Test at what x)
test-fits at what x =
    fits-by (expression_text (expression.Test at what x)) (expression_step (opened.Test at what x)) (expression_tokens (expression.Test at what x)) (expression_tokens_step (opened.Test at what x))
    (text-Test at what x) (tokens-Test at what x) (record { written = λ wanted after_minus. open_ended (port (test_word what) x); unsigned = λ rest allowed. test-no-sign what x rest })

pub must_send-fits : (at : Place) (x : Named) (start : Place) (sent : Expression) → ExpressionFits sent → ExpressionFits (expression.MustSend at x start sent)
must_send-fits at x start sent fits =
    let text = expression_text sent in
    let tokens = expression_tokens sent in
    fits-by (expression_text (expression.MustSend at x start sent)) (expression_step (opened.MustSend at x start text))
    (expression_tokens (expression.MustSend at x start sent)) (expression_tokens_step (opened.MustSend at x start tokens))
    (text-MustSend at x start sent) (tokens-MustSend at x start sent) (record {
      written = λ wanted after_minus.
          open_ended
          (both (both (both (both (both (a_word word.MustSend) (closed mark.OpenParenthesis refl) (λ rest allowed any. (refl, refl)))
          (name x.name) (λ rest allowed ended. tt))
          (blank-behind (codes " ") (λ rest. refl) (closed mark.Comma refl) (λ rest. tt)) (λ rest allowed any. (refl, refl)))
          (fits.written level.Implication false) (λ rest allowed ended. tt))
          (closed mark.CloseParenthesis refl) (λ rest allowed any. (refl, refl)));
      unsigned = λ rest allowed. (refl, refl);
    })
