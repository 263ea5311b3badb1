-- Ports in parentheses, bounds and the headings of quantifiers, as they are written.
use Rattle.std.proofs.Common.{ℕ, pos, Bool, true, false, if◌then◌else◌, List, [], ◌∷◌, ◌++◌, codes, refl}
use Rattle.std.proofs.lemmas.List.Elements.{All-head}
use Rattle.std.specs.Fmt.{signed_decimal}
use Rattle.gumbo_parse.specs.declared.expression.Bound.{Bound}
use Rattle.gumbo_parse.specs.declared.expression.Named.{Named}
use Rattle.gumbo_parse.specs.declared.mark.Mark.TheVariants as mark
use Rattle.gumbo_parse.specs.declared.operator.Quantifier.{Quantifier}
use Rattle.gumbo_parse.specs.declared.token.Token.TheVariants as token
use Rattle.gumbo_parse.specs.declared.word.Word.{Word}
use Rattle.gumbo_parse.specs.declared.word.Word.TheVariants as word
use Rattle.gumbo_parse.specs.Allowed.{IsAllowed}
use Rattle.gumbo_parse.specs.ExpressionTokens.{port_tokens, sign_tokens, bound_tokens, quantification_tokens}
use Rattle.gumbo_parse.specs.Operators.{quantifier_word}
use Rattle.gumbo_parse.specs.Printing.{bound_text, in_parentheses_text, quantifier_text, range_text}
use Rattle.gumbo_parse.specs.Words.{word_spelling}
use Rattle.gumbo_parse.proofs.NumberTokens.{number-no-sign}
use Rattle.gumbo_parse.proofs.Written.{Writes}
use Rattle.hw_reading.proofs.Written.{Anything, both, blank-behind, blank-before}
use Rattle.gumbo_parse.proofs.Pieces.{Ended, name, a_word, in_word, number, closed, spaced, minus, dot, name-no-dot}

-- "." NAME
pub behind_dot : (n : List ℕ) → Writes Ended (codes "." ++ n) (token.Mark mark.Dot ∷ token.Name n ∷ [])
behind_dot n = both dot (name n) (λ rest allowed ended. name-no-dot n rest [] allowed)

-- word "(" NAME ")"
pub port : (w : Word) (x : Named) → Writes Anything (in_parentheses_text (word_spelling w) x) (port_tokens w x)
port w x =
    both (both (both (a_word w) (closed mark.OpenParenthesis refl) (λ rest allowed any. (refl, refl))) (name x.name) (λ rest allowed ended. tt))
    (closed mark.CloseParenthesis refl) (λ rest allowed any. (refl, refl))

-- [ "-" ] INT
bound_of : (negative : Bool) (v : ℕ) → Writes Ended ((if negative then codes "-" else []) ++ signed_decimal (pos v)) (sign_tokens negative ++ token.Number v ∷ [])
bound_of true v = both minus (number v) (λ rest allowed ended. number-no-sign v rest (All-head IsAllowed (token.Number v) [] allowed))
bound_of false v = number v

pub bound : (b : Bound) → Writes Ended (bound_text b) (bound_tokens b)
bound b = bound_of b.negative b.number

-- bound "..<" bound ":"
range : (from below : Bound) → Writes Anything (range_text from below) (bound_tokens from ++ token.Mark mark.Below ∷ [] ++ bound_tokens below ++ token.Mark mark.Colon ∷ [])
range from below =
    both (both (both (bound from) (blank-before (codes " ") (λ rest. refl) (spaced mark.Below)) (λ rest allowed any. (refl, refl)))
    (bound below) (λ rest allowed ended. tt)) (spaced mark.Colon) (λ rest allowed any. (refl, refl))

-- "(" ( "forall" | "exists" ) NAME "in"
heading : (all : Quantifier) (x : Named) → Writes Anything (quantifier_text all x) (token.Mark mark.OpenParenthesis ∷ token.Word (quantifier_word all) ∷ token.Name x.name ∷ token.Word word.In ∷ [])
heading all x =
    both (both (blank-behind (codes " ") (λ rest. refl) (both (closed mark.OpenParenthesis refl) (a_word (quantifier_word all)) (λ rest allowed ended. tt)) (λ rest. (refl, refl)))
    (name x.name) (λ rest allowed ended. tt))
    (blank-before (codes " ") (λ rest. refl) (blank-behind (codes " ") (λ rest. refl) in_word (λ rest. (refl, refl)))) (λ rest allowed any. (refl, refl))

pub quantification : (all : Quantifier) (x : Named) (from below : Bound) → Writes Anything (quantifier_text all x ++ range_text from below) (token.Mark mark.OpenParenthesis ∷ quantification_tokens all x from below)
quantification all x from below = both (heading all x) (range from below) (λ rest allowed any. tt)
