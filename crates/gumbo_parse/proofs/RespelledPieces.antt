-- The canonical tokens of names, ports, bounds and the headings of quantifiers spell them.
use Rattle.std.proofs.Common.{◌≡◌, ℕ, Bool, true, false, is_some, List, [], ◌∷◌, ◌++◌, Option, Some, None, refl, ap, append_assoc}
use Rattle.std.specs.Option.{option_map}
use Rattle.hw_text.specs.declared.place.Place.{Place}
use Rattle.hw_text.specs.Language.{One}
use Rattle.hw_reading.specs.Shapes.{at_if}
use Rattle.gumbo_parse.specs.declared.shape.Shape.TheVariants as shape
use Rattle.gumbo_parse.specs.declared.expression.Bound.{Bound}
use Rattle.gumbo_parse.specs.declared.expression.Named.{Named}
use Rattle.gumbo_parse.specs.declared.mark.Mark.{Mark}
use Rattle.gumbo_parse.specs.declared.mark.Mark.TheVariants as mark
use Rattle.gumbo_parse.specs.declared.operator.Quantifier.{Quantifier}
use Rattle.gumbo_parse.specs.declared.operator.Quantifier.TheVariants.{ForAll, Exists}
use Rattle.gumbo_parse.specs.declared.quantification.Quantification.{Quantification}
use Rattle.gumbo_parse.specs.declared.token.Token.{Token}
use Rattle.gumbo_parse.specs.declared.token.Token.TheVariants as token
use Rattle.gumbo_parse.specs.declared.word.Word.{Word}
use Rattle.gumbo_parse.specs.declared.word.Word.TheVariants as word
use Rattle.gumbo_parse.specs.ExpressionTokens.{sign_tokens, bound_tokens, quantification_tokens}
use Rattle.gumbo_parse.specs.Grammar.{Sign, Keyword, Name, inside, SpellsPort, SpellsIn, asked_of, SpellsAsked, bound_of, SpellsBound, quantifiers, quantification_of, SpellsQuantification}
use Rattle.gumbo_parse.specs.Operators.{quantifier_word}
use Rattle.gumbo_parse.specs.Unplaced.{unplaced_named, unplaced_bound}
use Rattle.gumbo_parse.specs.Values.{start, place_of, name_of, number_of, one_listed}
use Rattle.gumbo_parse.proofs.Respelled.{Spelled, one, then, made, there, not-there, told_as}
use Rattle.gumbo_parse.specs.ShapeSamples.{same-word, same-mark}

-- a value beside its place
abbrev pub at_start : {X : Type 0} → Place × X → Place × X
at_start p = (start, p.1)

pub sign : (m : Mark) → Spelled (Sign m) (λ at. start) start (token.Mark m ∷ [])
sign m = one (place_of (shape.Mark m)) (λ at. start) start (token.Mark m) (λ at. at) (λ at. ap (λ (b : Bool). at_if b at) (same-mark m)) (λ at. refl)

pub keyword : (w : Word) → Spelled (Keyword w) (λ at. start) start (token.Word w ∷ [])
keyword w = one (place_of (shape.Word w)) (λ at. start) start (token.Word w) (λ at. at) (λ at. ap (λ (b : Bool). at_if b at) (same-word w)) (λ at. refl)

pub named : (n : Named) → Spelled Name unplaced_named (unplaced_named n) (token.Name n.name ∷ [])
named n = one name_of unplaced_named (unplaced_named n) (token.Name n.name) (λ at. record { name = n.name; place = at }) (λ at. refl) (λ at. refl)

pub number : (v : ℕ) → Spelled (One number_of) at_start (start, v) (token.Number v ∷ [])
number v = one number_of at_start (start, v) (token.Number v) (λ at. (at, v)) (λ at. refl) (λ at. refl)

-- "(" NAME ")"
pub port : (x : Named) → Spelled SpellsPort unplaced_named (unplaced_named x) (token.Mark mark.OpenParenthesis ∷ token.Name x.name ∷ token.Mark mark.CloseParenthesis ∷ [])
port x = made inside unplaced_named (λ p. refl) (then (sign mark.OpenParenthesis) (then (named x) (sign mark.CloseParenthesis)))

abbrev pub bare_asked : Place × Named → Place × Named
bare_asked p = (start, unplaced_named p.1)

-- "In" "(" NAME ")"
pub before_entry : (x : Named) → Spelled SpellsIn bare_asked (start, unplaced_named x) (token.Word word.In ∷ token.Mark mark.OpenParenthesis ∷ token.Name x.name ∷ token.Mark mark.CloseParenthesis ∷ [])
before_entry x = then (keyword word.In) (port x)

-- "MustSend" "(" NAME
pub asked : (x : Named) → Spelled SpellsAsked bare_asked (start, unplaced_named x) (token.Word word.MustSend ∷ token.Mark mark.OpenParenthesis ∷ token.Name x.name ∷ [])
asked x = made asked_of bare_asked (λ p. refl) (then (keyword word.MustSend) (then (sign mark.OpenParenthesis) (named x)))

some-same : (o : Option Place) → is_some o ≡ is_some (option_map (λ at. start) o)
some-same None = refl
some-same (Some at) = refl

bound-same : (p : Option Place × (Place × ℕ)) → unplaced_bound (bound_of p) ≡ bound_of (option_map (λ at. start) p.0, at_start p.1)
bound-same p = ap (λ (b : Bool). record { negative = b; number = p.1.1; place = start }) (some-same p.0)

-- [ "-" ] INT
signed : (negative : Bool) (v : ℕ) → Spelled SpellsBound unplaced_bound (record { negative = negative; number = v; place = start }) (sign_tokens negative ++ token.Number v ∷ [])
signed true v = made bound_of unplaced_bound bound-same (then (there (sign mark.Minus)) (number v))
signed false v = made bound_of unplaced_bound bound-same (then (not-there (Sign mark.Minus) (λ at. start)) (number v))

pub bound : (b : Bound) → Spelled SpellsBound unplaced_bound (unplaced_bound b) (bound_tokens b)
bound b = signed b.negative b.number

quantifier : (all : Quantifier) → Spelled (One (one_listed quantifiers)) at_start (start, all) (token.Word (quantifier_word all) ∷ [])
quantifier ForAll = one (one_listed quantifiers) at_start (start, ForAll) (token.Word word.ForAll) (λ at. (at, ForAll)) (λ at. refl) (λ at. refl)
quantifier Exists = one (one_listed quantifiers) at_start (start, Exists) (token.Word word.Exists) (λ at. (at, Exists)) (λ at. refl) (λ at. refl)

pub regroup-four : (a b c d : List Token) → a ++ (b ++ (c ++ d)) ≡ a ++ b ++ c ++ d
regroup-four a b c d = rw (append_assoc, append_assoc) refl

abbrev pub unplaced_heading : Quantification → Quantification
unplaced_heading q = record {
  place = start;
  quantifier = q.quantifier;
  variable = unplaced_named q.variable;
  from = unplaced_bound q.from;
  below = unplaced_bound q.below;
}

abbrev pub heading_of : Quantifier → Named → Bound → Bound → Quantification
heading_of all x from below = record { place = start; quantifier = all; variable = unplaced_named x; from = unplaced_bound from; below = unplaced_bound below }

-- ( "forall" | "exists" ) NAME "in" bound "..<" bound ":"
pub heading : (all : Quantifier) (x : Named) (from below : Bound) → Spelled SpellsQuantification unplaced_heading (heading_of all x from below) (quantification_tokens all x from below)
heading all x from below =
    told_as (ap (λ (l : List Token). token.Word (quantifier_word all) ∷ token.Name x.name ∷ token.Word word.In ∷ l) (regroup-four (bound_tokens from) (token.Mark mark.Below ∷ []) (bound_tokens below) (token.Mark mark.Colon ∷ []))) refl
    (made quantification_of unplaced_heading (λ p. refl)
    (then (quantifier all) (then (named x) (then (keyword word.In) (then (bound from) (then (sign mark.Below) (then (bound below) (sign mark.Colon))))))))
