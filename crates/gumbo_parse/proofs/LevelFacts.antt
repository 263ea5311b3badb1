-- With which tokens expressions of a level begin, go on and end.
use Rattle.std.proofs.Common.{◌≡◌, refl, subst, List, [], ◌∷◌, ◌++◌, true}
use Rattle.hw_text.specs.Reading.{begins}
use Rattle.hw_reading.specs.Shapes.{shapes_of}
use Rattle.gumbo_parse.specs.declared.shape.Shape.{Shape}
use Rattle.gumbo_parse.specs.declared.shape.Shape.TheVariants as shape
use Rattle.gumbo_parse.specs.declared.level.Level.{Level}
use Rattle.gumbo_parse.specs.declared.level.Level.TheVariants as level
use Rattle.gumbo_parse.specs.declared.level.Form.TheVariants as form
use Rattle.gumbo_parse.specs.declared.mark.Mark.TheVariants as mark
use Rattle.gumbo_parse.specs.declared.word.Word.TheVariants as word
use Rattle.gumbo_parse.specs.Grammar.{truths, tests}
use Rattle.gumbo_parse.specs.Levels.{next, right, form_of, infixes, prefixes, part_shapes, goes_on, Ends}
use Rattle.gumbo_parse.specs.Values.{Tokens, one_of, Without, is_disjoint, name_shapes}
use Rattle.gumbo_parse.proofs.Shapes.{without-left, without-right}

goes-is : (l : Level) → goes_on l ≡ shapes_of (infixes l) ++ goes_on (next l)
goes-is level.Implication = refl
goes-is level.Disjunction = refl
goes-is level.Conjunction = refl
goes-is level.Negation = refl
goes-is level.Comparison = refl
goes-is level.Sum = refl
goes-is level.Product = refl
goes-is level.Sign = refl
goes-is level.Operand = refl

-- what ends an expression of a level ends one of the next
pub ends-next : (l : Level) (m : Tokens) → Ends l m → Ends (next l) m
ends-next l m ends = without-right (shapes_of (infixes l)) (goes_on (next l)) m (subst (λ s. Without s m) (goes-is l) ends)

-- and is no operator of the level
pub ends-infix : (l : Level) (m : Tokens) → Ends l m → Without (shapes_of (infixes l)) m
ends-infix l m ends = without-left (shapes_of (infixes l)) (goes_on (next l)) m (subst (λ s. Without s m) (goes-is l) ends)

pub ends-right : (l : Level) (m : Tokens) → Ends l m → Ends (right l) m
ends-right level.Implication m ends = ends
ends-right level.Disjunction m ends = ends-next level.Disjunction m ends
ends-right level.Conjunction m ends = ends-next level.Conjunction m ends
ends-right level.Negation m ends = ends-next level.Negation m ends
ends-right level.Comparison m ends = ends-next level.Comparison m ends
ends-right level.Sum m ends = ends-next level.Sum m ends
ends-right level.Product m ends = ends-next level.Product m ends
ends-right level.Sign m ends = ends-next level.Sign m ends
ends-right level.Operand m ends = ends

pub ends-operand : (l : Level) → form_of l ≡ form.Operand → (m : Tokens) → Ends l m → Without part_shapes m
ends-operand level.Implication is m ends = cc
ends-operand level.Disjunction is m ends = cc
ends-operand level.Conjunction is m ends = cc
ends-operand level.Negation is m ends = cc
ends-operand level.Comparison is m ends = cc
ends-operand level.Sum is m ends = cc
ends-operand level.Product is m ends = cc
ends-operand level.Sign is m ends = cc
ends-operand level.Operand is m ends = ends

-- no operator of a level is a token with which a tighter expression goes on
pub apart-next : (l : Level) → is_disjoint (shapes_of (infixes l)) (goes_on (next l)) ≡ true
apart-next level.Implication = refl
apart-next level.Disjunction = refl
apart-next level.Conjunction = refl
apart-next level.Negation = refl
apart-next level.Comparison = refl
apart-next level.Sum = refl
apart-next level.Product = refl
apart-next level.Sign = refl
apart-next level.Operand = refl

pub apart-right : (l : Level) → form_of l ≡ form.Chain → is_disjoint (shapes_of (infixes l)) (goes_on (right l)) ≡ true
apart-right level.Implication is = cc
apart-right level.Disjunction is = refl
apart-right level.Conjunction is = refl
apart-right level.Negation is = refl
apart-right level.Comparison is = refl
apart-right level.Sum is = refl
apart-right level.Product is = refl
apart-right level.Sign is = refl
apart-right level.Operand is = refl

-- the tokens with which operands begin
abbrev pub group_starts : List Shape
group_starts = shape.Mark mark.OpenParenthesis ∷ []

abbrev pub send_starts : List Shape
send_starts = (shape.Word word.MustSend ∷ []) ++ group_starts

abbrev pub before_starts : List Shape
before_starts = (shape.Word word.In ∷ []) ++ send_starts

abbrev pub value_starts : List Shape
value_starts = name_shapes ++ before_starts

abbrev pub test_starts : List Shape
test_starts = shapes_of tests ++ value_starts

abbrev pub truth_starts : List Shape
truth_starts = shapes_of truths ++ test_starts

abbrev pub operand_starts : List Shape
operand_starts = (shape.Number ∷ []) ++ truth_starts

abbrev pub sign_starts : List Shape
sign_starts = shapes_of (prefixes level.Sign) ++ operand_starts

abbrev pub negation_starts : List Shape
negation_starts = shapes_of (prefixes level.Negation) ++ sign_starts

-- the tokens with which expressions of a level begin
abbrev pub starts : Level → List Shape
starts level.Implication = negation_starts
starts level.Disjunction = negation_starts
starts level.Conjunction = negation_starts
starts level.Negation = negation_starts
starts level.Comparison = sign_starts
starts level.Sum = sign_starts
starts level.Product = sign_starts
starts level.Sign = sign_starts
starts level.Operand = operand_starts

pub starts-is : (l : Level) → starts l ≡ shapes_of (prefixes l) ++ starts (next l)
starts-is level.Implication = refl
starts-is level.Disjunction = refl
starts-is level.Conjunction = refl
starts-is level.Negation = refl
starts-is level.Comparison = refl
starts-is level.Sum = refl
starts-is level.Product = refl
starts-is level.Sign = refl
starts-is level.Operand = refl

-- no expression of the next level begins with an operator that stands before one of a level
pub apart-prefix : (l : Level) → form_of l ≡ form.Prefix → is_disjoint (starts (next l)) (shapes_of (prefixes l)) ≡ true
apart-prefix level.Implication is = refl
apart-prefix level.Disjunction is = refl
apart-prefix level.Conjunction is = refl
apart-prefix level.Negation is = refl
apart-prefix level.Comparison is = refl
apart-prefix level.Sum is = refl
apart-prefix level.Product is = refl
apart-prefix level.Sign is = refl
apart-prefix level.Operand is = refl

pub starts-operand : (l : Level) → form_of l ≡ form.Operand → (m : Tokens) → begins (one_of operand_starts) m ≡ true → begins (one_of (starts l)) m ≡ true
starts-operand level.Implication is m there = cc
starts-operand level.Disjunction is m there = cc
starts-operand level.Conjunction is m there = cc
starts-operand level.Negation is m there = cc
starts-operand level.Comparison is m there = cc
starts-operand level.Sum is m there = cc
starts-operand level.Product is m there = cc
starts-operand level.Sign is m there = cc
starts-operand level.Operand is m there = there
