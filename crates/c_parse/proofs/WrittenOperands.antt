-- The canonical texts of operands, parts and lvalues have their canonical tokens.
use Rattle.std.proofs.Common.{◌≡◌, ℕ, Bool, true, false, List, [], ◌∷◌, ◌++◌, map, codes, refl, sym, subst, append_assoc}
use Rattle.std.specs.List.{flat_map}
use Rattle.hw_text.specs.declared.place.Place.{Place}
use Rattle.c_tree.specs.declared.named.Literal.{Literal}
use Rattle.c_tree.specs.declared.print_expression.Position.{Position}
use Rattle.c_tree.specs.declared.print_expression.Position.TheVariants.{Operand, BehindMinus}
use Rattle.c_tree.specs.declared.expression.Base.{Base}
use Rattle.c_tree.specs.declared.expression.Base.TheVariants as base
use Rattle.c_tree.specs.declared.expression.Selector.{Selector}
use Rattle.c_tree.specs.declared.expression.Lvalue.{Lvalue}
use Rattle.c_tree.specs.declared.expression.Expression.{Expression}
use Rattle.c_tree.specs.declared.expression.Expression.TheFolds.{fold-roll-Expression, fold-roll-Selector, fold-roll-Lvalue, map-Expression, map-Selector}
use Rattle.c_tree.specs.declared.expression.Expression.TheOpen.{Expression-F, Selector-F, Lvalue-F}
use Rattle.c_tree.specs.declared.expression.Expression.TheOpen as opened
use Rattle.c_tree.specs.declared.expression.Expression.TheViews.{roll-Expression, roll-Selector, roll-Lvalue}
use Rattle.c_tree.specs.Expressions.{Text, base_text, expression_step, selector_step, lvalue_step, expression_text, selector_text, lvalue_text}
use Rattle.c_tree.specs.Printing.{truth_text}
use Rattle.c_parse.specs.PrintedExpressions.{Written, base_tokens, expression_tokens_step, selector_tokens_step, lvalue_tokens_step, expression_tokens, selector_tokens, lvalue_tokens}
use Rattle.c_parse.specs.declared.mark.Mark.TheVariants as mark
use Rattle.c_parse.specs.declared.token.Token.{Token}
use Rattle.c_tree.proofs.ExpressionInduction.{OfEach}
use Rattle.c_parse.proofs.MarkFronts.{NoSign, NoEqual}
use Rattle.c_parse.proofs.PrintedPieces.{name, literal, truth, closed, NoOperator, name-no-operator, literal-no-operator}
use Rattle.c_parse.proofs.WordFronts.{Ended}
use Rattle.c_parse.proofs.Written.{Writes, Anything, both, next, weaker, nothing}

-- in each position, a text with its tokens, with which no operator before it goes on
pub record Fits (text : Text) (tokens : Written) : Type 0 where
  pub written : (p : Position) → Writes Ended (text p) (tokens p)
  pub unequal : (rest : List ℕ) → NoEqual (text Operand ++ rest)
  pub unsigned : (rest : List ℕ) → NoSign (text BehindMinus ++ rest)

pub record PartFits (s : Selector) : Type 0 where
  pub written : Writes Ended (selector_text s) (selector_tokens s)
  pub ended : (rest : List ℕ) → Ended (selector_text s ++ rest)

pub record LvalueFits (l : Lvalue) : Type 0 where
  pub written : Writes Ended (lvalue_text l) (lvalue_tokens l)
  pub begun : (rest : List ℕ) → NoOperator (lvalue_text l ++ rest)

abbrev pub ExpressionFits : Expression → Type 0
ExpressionFits x = Fits (expression_text x) (expression_tokens x)

abbrev pub Layer : Type 0
Layer = Expression-F Expression Selector Lvalue

-- an expression fits as its form does
pub fits : (z : Layer) → Fits (expression_step (map-Expression Expression Selector Lvalue Text (List ℕ) (List ℕ) expression_text selector_text lvalue_text z)) (expression_tokens_step (map-Expression Expression Selector Lvalue Written (List Token) (List Token) expression_tokens selector_tokens lvalue_tokens z)) → ExpressionFits (roll-Expression z)
fits z fit =
    subst (λ (t : Text). Fits t (expression_tokens (roll-Expression z))) (sym (fold-roll-Expression Text (List ℕ) (List ℕ) expression_step selector_step lvalue_step z))
    (subst (λ (w : Written). Fits (expression_step (map-Expression Expression Selector Lvalue Text (List ℕ) (List ℕ) expression_text selector_text lvalue_text z)) w) (sym (fold-roll-Expression Written (List Token) (List Token) expression_tokens_step selector_tokens_step lvalue_tokens_step z)) fit)

pub part_fits : (z : Selector-F Expression Selector Lvalue) (text : List ℕ) (tokens : List Token) → selector_step (map-Selector Expression Selector Lvalue Text (List ℕ) (List ℕ) expression_text selector_text lvalue_text z) ≡ text → selector_tokens_step (map-Selector Expression Selector Lvalue Written (List Token) (List Token) expression_tokens selector_tokens lvalue_tokens z) ≡ tokens → Writes Ended text tokens → ((rest : List ℕ) → Ended (text ++ rest)) → PartFits (roll-Selector z)
part_fits z text tokens e is written ended =
    let text-is = fold-roll-Selector Text (List ℕ) (List ℕ) expression_step selector_step lvalue_step z in
    let tokens-is = fold-roll-Selector Written (List Token) (List Token) expression_tokens_step selector_tokens_step lvalue_tokens_step z in
    record {
      written = subst (λ (bs : List ℕ). Writes Ended bs (selector_tokens (roll-Selector z))) (sym text-is)
          (subst (λ (ts : List Token). Writes Ended (selector_step (map-Selector Expression Selector Lvalue Text (List ℕ) (List ℕ) expression_text selector_text lvalue_text z)) ts) (sym tokens-is)
          (subst (λ (bs : List ℕ). Writes Ended bs (selector_tokens_step (map-Selector Expression Selector Lvalue Written (List Token) (List Token) expression_tokens selector_tokens lvalue_tokens z))) (sym e)
          (subst (λ (ts : List Token). Writes Ended text ts) (sym is) written)));
      ended = λ rest. subst (λ (bs : List ℕ). Ended (bs ++ rest)) (sym text-is) (subst (λ (bs : List ℕ). Ended (bs ++ rest)) (sym e) (ended rest));
    }

pub open_ended : {s : List ℕ} {ts : List Token} → Writes Anything s ts → Writes Ended s ts
open_ended w = weaker (λ rest ended. tt) w

pub number-fits : (start : Place) (l : Literal) → ExpressionFits (roll-Expression (opened.Number start l))
number-fits start l = fits (opened.Number start l) (record {
  written = λ p. literal l.numeral;
  unequal = λ rest. (literal-no-operator l.numeral rest).no_equal;
  unsigned = λ rest. (literal-no-operator l.numeral rest).no_sign;
})

truth-no-equal : (b : Bool) (rest : List ℕ) → NoEqual (truth_text b ++ rest)
truth-no-equal true rest = refl
truth-no-equal false rest = refl

truth-no-sign : (b : Bool) (rest : List ℕ) → NoSign (truth_text b ++ rest)
truth-no-sign true rest = (refl, refl)
truth-no-sign false rest = (refl, refl)

pub truth-fits : (start : Place) (b : Bool) → ExpressionFits (roll-Expression (opened.Truth start b))
truth-fits start b = fits (opened.Truth start b) (record {
  written = λ p. truth b;
  unequal = λ rest. truth-no-equal b rest;
  unsigned = λ rest. truth-no-sign b rest;
})

pub value-fits : (start : Place) (l : Lvalue) → LvalueFits l → ExpressionFits (roll-Expression (opened.Value start l))
value-fits start l fit = fits (opened.Value start l) (record {
  written = λ p. fit.written;
  unequal = λ rest. (fit.begun rest).no_equal;
  unsigned = λ rest. (fit.begun rest).no_sign;
})

-- parts, one behind the other
parts-ended : (ps : List Selector) → OfEach PartFits ps → (rest : List ℕ) → Ended rest → Ended (flat_map (λ t. t) (map selector_text ps) ++ rest)
parts-ended [] each rest ended = ended
parts-ended (p ∷ ps) each rest ended =
    let more = flat_map (λ t. t) (map selector_text ps) in
    subst Ended (sym (append_assoc (selector_text p) more rest)) (each.0.ended (more ++ rest))

parts : (ps : List Selector) → OfEach PartFits ps → Writes Ended (flat_map (λ t. t) (map selector_text ps)) (flat_map (λ ts. ts) (map selector_tokens ps))
parts [] each = nothing
parts (p ∷ ps) each = both each.0.written (parts ps each.1) (λ rest ended. parts-ended ps each.1 rest ended)

based : (b : Base) → Writes Ended (base_text b) (base_tokens b)
based (base.Variable x) = name x.name
based (base.Pointed at x) =
    open_ended (both (both (next (closed mark.OpenParenthesis refl) (closed mark.Star refl)) (name x.name) (λ rest ended. tt)) (closed mark.CloseParenthesis refl) (λ rest any. refl))
based (base.Member x m) = next (both (name x.name) (closed mark.Arrow refl) (λ rest any. refl)) (name m.name)

base-begun : (b : Base) (rest : List ℕ) → NoOperator (base_text b ++ rest)
base-begun (base.Variable x) rest = name-no-operator x.name rest
base-begun (base.Pointed at x) rest = record { no_sign = (refl, refl); no_equal = refl; no_and = refl }
base-begun (base.Member x m) rest =
    subst NoOperator (sym (append_assoc (x.name.bytes ++ codes "->") m.name.bytes rest))
    (subst NoOperator (sym (append_assoc x.name.bytes (codes "->") (m.name.bytes ++ rest)))
    (name-no-operator x.name (codes "->" ++ (m.name.bytes ++ rest))))

lvalue-is : (b : Base) (ps : List Selector) (text : List ℕ) (tokens : List Token) → lvalue_text (roll-Lvalue (record { base = b; parts = ps })) ≡ text → lvalue_tokens (roll-Lvalue (record { base = b; parts = ps })) ≡ tokens → Writes Ended text tokens → ((rest : List ℕ) → NoOperator (text ++ rest)) → LvalueFits (roll-Lvalue (record { base = b; parts = ps }))
lvalue-is b ps text tokens e is written begun = record {
  written = subst (λ (bs : List ℕ). Writes Ended bs (lvalue_tokens (roll-Lvalue (record { base = b; parts = ps })))) (sym e) (subst (λ (ts : List Token). Writes Ended text ts) (sym is) written);
  begun = λ rest. subst (λ (bs : List ℕ). NoOperator (bs ++ rest)) (sym e) (begun rest);
}

pub lvalue-fits : (b : Base) (ps : List Selector) → OfEach PartFits ps → LvalueFits (roll-Lvalue (record { base = b; parts = ps }))
lvalue-fits b ps each =
    let z : Lvalue-F Expression Selector Lvalue = record { base = b; parts = ps } in
    let texts = flat_map (λ t. t) (map selector_text ps) in
    let tokens = flat_map (λ ts. ts) (map selector_tokens ps) in
    lvalue-is b ps (base_text b ++ texts) (base_tokens b ++ tokens)
    (fold-roll-Lvalue Text (List ℕ) (List ℕ) expression_step selector_step lvalue_step z)
    (fold-roll-Lvalue Written (List Token) (List Token) expression_tokens_step selector_tokens_step lvalue_tokens_step z)
    (both (based b) (parts ps each) (λ rest ended. parts-ended ps each rest ended))
    (λ rest. subst NoOperator (sym (append_assoc (base_text b) texts rest)) (base-begun b (texts ++ rest)))
