-- The canonical tokens of operands spell them.
use Rattle.std.proofs.Common.{◌≡◌, inl, inr, ℕ, Bool, true, false, List, [], ◌∷◌, ◌++◌, map, Option, Some, None, refl, sym, ap, ◌∙◌}
use Rattle.std.specs.List.{flat_map}
use Rattle.std.specs.Option.{option_map}
use Rattle.hw_text.specs.declared.place.Place.{Place}
use Rattle.hw_text.specs.Language.{One}
use Rattle.gumbo_parse.specs.declared.level.Level.{Level}
use Rattle.gumbo_parse.specs.declared.expression.Bound.{Bound}
use Rattle.gumbo_parse.specs.declared.expression.Expression.{Expression}
use Rattle.gumbo_parse.specs.declared.expression.Expression.TheVariants as expression
use Rattle.gumbo_parse.specs.declared.expression.Named.{Named}
use Rattle.gumbo_parse.specs.declared.expression.Selector.{Selector}
use Rattle.gumbo_parse.specs.declared.expression.Selector.TheVariants as selector
use Rattle.gumbo_parse.specs.declared.level.Level.TheVariants as level
use Rattle.gumbo_parse.specs.declared.mark.Mark.TheVariants as mark
use Rattle.gumbo_parse.specs.declared.operator.PortTest.{PortTest}
use Rattle.gumbo_parse.specs.declared.operator.PortTest.TheVariants as port_test
use Rattle.gumbo_parse.specs.declared.operator.Quantifier.{Quantifier}
use Rattle.gumbo_parse.specs.declared.token.Token.{Token}
use Rattle.gumbo_parse.specs.declared.token.Token.TheVariants as token
use Rattle.gumbo_parse.specs.declared.word.Word.TheVariants as word
use Rattle.gumbo_parse.specs.ExpressionTokens.{Written, port_tokens, truth_word, in_parentheses, expression_tokens, selector_tokens}
use Rattle.gumbo_parse.specs.Grammar.{Name, Spells, SpellsOperand, SpellsStarted, SpellsSent, SpellsGroup, SpellsParts, SpellsPart, truths, tests, number_at, truth_at, test_of, sent_of, field_of, quantified_of, value_of, before_of, must_send_of, grouped_of, index_of, start_of}
use Rattle.gumbo_parse.specs.Grammar as grammar
use Rattle.gumbo_parse.specs.Operators.{test_word}
use Rattle.gumbo_parse.specs.Unplaced.{unplaced_named, unplaced_expression, unplaced_part}
use Rattle.gumbo_parse.specs.Values.{Tokens, start, one_listed}
use Rattle.gumbo_parse.proofs.ExpressionInduction.{OfEach}
use Rattle.gumbo_parse.proofs.LevelsClimbed.{operand_at}
use Rattle.gumbo_parse.proofs.OperandForms.{shut}
use Rattle.gumbo_parse.proofs.Respelled.{Spelled, one, then, made, onto, told_as, split, no-tokens}
use Rattle.gumbo_parse.proofs.RespelledPieces.{at_start, sign, named, number, port, before_entry, asked, bare_asked, heading}
use Rattle.gumbo_parse.proofs.TokensOfExpressions.{tokens-Number, tokens-Truth, tokens-Value, tokens-Before, tokens-Test, tokens-MustSend, tokens-Quantified, tokens-Field, tokens-Index}
use Rattle.gumbo_parse.proofs.UnplacedExpressions.{unplaced-Number, unplaced-Truth, unplaced-Value, unplaced-Before, unplaced-Test, unplaced-MustSend, unplaced-Quantified, unplaced-Field, unplaced-Index}

-- tokens that spell the expression at a level, wherever they stand
abbrev pub SpelledAt : Level → Expression → List Token → Type 0
SpelledAt wanted z us = Spelled (Spells wanted) unplaced_expression z us

-- in each place, an expression by its tokens
abbrev pub Respells : Expression → Type 0
Respells x = (wanted : Level) → SpelledAt wanted (unplaced_expression x) (expression_tokens x wanted)

abbrev pub PartRespells : Selector → Type 0
PartRespells s = Spelled SpellsPart unplaced_part (unplaced_part s) (selector_tokens s)

pub operand : (wanted : Level) {z : Expression} {us : List Token} → Spelled SpellsOperand unplaced_expression z us → SpelledAt wanted z us
operand wanted text = onto (Spells wanted) (λ y ts spelled. operand_at wanted y ts (grammar.operand level.Operand y ts refl spelled)) text

-- an expression as it stands alone, and where it begins
abbrev pub bare_started : Place × Expression → Place × Expression
bare_started p = (start, unplaced_expression p.1)

pub started : {z : Expression} {us : List Token} → SpelledAt level.Implication z us → Spelled SpellsStarted bare_started (start, z) us
started text = record {
  read = λ ts e.
      let p = text.read ts e in
      ((start_of ts, p.0), grammar.started p.0 (start_of ts, p.0) ts refl p.1, ap (λ (x : Expression). (start, x)) p.2);
}

-- "(" group ")"
pub parenthesised : {z : Expression} {us : List Token} → Spelled SpellsGroup unplaced_expression z us → Spelled SpellsOperand unplaced_expression z (in_parentheses us)
parenthesised text =
    onto SpellsOperand (λ y ts spelled. shut y ts (inr (inr (inr (inr (inr (inr spelled)))))))
    (made grouped_of unplaced_expression (λ p. refl) (then (sign mark.OpenParenthesis) (then text (sign mark.CloseParenthesis))))

pub number_respells : (at : Place) (v : ℕ) → Respells (expression.Number at v)
number_respells at v wanted =
    told_as (sym (ap (λ (w : Written). w wanted) (tokens-Number at v))) (sym (unplaced-Number at v))
    (operand wanted (onto SpellsOperand (λ y ts spelled. shut y ts (inl spelled)) (made number_at unplaced_expression (λ p. unplaced-Number p.0 p.1) (number v))))

truth : (b : Bool) → Spelled (One (one_listed truths)) at_start (start, b) (token.Word (truth_word b) ∷ [])
truth true = one (one_listed truths) at_start (start, true) (token.Word word.True) (λ at. (at, true)) (λ at. refl) (λ at. refl)
truth false = one (one_listed truths) at_start (start, false) (token.Word word.False) (λ at. (at, false)) (λ at. refl) (λ at. refl)

pub truth_respells : (at : Place) (b : Bool) → Respells (expression.Truth at b)
truth_respells at b wanted =
    told_as (sym (ap (λ (w : Written). w wanted) (tokens-Truth at b))) (sym (unplaced-Truth at b))
    (operand wanted (onto SpellsOperand (λ y ts spelled. shut y ts (inr (inl spelled))) (made truth_at unplaced_expression (λ p. unplaced-Truth p.0 p.1) (truth b))))

-- { part }
parts : (ps : List Selector) → OfEach PartRespells ps → Spelled SpellsParts (map unplaced_part) (map unplaced_part ps) (flat_map (λ ts. ts) (map selector_tokens ps))
parts [] all = record { read = λ ts e. ([], grammar.no_parts [] ts refl (no-tokens ts e), refl) }
parts (p ∷ ps) all = record {
  read = λ ts e.
      let cut = split (selector_tokens p) (flat_map (λ us. us) (map selector_tokens ps)) ts e in
      let first = all.0.read cut.0 cut.3 in
      let more = (parts ps all.1).read cut.1 cut.4 in (
        first.0 ∷ more.0,
        grammar.parts first.0 more.0 cut.0 cut.1 (first.0 ∷ more.0) ts refl cut.2 first.1 more.1,
        ap (λ (y : Selector). y ∷ map unplaced_part more.0) first.2 ∙ ap (λ (l : List Selector). unplaced_part p ∷ l) more.2,
      );
}

pub value_respells : (x : Named) (ps : List Selector) → OfEach PartRespells ps → Respells (expression.Value x ps)
value_respells x ps all wanted =
    told_as (sym (ap (λ (w : Written). w wanted) (tokens-Value x ps))) (sym (unplaced-Value x ps))
    (operand wanted (onto SpellsOperand (λ y ts spelled. shut y ts (inr (inr (inr (inl spelled)))))
    (made value_of unplaced_expression (λ p. unplaced-Value p.0 p.1) (then (named x) (parts ps all)))))

pub before_respells : (at : Place) (x : Named) (ps : List Selector) → OfEach PartRespells ps → Respells (expression.Before at x ps)
before_respells at x ps all wanted =
    told_as (sym (ap (λ (w : Written). w wanted) (tokens-Before at x ps))) (sym (unplaced-Before at x ps))
    (operand wanted (onto SpellsOperand (λ y ts spelled. shut y ts (inr (inr (inr (inr (inl spelled))))))
    (made before_of unplaced_expression (λ p. unplaced-Before p.0.0 p.0.1 p.1) (then (before_entry x) (parts ps all)))))

-- [ "," started ]
nothing_sent : Spelled SpellsSent (option_map bare_started) None []
nothing_sent = record { read = λ ts e. (None, grammar.nothing_sent None ts refl (no-tokens ts e), refl) }

something_sent : {z : Expression} {us : List Token} → SpelledAt level.Implication z us → Spelled SpellsSent (option_map bare_started) (Some (start, z)) (token.Mark mark.Comma ∷ us)
something_sent text =
    onto SpellsSent (λ y ts made. grammar.sent made.0.0 made.0.1 made.2.0 made.2.1 y ts made.1 made.2.2 made.2.3 made.2.4)
    (made (λ p. Some p.1) (option_map bare_started) (λ p. refl) (then (sign mark.Comma) (started text)))

sent-bare : (p : Place × Named) (s : Option (Place × Expression)) → unplaced_expression (sent_of p s) ≡ sent_of (bare_asked p) (option_map bare_started s)
sent-bare p None = unplaced-Test p.0 port_test.MustSend p.1
sent-bare p (Some v) = unplaced-MustSend p.0 p.1 v.0 v.1

-- "MustSend" "(" NAME sent ")"
must_send : (x : Named) {s : Option (Place × Expression)} {us : List Token} → Spelled SpellsSent (option_map bare_started) s us → Spelled SpellsOperand unplaced_expression (sent_of (start, unplaced_named x) s) (token.Word word.MustSend ∷ token.Mark mark.OpenParenthesis ∷ token.Name x.name ∷ (us ++ token.Mark mark.CloseParenthesis ∷ []))
must_send x text =
    onto SpellsOperand (λ y ts spelled. shut y ts (inr (inr (inr (inr (inr (inl spelled)))))))
    (made must_send_of unplaced_expression (λ p. sent-bare p.0 p.1.0) (then (asked x) (then text (sign mark.CloseParenthesis))))

-- what is asked of a port
a_test : (what : PortTest) (x : Named) → Spelled SpellsOperand unplaced_expression (expression.Test start what (unplaced_named x)) (port_tokens (test_word what) x)
a_test port_test.MustSend x = must_send x nothing_sent
a_test port_test.HasEvent x =
    onto SpellsOperand (λ y ts spelled. shut y ts (inr (inr (inl spelled))))
    (made test_of unplaced_expression (λ p. unplaced-Test p.0.0 p.0.1 p.1)
    (then (one (one_listed tests) at_start (start, port_test.HasEvent) (token.Word word.HasEvent) (λ at. (at, port_test.HasEvent)) (λ at. refl) (λ at. refl)) (port x)))
a_test port_test.NoSend x =
    onto SpellsOperand (λ y ts spelled. shut y ts (inr (inr (inl spelled))))
    (made test_of unplaced_expression (λ p. unplaced-Test p.0.0 p.0.1 p.1)
    (then (one (one_listed tests) at_start (start, port_test.NoSend) (token.Word word.NoSend) (λ at. (at, port_test.NoSend)) (λ at. refl) (λ at. refl)) (port x)))

pub test_respells : (at : Place) (what : PortTest) (x : Named) → Respells (expression.Test at what x)
test_respells at what x wanted = told_as (sym (ap (λ (w : Written). w wanted) (tokens-Test at what x))) (sym (unplaced-Test at what x)) (operand wanted (a_test what x))

pub must_send_respells : (at : Place) (x : Named) (begin : Place) (sent : Expression) → Respells sent → Respells (expression.MustSend at x begin sent)
must_send_respells at x begin sent respells wanted =
    told_as (sym (ap (λ (w : Written). w wanted) (tokens-MustSend at x begin sent))) (sym (unplaced-MustSend at x begin sent))
    (operand wanted (must_send x (something_sent (respells level.Implication))))

pub quantified_respells : (at : Place) (all : Quantifier) (x : Named) (from below : Bound) (begin : Place) (body : Expression) → Respells body → Respells (expression.Quantified at all x from below begin body)
quantified_respells at all x from below begin body respells wanted =
    told_as (sym (ap (λ (w : Written). w wanted) (tokens-Quantified at all x from below begin body))) (sym (unplaced-Quantified at all x from below begin body))
    (operand wanted (parenthesised (onto SpellsGroup (λ y ts made. grammar.quantified made.0.0 made.0.1 made.2.0 made.2.1 y ts made.1 made.2.2 made.2.3 made.2.4)
    (made quantified_of unplaced_expression (λ p. unplaced-Quantified p.0.place p.0.quantifier p.0.variable p.0.from p.0.below p.1.0 p.1.1) (then (heading all x from below) (started (respells level.Implication)))))))

pub field_respells : (x : Named) → PartRespells (selector.Field x)
field_respells x =
    told_as (sym (tokens-Field x)) (sym (unplaced-Field x))
    (onto SpellsPart (λ y ts spelled. grammar.field y ts spelled) (made field_of unplaced_part (λ p. unplaced-Field p.1) (then (sign mark.Dot) (named x))))

pub index_respells : (begin : Place) (x : Expression) → Respells x → PartRespells (selector.Index begin x)
index_respells begin x respells =
    told_as (sym (tokens-Index begin x)) (sym (unplaced-Index begin x))
    (onto SpellsPart
    (λ y ts made.
    let inner = made.2.4 in
    grammar.index made.0.0 made.0.1.1 made.0.1.0 made.2.0 inner.0 inner.1 y ts made.1 (made.2.2 ∙ ap (λ (l : Tokens). made.2.0 ++ l) inner.2) made.2.3 inner.3 inner.4)
    (made index_of unplaced_part (λ p. unplaced-Index p.1.0.0 p.1.0.1) (then (sign mark.OpenBracket) (then (started (respells level.Implication)) (sign mark.CloseBracket)))))
