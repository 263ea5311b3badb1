-- The productions of operands, each as its parts.
use Rattle.std.proofs.Common.{◌∙◌, refl, ap, [], ◌∷◌, ◌++◌, true, inl, inr}
use Rattle.hw_text.specs.Language.{◌⋅◌, ◌∣◌}
use Rattle.hw_text.specs.Reading.{Begins}
use Rattle.hw_text.proofs.Reading.{then-begins, made-begins}
use Rattle.hw_reading.specs.Shapes.{shapes_of}
use Rattle.gumbo_parse.specs.declared.shape.Shape.TheVariants as shape
use Rattle.gumbo_parse.specs.declared.expression.Expression.{Expression}
use Rattle.gumbo_parse.specs.declared.mark.Mark.TheVariants as mark
use Rattle.gumbo_parse.specs.declared.word.Word.TheVariants as word
use Rattle.gumbo_parse.specs.Grammar.{Sign, Name, tests, truths, SpellsNumber, SpellsTruth, SpellsTest, SpellsIn, SpellsAsked, SpellsOperand, number, truth, test_alone, value, before, must_send, parenthesised, SpellsValue, value_of, SpellsBefore, before_of, SpellsMustSend, must_send_of, SpellsParenthesised, grouped_of, SpellsSent, SpellsGroup, SpellsParts}
use Rattle.gumbo_parse.specs.Values.{Tokens, one_of, name_shapes}
use Rattle.gumbo_parse.proofs.BoundForms.{sign-begins, name-begins}
use Rattle.gumbo_parse.proofs.Shapes.{either-starts}
use Rattle.gumbo_parse.proofs.LeafForms.{number_form-begins, truth-begins, test-begins, in-begins, asked-begins}
use Rattle.gumbo_parse.proofs.LevelFacts.{group_starts, send_starts, before_starts, value_starts, test_starts, truth_starts, operand_starts}

abbrev pub SendForms : Expression → Tokens → Type 0
SendForms = SpellsMustSend ∣ SpellsParenthesised

abbrev pub BeforeForms : Expression → Tokens → Type 0
BeforeForms = SpellsBefore ∣ SendForms

abbrev pub ValueForms : Expression → Tokens → Type 0
ValueForms = SpellsValue ∣ BeforeForms

abbrev pub TestForms : Expression → Tokens → Type 0
TestForms = SpellsTest ∣ ValueForms

abbrev pub TruthForms : Expression → Tokens → Type 0
TruthForms = SpellsTruth ∣ TestForms

abbrev pub OperandForms : Expression → Tokens → Type 0
OperandForms = SpellsNumber ∣ TruthForms

pub opened : (e : Expression) (w : Tokens) → SpellsOperand e w → OperandForms e w
opened e w (number d ts text) = inl text
opened e w (truth d ts text) = inr (inl text)
opened e w (test_alone d ts text) = inr (inr (inl text))
opened e w (value x ps ns us d ts is split name rest) = inr (inr (inr (inl ((x, ps), is, (ns, us, split, name, rest)))))
opened e w (before p ps hs us d ts is split head rest) = inr (inr (inr (inr (inl ((p, ps), is, (hs, us, split, head, rest))))))
opened e w (must_send p s q hs us qs d ts is split head inner close) = inr (inr (inr (inr (inr (inl ((p, (s, q)), is, (hs, us ++ qs, split, head, (us, qs, refl, inner, close))))))))
opened e w (parenthesised p q x ps us qs d ts is split before_it inner behind_it) = inr (inr (inr (inr (inr (inr ((p, (x, q)), is, (ps, us ++ qs, split, before_it, (us, qs, refl, inner, behind_it))))))))

pub shut : (e : Expression) (w : Tokens) → OperandForms e w → SpellsOperand e w
shut e w (inl text) = number e w text
shut e w (inr (inl text)) = truth e w text
shut e w (inr (inr (inl text))) = test_alone e w text
shut e w (inr (inr (inr (inl made)))) = value made.0.0 made.0.1 made.2.0 made.2.1 e w made.1 made.2.2 made.2.3 made.2.4
shut e w (inr (inr (inr (inr (inl made))))) = before made.0.0 made.0.1 made.2.0 made.2.1 e w made.1 made.2.2 made.2.3 made.2.4
shut e w (inr (inr (inr (inr (inr (inl made)))))) =
    let t = made.2 in
    must_send made.0.0 made.0.1.0 made.0.1.1 t.0 t.4.0 t.4.1 e w made.1 (t.2 ∙ ap (λ (l : Tokens). t.0 ++ l) t.4.2) t.3 t.4.3 t.4.4
shut e w (inr (inr (inr (inr (inr (inr made)))))) =
    let t = made.2 in
    parenthesised made.0.0 made.0.1.1 made.0.1.0 t.0 t.4.0 t.4.1 e w made.1 (t.2 ∙ ap (λ (l : Tokens). t.0 ++ l) t.4.2) t.3 t.4.3 t.4.4

pub value-begins : Begins (one_of name_shapes) true SpellsValue
value-begins = made-begins (one_of name_shapes) true (Name ⋅ SpellsParts) value_of (then-begins (one_of name_shapes) true Name SpellsParts name-begins)

pub before-begins : Begins (one_of (shape.Word word.In ∷ [])) true SpellsBefore
before-begins = made-begins (one_of (shape.Word word.In ∷ [])) true (SpellsIn ⋅ SpellsParts) before_of
    (then-begins (one_of (shape.Word word.In ∷ [])) true SpellsIn SpellsParts in-begins)

pub send-begins : Begins (one_of (shape.Word word.MustSend ∷ [])) true SpellsMustSend
send-begins = made-begins (one_of (shape.Word word.MustSend ∷ [])) true (SpellsAsked ⋅ SpellsSent ⋅ Sign mark.CloseParenthesis) must_send_of
    (then-begins (one_of (shape.Word word.MustSend ∷ [])) true SpellsAsked (SpellsSent ⋅ Sign mark.CloseParenthesis) asked-begins)

pub parenthesised-begins : Begins (one_of group_starts) true SpellsParenthesised
parenthesised-begins = made-begins (one_of group_starts) true (Sign mark.OpenParenthesis ⋅ SpellsGroup ⋅ Sign mark.CloseParenthesis) grouped_of
    (then-begins (one_of group_starts) true (Sign mark.OpenParenthesis) (SpellsGroup ⋅ Sign mark.CloseParenthesis) (sign-begins mark.OpenParenthesis))

pub send_forms-begin : Begins (one_of send_starts) true SendForms
send_forms-begin = either-starts SpellsMustSend SpellsParenthesised (shape.Word word.MustSend ∷ []) group_starts send-begins parenthesised-begins

pub before_forms-begin : Begins (one_of before_starts) true BeforeForms
before_forms-begin = either-starts SpellsBefore SendForms (shape.Word word.In ∷ []) send_starts before-begins send_forms-begin

pub value_forms-begin : Begins (one_of value_starts) true ValueForms
value_forms-begin = either-starts SpellsValue BeforeForms name_shapes before_starts value-begins before_forms-begin

pub test_forms-begin : Begins (one_of test_starts) true TestForms
test_forms-begin = either-starts SpellsTest ValueForms (shapes_of tests) value_starts test-begins value_forms-begin

pub truth_forms-begin : Begins (one_of truth_starts) true TruthForms
truth_forms-begin = either-starts SpellsTruth TestForms (shapes_of truths) test_starts truth-begins test_forms-begin

pub operand-begins : Begins (one_of operand_starts) true SpellsOperand
operand-begins e w m text = either-starts SpellsNumber TruthForms (shape.Number ∷ []) truth_starts number_form-begins truth_forms-begin e w m (opened e w text)
