-- Readers of operands, before their first part, and which form stands there.
use Rattle.std.proofs.Common.{◌≡◌, ◌∙◌, refl, sym, subst, ap, List, [], ◌∷◌, ◌++◌, true, false, Option, Some, None, inl, inr}
use Rattle.hw_text.specs.Language.{◌⋅◌, Made, ◌∣◌, Maybe, Each}
use Rattle.hw_text.specs.Reading.{begins, Begins, Anything, Leaves}
use Rattle.hw_text.proofs.Reading.{begun, then-begins, made-begins}
use Rattle.hw_text.specs.declared.place.Place.{Place}
use Rattle.hw_reading.specs.Shapes.{shapes_of}
use Rattle.gumbo_parse.specs.declared.shape.Shape.TheVariants as shape
use Rattle.gumbo_parse.specs.declared.expression.Expression.{Expression}
use Rattle.gumbo_parse.specs.declared.expression.Selector.{Selector}
use Rattle.gumbo_parse.specs.declared.level.Level.TheVariants as level
use Rattle.gumbo_parse.specs.declared.mark.Mark.TheVariants as mark
use Rattle.gumbo_parse.specs.declared.word.Word.TheVariants as word
use Rattle.gumbo_parse.specs.Grammar.{Sign, Name, tests, truths, quantifiers, SpellsNumber, SpellsTruth, SpellsTest, SpellsIn, SpellsAsked, SpellsField, Spells, SpellsOperand, SpellsValue, value_of, SpellsBefore, before_of, SpellsMustSend, must_send_of, SpellsParenthesised, grouped_of, SpellsSent, nothing_sent, sent, SpellsStarted, SpellsGroup, whole, quantified, SpellsQuantified, quantified_of, SpellsQuantification, SpellsParts, no_parts, parts, SpellsPart, field, index, SpellsIndex, index_of}
use Rattle.gumbo_parse.specs.Levels.{part_shapes, goes_on, Ends}
use Rattle.gumbo_parse.specs.Values.{Tokens, one_of, Without, name_shapes}
use Rattle.gumbo_parse.proofs.BoundForms.{sign-begins, quantification-begins}
use Rattle.hw_reading.proofs.Choices.{first_of, second_of, begins-follow}
use Rattle.gumbo_parse.proofs.Shapes.{apart, either-starts}
use Rattle.gumbo_parse.proofs.LeafForms.{number_form-begins, truth-begins, test-begins, field-begins}
use Rattle.gumbo_parse.proofs.LevelFacts.{starts, group_starts, send_starts, before_starts, value_starts, test_starts, truth_starts}
use Rattle.gumbo_parse.proofs.LevelForms.{spells-begins}
use Rattle.gumbo_parse.proofs.OperandForms.{SendForms, BeforeForms, ValueForms, TestForms, TruthForms, OperandForms, opened, shut, value-begins, before-begins, send-begins, send_forms-begin, before_forms-begin, value_forms-begin, test_forms-begin, truth_forms-begin, parenthesised-begins}
use Rattle.gumbo_parse.proofs.Shapes.{without-left, without-right}
use Rattle.hw_reading.proofs.Steps.{opening}

abbrev F : Tokens → Type 0
F = Without part_shapes

abbrev Operands : Tokens → (Expression → Tokens → Type 0) → Type 0
Operands before Forms = Leaves SpellsOperand F before before (λ e. e) Forms

module _ (before : Tokens) where
  all_forms : Operands before OperandForms
  all_forms = begun SpellsOperand F before (λ e. e) OperandForms (λ e w text. (e, refl, opened e w text)) shut

  pub number_there : begins (one_of (shape.Number ∷ [])) before ≡ true → Operands before SpellsNumber
  number_there there = first_of SpellsNumber TruthForms (one_of (shape.Number ∷ [])) (one_of truth_starts) truth_forms-begin (apart truth_starts (shape.Number ∷ []) refl) there all_forms

  module _ (no_number : begins (one_of (shape.Number ∷ [])) before ≡ false) where
    truth_forms : Operands before TruthForms
    truth_forms = second_of SpellsNumber TruthForms (one_of (shape.Number ∷ [])) number_form-begins no_number all_forms

    pub truth_there : begins (one_of (shapes_of truths)) before ≡ true → Operands before SpellsTruth
    truth_there there = first_of SpellsTruth TestForms (one_of (shapes_of truths)) (one_of test_starts) test_forms-begin (apart test_starts (shapes_of truths) refl) there truth_forms

    module _ (no_truth : begins (one_of (shapes_of truths)) before ≡ false) where
      test_forms : Operands before TestForms
      test_forms = second_of SpellsTruth TestForms (one_of (shapes_of truths)) truth-begins no_truth truth_forms

      pub test_there : begins (one_of (shapes_of tests)) before ≡ true → Operands before SpellsTest
      test_there there = first_of SpellsTest ValueForms (one_of (shapes_of tests)) (one_of value_starts) value_forms-begin (apart value_starts (shapes_of tests) refl) there test_forms

      module _ (no_test : begins (one_of (shapes_of tests)) before ≡ false) where
        value_forms : Operands before ValueForms
        value_forms = second_of SpellsTest ValueForms (one_of (shapes_of tests)) test-begins no_test test_forms

        pub value_there : begins (one_of name_shapes) before ≡ true → Operands before SpellsValue
        value_there there = first_of SpellsValue BeforeForms (one_of name_shapes) (one_of before_starts) before_forms-begin (apart before_starts name_shapes refl) there value_forms

        module _ (no_name : begins (one_of name_shapes) before ≡ false) where
          before_forms : Operands before BeforeForms
          before_forms = second_of SpellsValue BeforeForms (one_of name_shapes) value-begins no_name value_forms

          pub before_there : begins (one_of (shape.Word word.In ∷ [])) before ≡ true → Operands before SpellsBefore
          before_there there = first_of SpellsBefore SendForms (one_of (shape.Word word.In ∷ [])) (one_of send_starts) send_forms-begin (apart send_starts (shape.Word word.In ∷ []) refl) there before_forms

          module _ (no_in : begins (one_of (shape.Word word.In ∷ [])) before ≡ false) where
            send_forms : Operands before SendForms
            send_forms = second_of SpellsBefore SendForms (one_of (shape.Word word.In ∷ [])) before-begins no_in before_forms

            pub send_there : begins (one_of (shape.Word word.MustSend ∷ [])) before ≡ true → Operands before SpellsMustSend
            send_there there = first_of SpellsMustSend SpellsParenthesised (one_of (shape.Word word.MustSend ∷ [])) (one_of group_starts) parenthesised-begins (apart group_starts (shape.Word word.MustSend ∷ []) refl) there send_forms

            pub group_there : begins (one_of (shape.Word word.MustSend ∷ [])) before ≡ false → Operands before SpellsParenthesised
            group_there no_send = second_of SpellsMustSend SpellsParenthesised (one_of (shape.Word word.MustSend ∷ [])) send-begins no_send send_forms

  pub value_opening : Leaves SpellsValue F before before value_of (Name ⋅ SpellsParts)
  value_opening = opening value_of (Name ⋅ SpellsParts) F before

  pub before_opening : Leaves SpellsBefore F before before before_of (SpellsIn ⋅ SpellsParts)
  before_opening = opening before_of (SpellsIn ⋅ SpellsParts) F before

  pub send_opening : Leaves SpellsMustSend Anything before before must_send_of (SpellsAsked ⋅ SpellsSent ⋅ Sign mark.CloseParenthesis)
  send_opening = opening must_send_of (SpellsAsked ⋅ SpellsSent ⋅ Sign mark.CloseParenthesis) Anything before

  pub parenthesised_opening : Leaves SpellsParenthesised Anything before before grouped_of (Sign mark.OpenParenthesis ⋅ SpellsGroup ⋅ Sign mark.CloseParenthesis)
  parenthesised_opening = opening grouped_of (Sign mark.OpenParenthesis ⋅ SpellsGroup ⋅ Sign mark.CloseParenthesis) Anything before

  pub quantified_opening : Leaves SpellsQuantified (Ends level.Implication) before before quantified_of (SpellsQuantification ⋅ SpellsStarted)
  quantified_opening = opening quantified_of (SpellsQuantification ⋅ SpellsStarted) (Ends level.Implication) before

  pub index_opening : Leaves SpellsIndex Anything before before index_of (Sign mark.OpenBracket ⋅ SpellsStarted ⋅ Sign mark.CloseBracket)
  index_opening = opening index_of (Sign mark.OpenBracket ⋅ SpellsStarted ⋅ Sign mark.CloseBracket) Anything before

-- no closing mark goes on with what stands before it
pub close-ends : (p : Place) (w m : Tokens) → Sign mark.CloseParenthesis p w → Anything m → Ends level.Implication (w ++ m)
close-ends = begins-follow Anything (Sign mark.CloseParenthesis) (one_of (shape.Mark mark.CloseParenthesis ∷ [])) (one_of (goes_on level.Implication)) (sign-begins mark.CloseParenthesis) (apart (shape.Mark mark.CloseParenthesis ∷ []) (goes_on level.Implication) refl)

pub close-sent : (p : Place) (w m : Tokens) → Sign mark.CloseParenthesis p w → Anything m → Without (shape.Mark mark.Comma ∷ goes_on level.Implication) (w ++ m)
close-sent = begins-follow Anything (Sign mark.CloseParenthesis) (one_of (shape.Mark mark.CloseParenthesis ∷ [])) (one_of (shape.Mark mark.Comma ∷ goes_on level.Implication)) (sign-begins mark.CloseParenthesis) (apart (shape.Mark mark.CloseParenthesis ∷ []) (shape.Mark mark.Comma ∷ goes_on level.Implication) refl)

pub bracket-ends : (p : Place) (w m : Tokens) → Sign mark.CloseBracket p w → Anything m → Ends level.Implication (w ++ m)
bracket-ends = begins-follow Anything (Sign mark.CloseBracket) (one_of (shape.Mark mark.CloseBracket ∷ [])) (one_of (goes_on level.Implication)) (sign-begins mark.CloseBracket) (apart (shape.Mark mark.CloseBracket ∷ []) (goes_on level.Implication) refl)

-- [ "," started ]
abbrev pub comma_of : Place × (Place × Expression) → Place × Expression
comma_of p = p.1

abbrev pub SentForm : Option (Place × Expression) → Tokens → Type 0
SentForm = Maybe (Made comma_of (Sign mark.Comma ⋅ SpellsStarted))

abbrev SentF : Tokens → Type 0
SentF = Without (shape.Mark mark.Comma ∷ goes_on level.Implication)

sent-opened : (s : Option (Place × Expression)) (w : Tokens) → SpellsSent s w → SentForm s w
sent-opened s w (nothing_sent t ts is empty) = subst (λ x. SentForm x w) (sym is) empty
sent-opened s w (sent c v cs us t ts is split comma text) = subst (λ x. SentForm x w) (sym is) ((c, v), refl, (cs, us, split, comma, text))

sent-shut : (s : Option (Place × Expression)) (w : Tokens) → SentForm s w → SpellsSent s w
sent-shut None w text = nothing_sent None w refl text
sent-shut (Some v) w text = sent text.0.0 text.0.1 text.2.0 text.2.1 (Some v) w (ap (λ x. Some x) text.1) text.2.2 text.2.3 text.2.4

pub sent_opening : (before : Tokens) → Leaves SpellsSent SentF before before (λ s. s) SentForm
sent_opening before = begun SpellsSent SentF before (λ s. s) SentForm (λ s w text. (s, refl, sent-opened s w text)) sent-shut

pub comma-begins : Begins (one_of (shape.Mark mark.Comma ∷ [])) true (Made comma_of (Sign mark.Comma ⋅ SpellsStarted))
comma-begins = made-begins (one_of (shape.Mark mark.Comma ∷ [])) true (Sign mark.Comma ⋅ SpellsStarted) comma_of
    (then-begins (one_of (shape.Mark mark.Comma ∷ [])) true (Sign mark.Comma) SpellsStarted (sign-begins mark.Comma))

pub no-comma : (m : Tokens) → SentF m → Without (shape.Mark mark.Comma ∷ []) m
no-comma m ends = without-left (shape.Mark mark.Comma ∷ []) (goes_on level.Implication) m ends

pub comma-ends : (m : Tokens) → SentF m → Ends level.Implication m
comma-ends m ends = without-right (shape.Mark mark.Comma ∷ []) (goes_on level.Implication) m ends

-- quantified, or an expression
group-opened : (e : Expression) (w : Tokens) → SpellsGroup e w → (SpellsQuantified ∣ Spells level.Implication) e w
group-opened e w (whole d ts text) = inr text
group-opened e w (quantified q v hs us d ts is split head text) = inl ((q, v), is, (hs, us, split, head, text))

group-shut : (e : Expression) (w : Tokens) → (SpellsQuantified ∣ Spells level.Implication) e w → SpellsGroup e w
group-shut e w (inl made) = quantified made.0.0 made.0.1 made.2.0 made.2.1 e w made.1 made.2.2 made.2.3 made.2.4
group-shut e w (inr text) = whole e w text

quantified-begins : Begins (one_of (shapes_of quantifiers)) true SpellsQuantified
quantified-begins = made-begins (one_of (shapes_of quantifiers)) true (SpellsQuantification ⋅ SpellsStarted) quantified_of
    (then-begins (one_of (shapes_of quantifiers)) true SpellsQuantification SpellsStarted quantification-begins)

module _ (before : Tokens) where
  group_opening : Leaves SpellsGroup (Ends level.Implication) before before (λ e. e) (SpellsQuantified ∣ Spells level.Implication)
  group_opening = begun SpellsGroup (Ends level.Implication) before (λ e. e) (SpellsQuantified ∣ Spells level.Implication) (λ e w text. (e, refl, group-opened e w text)) group-shut

  pub quantified_there : begins (one_of (shapes_of quantifiers)) before ≡ true → Leaves SpellsGroup (Ends level.Implication) before before (λ e. e) SpellsQuantified
  quantified_there there = first_of SpellsQuantified (Spells level.Implication) (one_of (shapes_of quantifiers)) (one_of (starts level.Implication)) (spells-begins level.Implication) (apart (starts level.Implication) (shapes_of quantifiers) refl) there group_opening

  pub whole_there : begins (one_of (shapes_of quantifiers)) before ≡ false → Leaves SpellsGroup (Ends level.Implication) before before (λ e. e) (Spells level.Implication)
  whole_there not_there = second_of SpellsQuantified (Spells level.Implication) (one_of (shapes_of quantifiers)) quantified-begins not_there group_opening

-- a field or an index
part-opened : (s : Selector) (w : Tokens) → SpellsPart s w → (SpellsField ∣ SpellsIndex) s w
part-opened s w (field t ts text) = inl text
part-opened s w (index p q v os us qs t ts is split before_it text behind_it) = inr ((p, (v, q)), is, (os, us ++ qs, split, before_it, (us, qs, refl, text, behind_it)))

part-shut : (s : Selector) (w : Tokens) → (SpellsField ∣ SpellsIndex) s w → SpellsPart s w
part-shut s w (inl text) = field s w text
part-shut s w (inr made) =
    let t = made.2 in
    index made.0.0 made.0.1.1 made.0.1.0 t.0 t.4.0 t.4.1 s w made.1 (t.2 ∙ ap (λ (l : Tokens). t.0 ++ l) t.4.2) t.3 t.4.3 t.4.4

index-begins : Begins (one_of (shape.Mark mark.OpenBracket ∷ [])) true SpellsIndex
index-begins = made-begins (one_of (shape.Mark mark.OpenBracket ∷ [])) true (Sign mark.OpenBracket ⋅ SpellsStarted ⋅ Sign mark.CloseBracket) index_of
    (then-begins (one_of (shape.Mark mark.OpenBracket ∷ [])) true (Sign mark.OpenBracket) (SpellsStarted ⋅ Sign mark.CloseBracket) (sign-begins mark.OpenBracket))

pub part-begins : Begins (one_of part_shapes) true SpellsPart
part-begins s w m text = either-starts SpellsField SpellsIndex (shape.Mark mark.Dot ∷ []) (shape.Mark mark.OpenBracket ∷ []) field-begins index-begins s w m (part-opened s w text)

module _ (before : Tokens) where
  part_opening : Leaves SpellsPart Anything before before (λ s. s) (SpellsField ∣ SpellsIndex)
  part_opening = begun SpellsPart Anything before (λ s. s) (SpellsField ∣ SpellsIndex) (λ s w text. (s, refl, part-opened s w text)) part-shut

  pub field_there : begins (one_of (shape.Mark mark.Dot ∷ [])) before ≡ true → Leaves SpellsPart Anything before before (λ s. s) SpellsField
  field_there there = first_of SpellsField SpellsIndex (one_of (shape.Mark mark.Dot ∷ [])) (one_of (shape.Mark mark.OpenBracket ∷ [])) index-begins (apart (shape.Mark mark.OpenBracket ∷ []) (shape.Mark mark.Dot ∷ []) refl) there part_opening

  pub index_there : begins (one_of (shape.Mark mark.Dot ∷ [])) before ≡ false → Leaves SpellsPart Anything before before (λ s. s) SpellsIndex
  index_there not_there = second_of SpellsField SpellsIndex (one_of (shape.Mark mark.Dot ∷ [])) field-begins not_there part_opening

parts-opened : (all : List Selector) (w : Tokens) → SpellsParts all w → Each SpellsPart all w
parts-opened all w (no_parts l ts is empty) = subst (λ x. Each SpellsPart x w) (sym is) empty
parts-opened all w (parts s ss us vs l ts is split one more) = subst (λ x. Each SpellsPart x w) (sym is) (us, vs, split, one, parts-opened ss vs more)

parts-shut : (all : List Selector) (w : Tokens) → Each SpellsPart all w → SpellsParts all w
parts-shut [] w text = no_parts [] w refl text
parts-shut (s ∷ ss) w text = parts s ss text.0 text.1 (s ∷ ss) w refl text.2 text.3 (parts-shut ss text.1 text.4)

pub no_parts_there : (all : List Selector) × (w : Tokens) × SpellsParts all w
no_parts_there = ([], [], no_parts [] [] refl refl)

pub nothing_there : (s : Option (Place × Expression)) × (w : Tokens) × SpellsSent s w
nothing_there = (None, [], nothing_sent None [] refl refl)

pub parts_opening : (read : List Selector) → read ≡ [] → (before : Tokens) → Leaves SpellsParts F before before (λ later. read ++ later) (Each SpellsPart)
parts_opening read none before = subst (λ (r : List Selector). Leaves SpellsParts F before before (λ later. r ++ later) (Each SpellsPart)) (sym none)
    (begun SpellsParts F before (λ later. later) (Each SpellsPart) (λ z w text. (z, refl, parts-opened z w text)) parts-shut)
