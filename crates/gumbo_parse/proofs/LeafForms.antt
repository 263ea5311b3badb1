-- Readers of operands and parts that have no expressions in them, before their first part.
use Rattle.std.proofs.Common.{[], ◌∷◌, true}
use Rattle.hw_text.specs.Language.{One, ◌⋅◌}
use Rattle.hw_text.specs.Reading.{Begins, Anything, Leaves}
use Rattle.hw_text.proofs.Reading.{made-begins, then-begins}
use Rattle.hw_reading.specs.Shapes.{shapes_of}
use Rattle.gumbo_parse.specs.declared.shape.Shape.TheVariants as shape
use Rattle.gumbo_parse.specs.declared.mark.Mark.TheVariants as mark
use Rattle.gumbo_parse.specs.declared.word.Word.TheVariants as word
use Rattle.gumbo_parse.specs.Grammar.{Sign, Keyword, Name, truths, tests, number_at, truth_at, test_of, field_of, SpellsPort, SpellsNumber, SpellsTruth, SpellsTest, SpellsIn, asked_of, SpellsAsked, SpellsField}
use Rattle.gumbo_parse.specs.Values.{Tokens, one_of, number_of, one_listed}
use Rattle.gumbo_parse.proofs.BoundForms.{sign-begins, keyword-begins, number-begins, listed-begins}
use Rattle.hw_reading.proofs.Steps.{opening}

pub number_opening : (before : Tokens) → Leaves SpellsNumber Anything before before number_at (One number_of)
number_opening before = opening number_at (One number_of) Anything before

pub truth_opening : (before : Tokens) → Leaves SpellsTruth Anything before before truth_at (One (one_listed truths))
truth_opening before = opening truth_at (One (one_listed truths)) Anything before

pub test_opening : (before : Tokens) → Leaves SpellsTest Anything before before test_of (One (one_listed tests) ⋅ SpellsPort)
test_opening before = opening test_of (One (one_listed tests) ⋅ SpellsPort) Anything before

pub field_opening : (before : Tokens) → Leaves SpellsField Anything before before field_of (Sign mark.Dot ⋅ Name)
field_opening before = opening field_of (Sign mark.Dot ⋅ Name) Anything before

pub number_form-begins : Begins (one_of (shape.Number ∷ [])) true SpellsNumber
number_form-begins = made-begins (one_of (shape.Number ∷ [])) true (One number_of) number_at number-begins

pub truth-begins : Begins (one_of (shapes_of truths)) true SpellsTruth
truth-begins = made-begins (one_of (shapes_of truths)) true (One (one_listed truths)) truth_at (listed-begins truths)

pub test-begins : Begins (one_of (shapes_of tests)) true SpellsTest
test-begins = made-begins (one_of (shapes_of tests)) true (One (one_listed tests) ⋅ SpellsPort) test_of
    (then-begins (one_of (shapes_of tests)) true (One (one_listed tests)) SpellsPort (listed-begins tests))

pub in-begins : Begins (one_of (shape.Word word.In ∷ [])) true SpellsIn
in-begins = then-begins (one_of (shape.Word word.In ∷ [])) true (Keyword word.In) SpellsPort (keyword-begins word.In)

pub asked-begins : Begins (one_of (shape.Word word.MustSend ∷ [])) true SpellsAsked
asked-begins = made-begins (one_of (shape.Word word.MustSend ∷ [])) true (Keyword word.MustSend ⋅ Sign mark.OpenParenthesis ⋅ Name) asked_of
    (then-begins (one_of (shape.Word word.MustSend ∷ [])) true (Keyword word.MustSend) (Sign mark.OpenParenthesis ⋅ Name) (keyword-begins word.MustSend))

pub field-begins : Begins (one_of (shape.Mark mark.Dot ∷ [])) true SpellsField
field-begins = made-begins (one_of (shape.Mark mark.Dot ∷ [])) true (Sign mark.Dot ⋅ Name) field_of
    (then-begins (one_of (shape.Mark mark.Dot ∷ [])) true (Sign mark.Dot) Name (sign-begins mark.Dot))
