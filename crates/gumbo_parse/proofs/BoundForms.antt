-- Readers of ends of ranges and of headings of quantifiers, before their first part.
use Rattle.std.proofs.Common.{List, [], ◌∷◌, ◌++◌, refl, true, None, ℕ}
use Rattle.hw_text.specs.Language.{One, Maybe, ◌⋅◌}
use Rattle.hw_text.specs.Reading.{Begins, Anything, Leaves}
use Rattle.hw_text.proofs.Reading.{one-begins, then-begins}
use Rattle.hw_text.specs.declared.place.Place.{Place}
use Rattle.hw_reading.specs.Shapes.{shapes_of}
use Rattle.gumbo_parse.specs.declared.shape.Shape.{Shape}
use Rattle.gumbo_parse.specs.declared.shape.Shape.TheVariants as shape
use Rattle.gumbo_parse.specs.declared.expression.Bound.{Bound}
use Rattle.gumbo_parse.specs.declared.mark.Mark.{Mark}
use Rattle.gumbo_parse.specs.declared.mark.Mark.TheVariants as mark
use Rattle.gumbo_parse.specs.declared.token.Token.TheVariants as token
use Rattle.gumbo_parse.specs.declared.word.Word.{Word}
use Rattle.gumbo_parse.specs.declared.word.Word.TheVariants as word
use Rattle.gumbo_parse.specs.Grammar.{Sign, Keyword, Name, bound_of, SpellsBound, quantifiers, quantification_of, SpellsQuantification}
use Rattle.gumbo_parse.specs.Values.{Tokens, one_of, Without, name_of, number_of, place_of, one_listed, name_shapes, start}
use Rattle.gumbo_parse.proofs.Shapes.{apart, place-shaped, name-shaped, number-shaped, listed-shaped}
use Rattle.hw_reading.proofs.Choices.{begins-follow}
use Rattle.hw_reading.proofs.Steps.{opening}

-- how single tokens begin
pub sign-begins : (m : Mark) → Begins (one_of (shape.Mark m ∷ [])) true (Sign m)
sign-begins m = one-begins (one_of (shape.Mark m ∷ [])) true (place_of (shape.Mark m)) (place-shaped (shape.Mark m))

pub keyword-begins : (w : Word) → Begins (one_of (shape.Word w ∷ [])) true (Keyword w)
keyword-begins w = one-begins (one_of (shape.Word w ∷ [])) true (place_of (shape.Word w)) (place-shaped (shape.Word w))

pub name-begins : Begins (one_of name_shapes) true Name
name-begins = one-begins (one_of name_shapes) true name_of (λ t x is. name-shaped t.token t.place x is)

pub number-begins : Begins (one_of (shape.Number ∷ [])) true (One number_of)
number-begins = one-begins (one_of (shape.Number ∷ [])) true number_of (λ t x is. number-shaped t.token t.place x is)

pub listed-begins : {X : Type 0} (rows : List (Shape × X)) → Begins (one_of (shapes_of rows)) true (One (one_listed rows))
listed-begins rows = one-begins (one_of (shapes_of rows)) true (one_listed rows) (listed-shaped rows)

pub a_number : (p : Place × ℕ) × (w : Tokens) × One number_of p w
a_number = ((start, 0), record { token = token.Number 0; place = start } ∷ [], (record { token = token.Number 0; place = start }, refl, refl))

pub a_bound : (b : Bound) × (w : Tokens) × SpellsBound b w
a_bound = let n = a_number in (bound_of (None, n.0), n.1, ((None, n.0), refl, ([], n.1, refl, refl, n.2)))

pub bound_opening : (before : Tokens) → Leaves SpellsBound Anything before before bound_of (Maybe (Sign mark.Minus) ⋅ One number_of)
bound_opening before = opening bound_of (Maybe (Sign mark.Minus) ⋅ One number_of) Anything before

-- no number is a minus
pub number-follows : (p : Place × ℕ) (w m : Tokens) → One number_of p w → Anything m → Without (shape.Mark mark.Minus ∷ []) (w ++ m)
number-follows = begins-follow Anything (One number_of) (one_of (shape.Number ∷ [])) (one_of (shape.Mark mark.Minus ∷ [])) number-begins (apart (shape.Number ∷ []) (shape.Mark mark.Minus ∷ []) refl)

pub heading_opening : (before : Tokens) → Leaves SpellsQuantification Anything before before quantification_of (One (one_listed quantifiers) ⋅ Name ⋅ Keyword word.In ⋅ SpellsBound ⋅ Sign mark.Below ⋅ SpellsBound ⋅ Sign mark.Colon)
heading_opening before =
    opening quantification_of (One (one_listed quantifiers) ⋅ Name ⋅ Keyword word.In ⋅ SpellsBound ⋅ Sign mark.Below ⋅ SpellsBound ⋅ Sign mark.Colon) Anything before

pub quantification-begins : Begins (one_of (shapes_of quantifiers)) true SpellsQuantification
quantification-begins x w m text =
    then-begins (one_of (shapes_of quantifiers)) true (One (one_listed quantifiers)) (Name ⋅ Keyword word.In ⋅ SpellsBound ⋅ Sign mark.Below ⋅ SpellsBound ⋅ Sign mark.Colon)
    (listed-begins quantifiers) text.0 w m text.2
