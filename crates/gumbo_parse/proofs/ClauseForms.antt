-- Readers of clauses, before their first part.
use Rattle.std.proofs.Common.{refl, [], ◌∷◌, ◌++◌, true}
use Rattle.hw_text.specs.Language.{One, ◌⋅◌, Maybe}
use Rattle.hw_text.specs.Reading.{Begins, Anything, Leaves}
use Rattle.hw_text.proofs.Reading.{one-begins, made-begins, then-begins}
use Rattle.hw_text.specs.declared.place.Place.{Place}
use Rattle.hw_reading.specs.Shapes.{shapes_of}
use Rattle.gumbo_parse.specs.declared.shape.Shape.TheVariants as shape
use Rattle.gumbo_parse.specs.declared.contract.Clause.{Clause}
use Rattle.gumbo_parse.specs.declared.contract.ClauseKind.TheVariants.{Assume}
use Rattle.gumbo_parse.specs.declared.contract.ClauseKind.{ClauseKind}
use Rattle.gumbo_parse.specs.declared.expression.Expression.{Expression}
use Rattle.gumbo_parse.specs.declared.level.Level.TheVariants as level
use Rattle.gumbo_parse.specs.declared.mark.Mark.TheVariants as mark
use Rattle.gumbo_parse.specs.declared.token.Token.TheVariants as token
use Rattle.gumbo_parse.specs.declared.word.Word.TheVariants as word
use Rattle.gumbo_parse.specs.Annex.{kinds, clause_of, SpellsClause}
use Rattle.gumbo_parse.specs.Grammar.{Sign, Name, SpellsStarted}
use Rattle.gumbo_parse.specs.Levels.{goes_on, Ends}
use Rattle.gumbo_parse.specs.Values.{Tokens, one_of, Without, text_of, one_listed, start}
use Rattle.gumbo_parse.proofs.BoundForms.{sign-begins, listed-begins}
use Rattle.hw_reading.proofs.Choices.{begins-follow, nothing}
use Rattle.hw_reading.proofs.Choices.{both, made}
use Rattle.gumbo_parse.proofs.PortForms.{a_sign, a_name}
use Rattle.gumbo_parse.proofs.Samples.{a_started}
use Rattle.gumbo_parse.proofs.Shapes.{apart, text-shaped}
use Rattle.hw_reading.proofs.Steps.{opening}

pub text-begins : Begins (one_of (shape.Text ∷ [])) true (One text_of)
text-begins = one-begins (one_of (shape.Text ∷ [])) true text_of (λ t x is. text-shaped t.token t.place x is)

pub clause-begins : Begins (one_of (shapes_of kinds)) true SpellsClause
clause-begins = made-begins (one_of (shapes_of kinds)) true (One (one_listed kinds) ⋅ Name ⋅ Maybe (One text_of) ⋅ Sign mark.Colon ⋅ SpellsStarted ⋅ Sign mark.Semicolon) clause_of
    (then-begins (one_of (shapes_of kinds)) true (One (one_listed kinds)) (Name ⋅ Maybe (One text_of) ⋅ Sign mark.Colon ⋅ SpellsStarted ⋅ Sign mark.Semicolon) (listed-begins kinds))

pub clause_opening : (before : Tokens) → Leaves SpellsClause Anything before before clause_of (One (one_listed kinds) ⋅ Name ⋅ Maybe (One text_of) ⋅ Sign mark.Colon ⋅ SpellsStarted ⋅ Sign mark.Semicolon)
clause_opening before = opening clause_of (One (one_listed kinds) ⋅ Name ⋅ Maybe (One text_of) ⋅ Sign mark.Colon ⋅ SpellsStarted ⋅ Sign mark.Semicolon) Anything before

-- the colon begins no text in quotes
pub colon-follows : (p : Place × ((Place × Expression) × Place)) (w m : Tokens) → (Sign mark.Colon ⋅ SpellsStarted ⋅ Sign mark.Semicolon) p w → Anything m → Without (shape.Text ∷ []) (w ++ m)
colon-follows = begins-follow Anything (Sign mark.Colon ⋅ SpellsStarted ⋅ Sign mark.Semicolon) (one_of (shape.Mark mark.Colon ∷ [])) (one_of (shape.Text ∷ []))
    (then-begins (one_of (shape.Mark mark.Colon ∷ [])) true (Sign mark.Colon) (SpellsStarted ⋅ Sign mark.Semicolon) (sign-begins mark.Colon)) (apart (shape.Mark mark.Colon ∷ []) (shape.Text ∷ []) refl)

-- no expression goes on with the semicolon
pub semicolon-ends : (p : Place) (w m : Tokens) → Sign mark.Semicolon p w → Anything m → Ends level.Implication (w ++ m)
semicolon-ends = begins-follow Anything (Sign mark.Semicolon) (one_of (shape.Mark mark.Semicolon ∷ [])) (one_of (goes_on level.Implication)) (sign-begins mark.Semicolon) (apart (shape.Mark mark.Semicolon ∷ []) (goes_on level.Implication) refl)

pub a_kind : (p : Place × ClauseKind) × (w : Tokens) × One (one_listed kinds) p w
a_kind = ((start, Assume), record { token = token.Word word.Assume; place = start } ∷ [], (record { token = token.Word word.Assume; place = start }, refl, refl))

pub a_clause : (c : Clause) × (w : Tokens) × SpellsClause c w
a_clause = made clause_of (both a_kind (both a_name (both nothing (both (a_sign mark.Colon) (both a_started (a_sign mark.Semicolon))))))
