-- Readers of names in parentheses, before their first part.
use Rattle.std.proofs.Common.{[], ◌∷◌, codes, refl}
use Rattle.hw_text.specs.Language.{◌⋅◌}
use Rattle.hw_text.specs.Reading.{Anything, Leaves}
use Rattle.hw_text.proofs.Reading.{begun}
use Rattle.hw_text.specs.declared.place.Place.{Place}
use Rattle.gumbo_parse.specs.declared.shape.Shape.TheVariants as shape
use Rattle.gumbo_parse.specs.declared.expression.Named.{Named}
use Rattle.gumbo_parse.specs.declared.mark.Mark.{Mark}
use Rattle.gumbo_parse.specs.declared.mark.Mark.TheVariants as mark
use Rattle.gumbo_parse.specs.declared.token.Token.TheVariants as token
use Rattle.gumbo_parse.specs.declared.word.Word.{Word}
use Rattle.gumbo_parse.specs.declared.word.Word.TheVariants as word
use Rattle.gumbo_parse.specs.Grammar.{Sign, Keyword, Name, inside, SpellsPort, SpellsIn, asked_of, SpellsAsked}
use Rattle.gumbo_parse.specs.Values.{Tokens, start}
use Rattle.gumbo_parse.proofs.Shapes.{a_shape}
use Rattle.hw_reading.proofs.Choices.{both, made}
use Rattle.hw_reading.proofs.Steps.{opening}

pub a_sign : (m : Mark) → (p : Place) × (w : Tokens) × Sign m p w
a_sign m = let s = a_shape (shape.Mark m) in (s.1, s.0 ∷ [], (s.0, refl, s.2))

pub a_keyword : (k : Word) → (p : Place) × (w : Tokens) × Keyword k p w
a_keyword k = let s = a_shape (shape.Word k) in (s.1, s.0 ∷ [], (s.0, refl, s.2))

pub a_name : (x : Named) × (w : Tokens) × Name x w
a_name = (record { name = codes "a"; place = start }, record { token = token.Name (codes "a"); place = start } ∷ [], (record { token = token.Name (codes "a"); place = start }, refl, refl))

pub a_port : (x : Named) × (w : Tokens) × SpellsPort x w
a_port = made inside (both (a_sign mark.OpenParenthesis) (both a_name (a_sign mark.CloseParenthesis)))

pub port_opening : (before : Tokens) → Leaves SpellsPort Anything before before inside (Sign mark.OpenParenthesis ⋅ Name ⋅ Sign mark.CloseParenthesis)
port_opening before = opening inside (Sign mark.OpenParenthesis ⋅ Name ⋅ Sign mark.CloseParenthesis) Anything before

pub asked_opening : (before : Tokens) → Leaves SpellsAsked Anything before before asked_of (Keyword word.MustSend ⋅ Sign mark.OpenParenthesis ⋅ Name)
asked_opening before = opening asked_of (Keyword word.MustSend ⋅ Sign mark.OpenParenthesis ⋅ Name) Anything before

pub in_opening : (before : Tokens) → Leaves SpellsIn Anything before before (λ p. p) (Keyword word.In ⋅ SpellsPort)
in_opening before = begun SpellsIn Anything before (λ p. p) (Keyword word.In ⋅ SpellsPort) (λ z w text. (z, refl, text)) (λ y w text. text)
