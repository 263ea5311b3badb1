-- A token of each shape, and the name of a base type (this project's own).
use Rattle.std.specs.Prelude.{◌≡◌, true, [], codes, refl, Some}
use Rattle.hw_text.specs.declared.base_type.BaseType.{BaseType}
use Rattle.hw_text.specs.declared.base_type.BaseType.TheVariants.{Unsigned8}
use Rattle.hw_text.specs.declared.placed.Placed.{Placed}
use Rattle.hw_text.specs.BaseTypes.{base_name, base_named}
use Rattle.gumbo_parse.specs.declared.mark.Mark.{Mark}
use Rattle.gumbo_parse.specs.declared.mark.Mark.TheVariants as mark
use Rattle.gumbo_parse.specs.declared.shape.Shape.{Shape}
use Rattle.gumbo_parse.specs.declared.shape.Shape.TheVariants as shape
use Rattle.gumbo_parse.specs.declared.token.Token.{Token}
use Rattle.gumbo_parse.specs.declared.token.Token.TheVariants as token
use Rattle.gumbo_parse.specs.declared.word.Word.{Word}
use Rattle.gumbo_parse.specs.declared.word.Word.TheVariants as word
use Rattle.gumbo_parse.specs.Values.{shape_of, same_shape, base_of, start}

pub same-word : (w : Word) → same_shape (shape.Word w) (shape.Word w) ≡ true
same-word word.State = refl
same-word _ = refl

pub same-mark : (m : Mark) → same_shape (shape.Mark m) (shape.Mark m) ≡ true
same-mark mark.Semicolon = refl
same-mark _ = refl

pub a_token : (s : Shape) → (t : Token) × (same_shape (shape_of t) s ≡ true)
a_token shape.Name = (token.Name (codes "a"), refl)
a_token shape.BasePackage = (token.Name (codes "base_types"), refl)
a_token (shape.Word w) = (token.Word w, same-word w)
a_token shape.Reserved = (token.Reserved, refl)
a_token shape.Number = (token.Number 0, refl)
a_token shape.Text = (token.Text [], refl)
a_token (shape.Mark m) = (token.Mark m, same-mark m)

-- the name of a base type
pub a_base : (t : Placed Token) × (b : BaseType) × (base_of t ≡ Some b)
unfolding base_named base_name
a_base = (record { token = token.Name (codes "unsigned_8"); place = start }, Unsigned8, refl)
