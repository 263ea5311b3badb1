-- What the grammar sees of tokens: their shapes, and what they stand for (this project's own).
use Rattle.std.specs.Prelude.{ℕ, Bool, List, [], ◌∷◌, codes, if◌then◌else◌, Option, Some, None}
use Rattle.std.specs.Str.{bytes_eq}
use Rattle.hw_text.specs.declared.base_type.BaseType.{BaseType}
use Rattle.hw_text.specs.declared.place.Place.{Place}
use Rattle.hw_text.specs.declared.placed.Placed.{Placed}
use Rattle.hw_text.specs.BaseTypes.{base_named}
use Rattle.hw_reading.specs.Shapes as shapes
use Rattle.gumbo_parse.specs.contracts.shape.ShapePartialEq.TheImpl.{ghosts}
use Rattle.gumbo_parse.specs.declared.token.Token.{Token}
use Rattle.gumbo_parse.specs.declared.token.Token.TheVariants as token
use Rattle.gumbo_parse.specs.declared.expression.Named.{Named}
use Rattle.gumbo_parse.specs.declared.shape.Shape.{Shape}
use Rattle.gumbo_parse.specs.declared.shape.Shape.TheVariants as shape

abbrev pub Tokens : Type 0
Tokens = List (Placed Token)

-- the name behind which a base type stands
abbrev pub is_base_package : List ℕ → Bool
is_base_package n = bytes_eq n (codes "base_types")

-- which word or mark a token is, and of which kind another one; the name `base_types` has a shape of its own, since behind it stands a base
-- type in a class
abbrev pub shape_of : Token → Shape
shape_of (token.Name n) = if is_base_package n then shape.BasePackage else shape.Name
shape_of (token.Word w) = shape.Word w
shape_of token.Reserved = shape.Reserved
shape_of (token.Number v) = shape.Number
shape_of (token.Text d) = shape.Text
shape_of (token.Mark m) = shape.Mark m

abbrev pub same_shape : Shape → Shape → Bool
same_shape a b = ghosts.eq a b

-- whether the token has one of these shapes
abbrev pub one_of : List Shape → Placed Token → Bool
one_of = shapes.one_of shape_of same_shape

-- what stands behind begins with no token of these shapes
abbrev pub Without : List Shape → Tokens → Type 0
Without = shapes.Without shape_of same_shape

-- no shape is in both lists
abbrev pub is_disjoint : List Shape → List Shape → Bool
is_disjoint = shapes.is_disjoint same_shape

-- where a word or mark of the list stands, and what it stands for
abbrev pub one_listed : {X : Type 0} → List (Shape × X) → Placed Token → Option (Place × X)
one_listed rows = shapes.one_listed shape_of same_shape rows

-- where the word or mark of this shape stands
abbrev pub place_of : Shape → Placed Token → Option Place
place_of = shapes.place_of shape_of same_shape

abbrev pub name_in : Token → Place → Option Named
name_in (token.Name n) at = Some (record { name = n; place = at })
name_in _ at = None

abbrev pub name_of : Placed Token → Option Named
name_of t = name_in t.token t.place

abbrev pub name_shapes : List Shape
name_shapes = shape.Name ∷ shape.BasePackage ∷ []

-- a whole number, and where it stands
abbrev pub number_in : Token → Place → Option (Place × ℕ)
number_in (token.Number v) at = Some (at, v)
number_in _ at = None

abbrev pub number_of : Placed Token → Option (Place × ℕ)
number_of t = number_in t.token t.place

abbrev pub text_in : Token → Option (List ℕ)
text_in (token.Text d) = Some d
text_in _ = None

abbrev pub text_of : Placed Token → Option (List ℕ)
text_of t = text_in t.token

-- the base type that a name is
abbrev pub base_in : Token → Option BaseType
base_in (token.Name n) = base_named n
base_in _ = None

abbrev pub base_of : Placed Token → Option BaseType
base_of t = base_in t.token

-- where a text begins
abbrev pub start : Place
start = record { line = 1; column = 1 }
