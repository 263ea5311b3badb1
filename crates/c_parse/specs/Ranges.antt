-- The ranges of loops over numbers, and which of them are empty (docs/formats/c.md).
use Rattle.std.specs.Prelude.{◌≡◌, ℕ, ◌+◌, ◌≤ℤ◌, ◌++◌, length}
use Rattle.hw_text.specs.declared.place.Place.{Place}
use Rattle.hw_text.specs.Language.{One, ◌⋅◌, Made}
use Rattle.c_tree.specs.Literals.{signed_value}
use Rattle.c_tree.specs.declared.integer_type.IntegerType.{IntegerType}
use Rattle.c_tree.specs.declared.named.Named.{Named}
use Rattle.c_tree.specs.declared.named.SignedLiteral.{SignedLiteral}
use Rattle.c_parse.specs.declared.keyword.Keyword.TheVariants as keyword
use Rattle.c_parse.specs.declared.mark.Mark.TheVariants as mark
use Rattle.c_parse.specs.Values.{Tokens, integer_of}
use Rattle.c_parse.specs.ExpressionGrammar.{Sign, Name}
use Rattle.c_parse.specs.CallGrammar.{Word, SpellsSigned}

-- the literals of a range: with which number it begins, and below which it ends
abbrev pub Bounds : Type 0
Bounds = SignedLiteral × SignedLiteral

abbrev pub bounds_of : Place × (Place × ((Place × IntegerType) × (Named × (Place × (SignedLiteral × (Place × (Named × (Place × SignedLiteral)))))))) → Bounds
bounds_of p = (p.1.1.1.1.1.0, p.1.1.1.1.1.1.1.1.1)

-- "for" "(" ity NAME "=" lit ";" NAME "<" lit
abbrev pub SpellsBounds : Bounds → Tokens → Type 0
SpellsBounds =
    Made bounds_of
    (Word keyword.For ⋅ Sign mark.OpenParenthesis ⋅ One integer_of ⋅ Name ⋅ Sign mark.Assign ⋅ SpellsSigned ⋅ Sign mark.Semicolon ⋅ Name ⋅
    Sign mark.Less ⋅ SpellsSigned)

-- with the token at the index ends a range whose second literal, which begins at the place, is not above the first
pub record IsEmptyRange (ts : Tokens) (i : ℕ) (at : Place) : Type 0 where
  pub before : Tokens
  pub head : Tokens
  pub behind : Tokens
  pub bounds : Bounds
  pub split : ts ≡ before ++ (head ++ behind)
  pub last : length (before ++ head) ≡ i + 1
  pub spelled : SpellsBounds bounds head
  pub not_above : signed_value bounds.1 ≤ℤ signed_value bounds.0
  pub begins : at ≡ bounds.1.start
