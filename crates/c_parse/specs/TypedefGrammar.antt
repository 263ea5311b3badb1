-- The grammar of typedefs, which the full grammar has (docs/formats/c.md).
use Rattle.std.specs.Prelude.{List, Option, ⊤}
use Rattle.hw_text.specs.declared.place.Place.{Place}
use Rattle.hw_text.specs.Language.{One, ◌⋅◌, Maybe, Each, Made, ◌∣◌}
use Rattle.c_tree.specs.declared.named.Named.{Named}
use Rattle.c_tree.specs.declared.named.Literal.{Literal}
use Rattle.c_tree.specs.declared.type_name.TypeName.{TypeName}
use Rattle.c_tree.specs.declared.item.Enumeration.{Enumeration}
use Rattle.c_tree.specs.declared.item.Member.{Member}
use Rattle.c_tree.specs.declared.item.Structure.{Structure}
use Rattle.c_tree.specs.declared.item.Item.{Item}
use Rattle.c_tree.specs.declared.item.Item.TheVariants as item
use Rattle.c_parse.specs.declared.keyword.Keyword.{Keyword}
use Rattle.c_parse.specs.declared.keyword.Keyword.TheVariants as keyword
use Rattle.c_parse.specs.declared.mark.Mark.TheVariants as mark
use Rattle.c_parse.specs.Values.{Tokens, literal_of}
use Rattle.c_parse.specs.ExpressionGrammar.{Sign, Name}
use Rattle.c_parse.specs.CallGrammar.{Word, BehindComma, SpellsType}

-- the word and "{"
abbrev pub Opening : Keyword → ⊤ → Tokens → Type 0
Opening w = Made (λ p. tt) (Word w ⋅ Sign mark.OpenBrace)

-- "}" NAME ";"
abbrev pub Closing : Named → Tokens → Type 0
Closing = Made (λ p. p.1.0) (Sign mark.CloseBrace ⋅ Name ⋅ Sign mark.Semicolon)

abbrev pub enumeration_of : ⊤ × (Named × (List Named × Named)) → Enumeration
enumeration_of p = record { first = p.1.0; others = p.1.1.0; name = p.1.1.1 }

-- "enum" "{" NAME { "," NAME } "}" NAME ";"
abbrev pub SpellsEnumeration : Enumeration → Tokens → Type 0
SpellsEnumeration = Made enumeration_of (Opening keyword.Enum ⋅ Name ⋅ Each (BehindComma Name) ⋅ Closing)

abbrev pub length_of : Place × (Literal × Place) → Literal
length_of p = p.1.0

-- [ "[" INT "]" ]
abbrev pub SpellsLength : Option Literal → Tokens → Type 0
SpellsLength = Maybe (Made length_of (Sign mark.OpenBracket ⋅ One literal_of ⋅ Sign mark.CloseBracket))

abbrev pub member_of : TypeName × (Named × (Option Literal × Place)) → Member
member_of p = record { class = p.0; name = p.1.0; length = p.1.1.0 }

-- ty NAME [ "[" INT "]" ] ";"
abbrev pub SpellsMember : Member → Tokens → Type 0
SpellsMember = Made member_of (SpellsType ⋅ Name ⋅ SpellsLength ⋅ Sign mark.Semicolon)

abbrev pub structure_of : ⊤ × (Member × (List Member × Named)) → Structure
structure_of p = record { first = p.1.0; others = p.1.1.0; name = p.1.1.1 }

-- "struct" "{" member { member } "}" NAME ";"
abbrev pub SpellsStructure : Structure → Tokens → Type 0
SpellsStructure = Made structure_of (Opening keyword.Struct ⋅ SpellsMember ⋅ Each SpellsMember ⋅ Closing)

-- "typedef" and an enumeration or a struct
abbrev pub SpellsTypedef : Item → Tokens → Type 0
SpellsTypedef = Made (λ p. p.1) (Word keyword.Typedef ⋅ (Made item.Enumeration SpellsEnumeration ∣ Made item.Structure SpellsStructure))
