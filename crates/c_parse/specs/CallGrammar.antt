-- The grammar of types, literals behind a minus, calls, and what stands on the right (docs/formats/c.md).
use Rattle.std.specs.Prelude.{◌≡◌, true, false, List, [], ◌∷◌}
use Rattle.hw_text.specs.declared.place.Place.{Place}
use Rattle.hw_text.specs.Language.{One, ◌⋅◌, Each, Made, ◌∣◌}
use Rattle.c_tree.specs.declared.dialect.Dialect.{Dialect}
use Rattle.c_tree.specs.declared.integer_type.IntegerType.{IntegerType}
use Rattle.c_tree.specs.declared.named.Named.{Named}
use Rattle.c_tree.specs.declared.named.Literal.{Literal}
use Rattle.c_tree.specs.declared.named.SignedLiteral.{SignedLiteral}
use Rattle.c_tree.specs.declared.type_name.TypeName.{TypeName}
use Rattle.c_tree.specs.declared.type_name.TypeName.TheVariants as class
use Rattle.c_tree.specs.declared.expression.Argument.{Argument}
use Rattle.c_tree.specs.declared.expression.Argument.TheVariants as argument
use Rattle.c_tree.specs.declared.expression.Call.{Call}
use Rattle.c_tree.specs.declared.expression.RightSide.{RightSide}
use Rattle.c_tree.specs.declared.expression.RightSide.TheVariants as right
use Rattle.c_parse.specs.declared.keyword.Keyword.{Keyword}
use Rattle.c_parse.specs.declared.keyword.Keyword.TheVariants as keyword
use Rattle.c_parse.specs.declared.mark.Mark.TheVariants as mark
use Rattle.c_parse.specs.Values.{Tokens, keyword_of, literal_of, integer_of}
use Rattle.c_parse.specs.ExpressionGrammar.{Sign, Name, SpellsWhole}

-- this word
abbrev pub Word : Keyword → Place → Tokens → Type 0
Word w = One (keyword_of w)

abbrev pub BehindComma : {X : Type 0} → (X → Tokens → Type 0) → X → Tokens → Type 0
BehindComma A = Made (λ p. p.1) (Sign mark.Comma ⋅ A)

-- { x }, behind a first member that was read before
abbrev pub Following : {X : Type 0} → X → (X → Tokens → Type 0) → List X → Tokens → Type 0
Following first A = Made (λ later. first ∷ later) (Each A)

-- [ x { "," x } ]
abbrev pub Separated : {X : Type 0} → (X → Tokens → Type 0) → List X → Tokens → Type 0
Separated A [] ts = ts ≡ []
Separated A (x ∷ xs) ts = (A ⋅ Each (BehindComma A)) (x, xs) ts

abbrev pub integer_name : Place × IntegerType → TypeName
integer_name p = class.Integer p.0 p.1

-- ty: an integer type, `bool` or NAME
abbrev pub SpellsType : TypeName → Tokens → Type 0
SpellsType = Made integer_name (One integer_of) ∣ Made class.Truth (Word keyword.Bool) ∣ Made class.Defined Name

abbrev pub plain_literal : Literal → SignedLiteral
plain_literal l = record { start = l.place; negative = false; literal = l }

abbrev pub negative_literal : Place × Literal → SignedLiteral
negative_literal p = record { start = p.0; negative = true; literal = p.1 }

-- [ "-" ] INT
abbrev pub SpellsSigned : SignedLiteral → Tokens → Type 0
SpellsSigned = Made plain_literal (One literal_of) ∣ Made negative_literal (Sign mark.Minus ⋅ One literal_of)

abbrev pub address : Place × Named → Argument
address p = argument.Address p.0 p.1

-- "&" NAME | expr
abbrev pub SpellsArgument : Dialect → Argument → Tokens → Type 0
SpellsArgument dialect = Made address (Sign mark.Ampersand ⋅ Name) ∣ Made argument.Value (SpellsWhole dialect)

abbrev pub call_of : Named × (Place × (List Argument × Place)) → Call
call_of p = record { name = p.0; arguments = p.1.1.0 }

-- NAME "(" [ arg { "," arg } ] ")"
abbrev pub SpellsCall : Dialect → Call → Tokens → Type 0
SpellsCall dialect = Made call_of (Name ⋅ Sign mark.OpenParenthesis ⋅ Separated (SpellsArgument dialect) ⋅ Sign mark.CloseParenthesis)

-- call | expr
abbrev pub SpellsRightSide : Dialect → RightSide → Tokens → Type 0
SpellsRightSide dialect = Made right.Call (SpellsCall dialect) ∣ Made right.Value (SpellsWhole dialect)
