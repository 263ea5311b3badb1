-- The grammar of statements without blocks, and of conditions, in the user grammar or the full one (docs/formats/c.md).
use Rattle.std.specs.Prelude.{⊤}
use Rattle.hw_text.specs.declared.place.Place.{Place}
use Rattle.hw_text.specs.Language.{One, ◌⋅◌, Made, ◌∣◌}
use Rattle.c_tree.specs.declared.dialect.Dialect.{Dialect}
use Rattle.c_tree.specs.declared.named.Named.{Named}
use Rattle.c_tree.specs.declared.named.Literal.{Literal}
use Rattle.c_tree.specs.declared.type_name.TypeName.{TypeName}
use Rattle.c_tree.specs.declared.expression.Lvalue.{Lvalue}
use Rattle.c_tree.specs.declared.expression.RightSide.{RightSide}
use Rattle.c_tree.specs.declared.statement.LocalValue.{LocalValue}
use Rattle.c_tree.specs.declared.statement.LocalValue.TheVariants as local
use Rattle.c_tree.specs.declared.statement.Statement.{Statement}
use Rattle.c_tree.specs.declared.statement.Statement.TheVariants.{Local, Assign, Call as CallOf, Break}
use Rattle.c_parse.specs.declared.keyword.Keyword.TheVariants as keyword
use Rattle.c_parse.specs.declared.mark.Mark.TheVariants as mark
use Rattle.c_parse.specs.Values.{Tokens, literal_of, zero_of}
use Rattle.c_parse.specs.ExpressionGrammar.{Sign, Name, InFull, SpellsLvalue}
use Rattle.c_parse.specs.CallGrammar.{Word, SpellsType, SpellsCall, SpellsRightSide}

-- "{" "0" "}"
abbrev pub SpellsZeros : ⊤ → Tokens → Type 0
SpellsZeros = Made (λ p. tt) (Sign mark.OpenBrace ⋅ One zero_of ⋅ Sign mark.CloseBrace)

abbrev pub zero_array : Place × (Literal × (Place × (Place × ⊤))) → LocalValue
zero_array p = local.ZeroArray p.1.0

-- "[" INT "]" "=" "{" "0" "}"
abbrev pub SpellsZeroArray : LocalValue → Tokens → Type 0
SpellsZeroArray = Made zero_array (Sign mark.OpenBracket ⋅ One literal_of ⋅ Sign mark.CloseBracket ⋅ Sign mark.Assign ⋅ SpellsZeros)

-- "{" "0" "}" | rhs
abbrev pub SpellsGiven : Dialect → LocalValue → Tokens → Type 0
SpellsGiven dialect = Made (λ u. local.Zero) SpellsZeros ∣ Made local.Given (SpellsRightSide dialect)

-- "[" INT "]" "=" "{" "0" "}" | "=" ( "{" "0" "}" | rhs )
abbrev pub SpellsLocalValue : Dialect → LocalValue → Tokens → Type 0
SpellsLocalValue dialect = SpellsZeroArray ∣ Made (λ p. p.1) (Sign mark.Assign ⋅ SpellsGiven dialect)

abbrev pub local_of : TypeName × (Named × (LocalValue × Place)) → Statement
local_of p = Local p.0 p.1.0 p.1.1.0

abbrev pub assign_of : Lvalue × (Place × (RightSide × Place)) → Statement
assign_of p = Assign p.0 p.1.1.0

-- ty NAME value ";"
abbrev pub SpellsLocal : Dialect → Statement → Tokens → Type 0
SpellsLocal dialect = Made local_of (SpellsType ⋅ Name ⋅ SpellsLocalValue dialect ⋅ Sign mark.Semicolon)

-- lval "=" rhs ";"
abbrev pub SpellsAssignment : Dialect → Statement → Tokens → Type 0
SpellsAssignment dialect = Made assign_of (SpellsLvalue dialect ⋅ Sign mark.Assign ⋅ SpellsRightSide dialect ⋅ Sign mark.Semicolon)

-- call ";"
abbrev pub SpellsCallAlone : Dialect → Statement → Tokens → Type 0
SpellsCallAlone dialect = Made (λ p. CallOf p.0) (SpellsCall dialect ⋅ Sign mark.Semicolon)

-- "break" ";"
abbrev pub SpellsBreak : Statement → Tokens → Type 0
SpellsBreak = Made (λ p. Break) (Word keyword.Break ⋅ Sign mark.Semicolon)

-- what has no block
abbrev pub SpellsPlain : Dialect → Statement → Tokens → Type 0
SpellsPlain dialect = SpellsLocal dialect ∣ SpellsAssignment dialect ∣ SpellsCallAlone dialect ∣ InFull dialect SpellsBreak

-- NAME value ";", behind the type of a local variable
abbrev pub LocalBehind : Dialect → TypeName → Statement → Tokens → Type 0
LocalBehind dialect class = Made (λ p. local_of (class, p)) (Name ⋅ SpellsLocalValue dialect ⋅ Sign mark.Semicolon)

-- "=" rhs ";", behind what is assigned
abbrev pub AssignedBehind : Dialect → Lvalue → Statement → Tokens → Type 0
AssignedBehind dialect target = Made (λ p. assign_of (target, p)) (Sign mark.Assign ⋅ SpellsRightSide dialect ⋅ Sign mark.Semicolon)

-- "(" rhs ")"
abbrev pub SpellsCondition : Dialect → RightSide → Tokens → Type 0
SpellsCondition dialect = Made (λ p. p.1.0) (Sign mark.OpenParenthesis ⋅ SpellsRightSide dialect ⋅ Sign mark.CloseParenthesis)
