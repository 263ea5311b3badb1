-- The grammar of units, in the user grammar or the full one (docs/formats/c.md).
use Rattle.std.specs.Prelude.{◌≡◌, Bool, true, false, List, [], ◌∷◌, ◌++◌, Option, Some, None, is_some}
use Rattle.hw_text.specs.declared.place.Place.{Place}
use Rattle.hw_text.specs.Language.{One, Nothing, ◌⋅◌, Maybe, Each, Made, ◌∣◌}
use Rattle.c_tree.specs.declared.dialect.Dialect.{Dialect}
use Rattle.c_tree.specs.declared.named.Named.{Named}
use Rattle.c_tree.specs.declared.named.Literal.{Literal}
use Rattle.c_tree.specs.declared.type_name.TypeName.{TypeName}
use Rattle.c_tree.specs.declared.expression.RightSide.{RightSide}
use Rattle.c_tree.specs.declared.item.InitialValue.{InitialValue}
use Rattle.c_tree.specs.declared.item.InitialValue.TheVariants as initial
use Rattle.c_tree.specs.declared.item.External.{External}
use Rattle.c_tree.specs.declared.item.Pointer.{Pointer}
use Rattle.c_tree.specs.declared.item.Parameter.{Parameter}
use Rattle.c_tree.specs.declared.item.Returned.{Returned}
use Rattle.c_tree.specs.declared.item.Item.{Item}
use Rattle.c_tree.specs.declared.item.Item.TheVariants as item
use Rattle.c_tree.specs.declared.statement.Statement.{Statement}
use Rattle.c_tree.specs.declared.unit.Unit.{Unit as CUnit}
use Rattle.c_parse.specs.declared.headings.Heading.{Heading}
use Rattle.c_parse.specs.declared.keyword.Keyword.TheVariants as keyword
use Rattle.c_parse.specs.declared.mark.Mark.TheVariants as mark
use Rattle.c_parse.specs.Values.{Tokens, truth_of}
use Rattle.c_parse.specs.ExpressionGrammar.{Sign, Name, InFull}
use Rattle.c_parse.specs.CallGrammar.{Word, BehindComma, SpellsType, SpellsSigned, SpellsRightSide}
use Rattle.c_parse.specs.TypedefGrammar.{SpellsLength, SpellsTypedef}
use Rattle.c_parse.specs.PlainGrammar.{SpellsZeros}
use Rattle.c_parse.specs.StatementGrammar.{SpellsStatements}

abbrev pub initial_truth : Place × Bool → InitialValue
initial_truth p = initial.Truth p.0 p.1

-- "{" "0" "}" | "true" | "false" | NAME | lit
abbrev pub SpellsInitial : InitialValue → Tokens → Type 0
SpellsInitial =
    Made (λ u. initial.Zero) SpellsZeros ∣ Made initial_truth (One truth_of) ∣ Made initial.Enumerator Name ∣ Made initial.Number SpellsSigned

-- whether "static" stands there
abbrev pub SpellsStatic : Bool → Tokens → Type 0
SpellsStatic = Made (λ p. true) (Word keyword.Static) ∣ Made (λ p. false) Nothing

abbrev pub external_of : Place × (TypeName × (Named × (Option Literal × Place))) → External
external_of p = record { class = p.1.0; name = p.1.1.0; length = p.1.1.1.0 }

-- "extern" ty NAME [ "[" INT "]" ] ";"
abbrev pub SpellsExternal : External → Tokens → Type 0
SpellsExternal = Made external_of (Word keyword.Extern ⋅ SpellsType ⋅ Name ⋅ SpellsLength ⋅ Sign mark.Semicolon)

abbrev pub pointer_of : Place × (Named × (Place × (Named × Place))) → Pointer
pointer_of p = record { class = p.1.0; name = p.1.1.1.0 }

-- "volatile" NAME "*" NAME ";"
abbrev pub SpellsPointer : Pointer → Tokens → Type 0
SpellsPointer = Made pointer_of (Word keyword.Volatile ⋅ Name ⋅ Sign mark.Star ⋅ Name ⋅ Sign mark.Semicolon)

abbrev pub parameter_of : TypeName × Named → Parameter
parameter_of p = record { class = p.0; is_pointer = false; name = p.1 }

abbrev pub pointer_parameter_of : TypeName × (Place × Named) → Parameter
pointer_parameter_of p = record { class = p.0; is_pointer = true; name = p.1.1 }

-- ty NAME, or in full ty "*" NAME
abbrev pub SpellsParameter : Dialect → Parameter → Tokens → Type 0
SpellsParameter dialect =
    Made parameter_of (SpellsType ⋅ Name) ∣ InFull dialect (Made pointer_parameter_of (SpellsType ⋅ Sign mark.Star ⋅ Name))

abbrev pub parameters_of : Parameter × List Parameter → List Parameter
parameters_of p = p.0 ∷ p.1

-- "void" | parameter { "," parameter }
abbrev pub SpellsParameters : Dialect → List Parameter → Tokens → Type 0
SpellsParameters dialect =
    Made (λ p. []) (Word keyword.Void) ∣ Made parameters_of (SpellsParameter dialect ⋅ Each (BehindComma (SpellsParameter dialect)))

-- "void" | ty
abbrev pub SpellsResult : Option TypeName → Tokens → Type 0
SpellsResult = Made (λ p. None) (Word keyword.Void) ∣ Made Some SpellsType

abbrev pub heading_of : Bool × (Option TypeName × Named) → Heading
heading_of p = record { is_static = p.0; class = p.1.0; name = p.1.1 }

-- [ "static" ] result NAME
abbrev pub SpellsHeading : Heading → Tokens → Type 0
SpellsHeading = Made heading_of (SpellsStatic ⋅ SpellsResult ⋅ Name)

abbrev pub variable_of : Bool → TypeName → Named → Option Literal × (Option InitialValue × Place) → Item
variable_of is_static class name p =
    item.Variable (record { is_static = is_static; class = class; name = name; length = p.0; initial = p.1.0 })

-- [ "[" INT "]" ] [ "=" init ] ";"
abbrev pub VariableBehind : Bool → TypeName → Named → Item → Tokens → Type 0
VariableBehind is_static class name =
    Made (variable_of is_static class name) (SpellsLength ⋅ Maybe (Made (λ p. p.1) (Sign mark.Assign ⋅ SpellsInitial)) ⋅ Sign mark.Semicolon)

-- the statements of a body, and the value that is returned
abbrev pub Body : Type 0
Body = List Statement × Option RightSide

-- { stmt } "return" rhs ";" "}", or { stmt } "}" where nothing is returned
abbrev pub SpellsBody : Dialect → Bool → Body → Tokens → Type 0
SpellsBody dialect true =
    Made (λ p. (p.0, Some p.1.1.0)) (SpellsStatements dialect ⋅ Word keyword.Return ⋅ SpellsRightSide dialect ⋅ Sign mark.Semicolon ⋅ Sign mark.CloseBrace)
SpellsBody dialect false = Made (λ p. (p.0, None)) (SpellsStatements dialect ⋅ Sign mark.CloseBrace)

-- "{" body, or in full ";"
abbrev pub SpellsEnding : Dialect → Bool → Option Body → Tokens → Type 0
SpellsEnding dialect returns =
    InFull dialect (Made (λ p. None) (Sign mark.Semicolon)) ∣ Made (λ p. Some p.1) (Sign mark.OpenBrace ⋅ SpellsBody dialect returns)

abbrev pub returned_of : Option TypeName → Option RightSide → Option Returned
returned_of (Some class) (Some value) = Some (record { class = class; value = value })
returned_of _ _ = None

-- a prototype where there is no body, else a function
abbrev pub function_of : Heading → List Parameter → Option Body → Item
function_of h parameters None =
    item.Prototype (record { is_static = h.is_static; class = h.class; name = h.name; parameters = parameters })
function_of h parameters (Some body) =
    item.Function (record { is_static = h.is_static; returned = returned_of h.class body.1; name = h.name; parameters = parameters; body = body.0 })

-- "(" parameters ")" and the body, or in full ";"
abbrev pub FunctionBehind : Dialect → Heading → Item → Tokens → Type 0
FunctionBehind dialect h =
    Made (λ p. function_of h p.1.0 p.1.1.1)
    (Sign mark.OpenParenthesis ⋅ SpellsParameters dialect ⋅ Sign mark.CloseParenthesis ⋅ SpellsEnding dialect (is_some h.class))

-- what stands behind the heading: for a type that of a variable or of a function, for `void` that of a function
abbrev pub ItemBehind : Dialect → Heading → Option TypeName → Item → Tokens → Type 0
ItemBehind dialect h None = FunctionBehind dialect h
ItemBehind dialect h (Some class) = VariableBehind h.is_static class h.name ∣ FunctionBehind dialect h

-- a variable, a function, or in full a prototype
abbrev pub SpellsDeclared : Dialect → Item → Tokens → Type 0
SpellsDeclared dialect i ts = (h : Heading) × (us vs : Tokens) × (ts ≡ us ++ vs) × SpellsHeading h us × ItemBehind dialect h h.class i vs

abbrev pub SpellsItem : Dialect → Item → Tokens → Type 0
SpellsItem dialect =
    InFull dialect SpellsTypedef ∣ InFull dialect (Made item.External SpellsExternal) ∣ InFull dialect (Made item.Pointer SpellsPointer) ∣
    SpellsDeclared dialect

-- { item }, the text ending there
abbrev pub SpellsUnit : Dialect → Place → CUnit → Tokens → Type 0
SpellsUnit dialect end u ts = Each (SpellsItem dialect) u.items ts × (u.end ≡ end)
