-- The canonical tokens of units, one case for each production of the grammar (docs/formats/c.md).
use Rattle.std.specs.Prelude.{Bool, if◌then◌else◌, List, [], ◌∷◌, ◌++◌, Option, Some, None}
use Rattle.std.specs.List.{flat_map}
use Rattle.c_tree.specs.declared.named.Named.{Named}
use Rattle.c_tree.specs.declared.named.Literal.{Literal}
use Rattle.c_tree.specs.declared.type_name.TypeName.{TypeName}
use Rattle.c_tree.specs.declared.item.Enumeration.{Enumeration}
use Rattle.c_tree.specs.declared.item.Member.{Member}
use Rattle.c_tree.specs.declared.item.Structure.{Structure}
use Rattle.c_tree.specs.declared.item.InitialValue.{InitialValue}
use Rattle.c_tree.specs.declared.item.InitialValue.TheVariants as initial
use Rattle.c_tree.specs.declared.item.Variable.{Variable}
use Rattle.c_tree.specs.declared.item.External.{External}
use Rattle.c_tree.specs.declared.item.Pointer.{Pointer}
use Rattle.c_tree.specs.declared.item.Parameter.{Parameter}
use Rattle.c_tree.specs.declared.item.Prototype.{Prototype}
use Rattle.c_tree.specs.declared.item.Returned.{Returned}
use Rattle.c_tree.specs.declared.item.Function.{Function}
use Rattle.c_tree.specs.declared.item.Item.{Item}
use Rattle.c_tree.specs.declared.item.Item.TheVariants as item
use Rattle.c_tree.specs.declared.unit.Unit.{Unit as CUnit}
use Rattle.c_tree.specs.Items.{class_of}
use Rattle.c_parse.specs.declared.keyword.Keyword.TheVariants as keyword
use Rattle.c_parse.specs.declared.mark.Mark.TheVariants as mark
use Rattle.c_parse.specs.declared.token.Token.{Token}
use Rattle.c_parse.specs.declared.token.Token.TheVariants as token
use Rattle.c_parse.specs.PrintedExpressions.{name_tokens, truth_token, separated, right_tokens}
use Rattle.c_parse.specs.PrintedStatements.{type_token, signed_tokens, length_tokens, zero_tokens, statement_tokens}

-- ty NAME [ "[" INT "]" ]
abbrev pub declared_tokens : TypeName → Named → Option Literal → List Token
declared_tokens class x length = type_token class ∷ token.Name x.name ∷ length_tokens length

-- "typedef" "enum" "{" NAME { "," NAME } "}" NAME ";"
abbrev pub enumeration_tokens : Enumeration → List Token
enumeration_tokens e =
    token.Keyword keyword.Typedef ∷ token.Keyword keyword.Enum ∷ token.Mark mark.OpenBrace ∷ separated name_tokens (e.first ∷ e.others) ++
    token.Mark mark.CloseBrace ∷ token.Name e.name.name ∷ token.Mark mark.Semicolon ∷ []

-- ty NAME [ "[" INT "]" ] ";"
abbrev pub member_tokens : Member → List Token
member_tokens m = declared_tokens m.class m.name m.length ++ token.Mark mark.Semicolon ∷ []

-- "typedef" "struct" "{" member { member } "}" NAME ";"
abbrev pub structure_tokens : Structure → List Token
structure_tokens s =
    token.Keyword keyword.Typedef ∷ token.Keyword keyword.Struct ∷ token.Mark mark.OpenBrace ∷ flat_map member_tokens (s.first ∷ s.others) ++
    token.Mark mark.CloseBrace ∷ token.Name s.name.name ∷ token.Mark mark.Semicolon ∷ []

-- [ "static" ]
abbrev pub static_tokens : Bool → List Token
static_tokens b = if b then token.Keyword keyword.Static ∷ [] else []

-- [ "=" ( "{" "0" "}" | lit | "true" | "false" | NAME ) ]
abbrev pub initial_tokens : Option InitialValue → List Token
initial_tokens None = []
initial_tokens (Some initial.Zero) = zero_tokens
initial_tokens (Some (initial.Number l)) = token.Mark mark.Assign ∷ signed_tokens l
initial_tokens (Some (initial.Truth at b)) = token.Mark mark.Assign ∷ truth_token b ∷ []
initial_tokens (Some (initial.Enumerator x)) = token.Mark mark.Assign ∷ token.Name x.name ∷ []

-- [ "static" ] ty NAME [ "[" INT "]" ] [ "=" init ] ";"
abbrev pub variable_tokens : Variable → List Token
variable_tokens v = static_tokens v.is_static ++ declared_tokens v.class v.name v.length ++ initial_tokens v.initial ++ token.Mark mark.Semicolon ∷ []

-- "extern" ty NAME [ "[" INT "]" ] ";"
abbrev pub external_tokens : External → List Token
external_tokens x = token.Keyword keyword.Extern ∷ declared_tokens x.class x.name x.length ++ token.Mark mark.Semicolon ∷ []

-- "volatile" NAME "*" NAME ";"
abbrev pub pointer_tokens : Pointer → List Token
pointer_tokens p =
    token.Keyword keyword.Volatile ∷ token.Name p.class.name ∷ token.Mark mark.Star ∷ token.Name p.name.name ∷ token.Mark mark.Semicolon ∷ []

-- [ "*" ]
abbrev pub star_tokens : Bool → List Token
star_tokens b = if b then token.Mark mark.Star ∷ [] else []

-- ty [ "*" ] NAME
abbrev pub parameter_tokens : Parameter → List Token
parameter_tokens p = type_token p.class ∷ star_tokens p.is_pointer ++ token.Name p.name.name ∷ []

-- "void" | parameter { "," parameter }
abbrev pub parameters_tokens : List Parameter → List Token
parameters_tokens [] = token.Keyword keyword.Void ∷ []
parameters_tokens (p ∷ ps) = separated parameter_tokens (p ∷ ps)

-- "void" | ty
abbrev pub result_tokens : Option TypeName → List Token
result_tokens None = token.Keyword keyword.Void ∷ []
result_tokens (Some class) = type_token class ∷ []

-- NAME "(" parameters ")"
abbrev pub signature_tokens : Named → List Parameter → List Token
signature_tokens x parameters =
    token.Name x.name ∷ token.Mark mark.OpenParenthesis ∷ parameters_tokens parameters ++ token.Mark mark.CloseParenthesis ∷ []

-- [ "static" ] result NAME "(" parameters ")" ";"
abbrev pub prototype_tokens : Prototype → List Token
prototype_tokens p = static_tokens p.is_static ++ result_tokens p.class ++ signature_tokens p.name p.parameters ++ token.Mark mark.Semicolon ∷ []

-- [ "return" rhs ";" ]
abbrev pub return_tokens : Option Returned → List Token
return_tokens None = []
return_tokens (Some r) = token.Keyword keyword.Return ∷ right_tokens r.value ++ token.Mark mark.Semicolon ∷ []

-- [ "static" ] result NAME "(" parameters ")" "{" { stmt } [ "return" rhs ";" ] "}"
abbrev pub function_tokens : Function → List Token
function_tokens f =
    static_tokens f.is_static ++ result_tokens (class_of f.returned) ++ signature_tokens f.name f.parameters ++ token.Mark mark.OpenBrace ∷ [] ++
    (flat_map statement_tokens f.body ++ return_tokens f.returned) ++ token.Mark mark.CloseBrace ∷ []

abbrev pub item_tokens : Item → List Token
item_tokens (item.Enumeration e) = enumeration_tokens e
item_tokens (item.Structure s) = structure_tokens s
item_tokens (item.Variable v) = variable_tokens v
item_tokens (item.External x) = external_tokens x
item_tokens (item.Pointer p) = pointer_tokens p
item_tokens (item.Prototype p) = prototype_tokens p
item_tokens (item.Function f) = function_tokens f

-- { item }
abbrev pub unit_tokens : CUnit → List Token
unit_tokens u = flat_map item_tokens u.items
