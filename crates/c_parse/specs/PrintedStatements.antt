-- The canonical tokens of statements, one case for each production of the grammar (docs/formats/c.md).
use Rattle.std.specs.Prelude.{if◌then◌else◌, List, [], ◌∷◌, ◌++◌, Option, Some, None}
use Rattle.std.specs.List.{flat_map}
use Rattle.c_tree.specs.declared.integer_type.IntegerType.{IntegerType}
use Rattle.c_tree.specs.declared.named.Named.{Named}
use Rattle.c_tree.specs.declared.named.Literal.{Literal}
use Rattle.c_tree.specs.declared.named.SignedLiteral.{SignedLiteral}
use Rattle.c_tree.specs.declared.type_name.TypeName.{TypeName}
use Rattle.c_tree.specs.declared.type_name.TypeName.TheVariants as class
use Rattle.c_tree.specs.declared.statement.LocalValue.{LocalValue}
use Rattle.c_tree.specs.declared.statement.LocalValue.TheVariants as local
use Rattle.c_tree.specs.declared.statement.Branch.{Branch}
use Rattle.c_tree.specs.declared.statement.Otherwise.{Otherwise}
use Rattle.c_tree.specs.declared.statement.Statement.{Statement}
use Rattle.c_tree.specs.declared.statement.Otherwise.TheOpen.{Statement-F, Branch-F, Otherwise-F}
use Rattle.c_tree.specs.declared.statement.Otherwise.TheOpen as s
use Rattle.c_tree.specs.declared.statement.Otherwise.TheFolds.{fold-Statement, fold-Branch, fold-Otherwise}
use Rattle.c_tree.specs.Spellings.{zero}
use Rattle.c_parse.specs.declared.keyword.Keyword.TheVariants as keyword
use Rattle.c_parse.specs.declared.mark.Mark.TheVariants as mark
use Rattle.c_parse.specs.declared.token.Token.{Token}
use Rattle.c_parse.specs.declared.token.Token.TheVariants as token
use Rattle.c_parse.specs.PrintedExpressions.{integer_token, lvalue_tokens, call_tokens, right_tokens}

-- ty: an integer type, `bool` or NAME
abbrev pub type_token : TypeName → Token
type_token (class.Integer at kind) = integer_token kind
type_token (class.Truth at) = token.Keyword keyword.Bool
type_token (class.Defined x) = token.Name x.name

-- [ "-" ] INT
abbrev pub signed_tokens : SignedLiteral → List Token
signed_tokens l = (if l.negative then token.Mark mark.Minus ∷ [] else []) ++ token.Literal l.literal.numeral ∷ []

-- [ "[" INT "]" ]
abbrev pub length_tokens : Option Literal → List Token
length_tokens None = []
length_tokens (Some l) = token.Mark mark.OpenBracket ∷ token.Literal l.numeral ∷ token.Mark mark.CloseBracket ∷ []

-- "=" "{" "0" "}"
abbrev pub zero_tokens : List Token
zero_tokens = token.Mark mark.Assign ∷ token.Mark mark.OpenBrace ∷ token.Literal zero ∷ token.Mark mark.CloseBrace ∷ []

-- "[" INT "]" "=" "{" "0" "}" | "=" "{" "0" "}" | "=" rhs
abbrev pub local_tokens : LocalValue → List Token
local_tokens (local.ZeroArray l) =
    token.Mark mark.OpenBracket ∷ token.Literal l.numeral ∷ token.Mark mark.CloseBracket ∷ zero_tokens
local_tokens local.Zero = zero_tokens
local_tokens (local.Given value) = token.Mark mark.Assign ∷ right_tokens value

-- "for" "(" ity NAME "=" lit ";"
abbrev pub count_start_tokens : IntegerType → Named → SignedLiteral → List Token
count_start_tokens class x from =
    token.Keyword keyword.For ∷ token.Mark mark.OpenParenthesis ∷ integer_token class ∷ token.Name x.name ∷ token.Mark mark.Assign ∷ signed_tokens from ++
    token.Mark mark.Semicolon ∷ []

-- NAME "<" lit ";" NAME "++" ")"
abbrev pub count_end_tokens : Named → SignedLiteral → List Token
count_end_tokens x below =
    token.Name x.name ∷ token.Mark mark.Less ∷ signed_tokens below ++
    token.Mark mark.Semicolon ∷ token.Name x.name ∷ token.Mark mark.Increment ∷ token.Mark mark.CloseParenthesis ∷ []

-- "for" "(" ";" ";" ")"
abbrev pub forever_tokens : List Token
forever_tokens =
    token.Keyword keyword.For ∷ token.Mark mark.OpenParenthesis ∷ token.Mark mark.Semicolon ∷ token.Mark mark.Semicolon ∷ token.Mark mark.CloseParenthesis ∷ []

-- "{" { stmt } "}"
abbrev pub block_tokens : List (List Token) → List Token
block_tokens body = token.Mark mark.OpenBrace ∷ flat_map (λ ts. ts) body ++ token.Mark mark.CloseBrace ∷ []

-- "else" "if" ..
abbrev pub else_tokens : List Token → List Token
else_tokens branch = token.Keyword keyword.Else ∷ branch

-- [ "else" block ]
abbrev pub otherwise_tokens_step : Otherwise-F (List Token) (List Token) (List Token) → List Token
otherwise_tokens_step s.Nothing = []
otherwise_tokens_step (s.Block body) = token.Keyword keyword.Else ∷ block_tokens body

-- "if" "(" rhs ")" block
abbrev pub branch_tokens_step : Branch-F (List Token) (List Token) (List Token) → List Token
branch_tokens_step b =
    token.Keyword keyword.If ∷ token.Mark mark.OpenParenthesis ∷ right_tokens b.condition ++ token.Mark mark.CloseParenthesis ∷ [] ++ block_tokens b.body

abbrev pub statement_tokens_step : Statement-F (List Token) (List Token) (List Token) → List Token
statement_tokens_step (s.Local class x value) = type_token class ∷ token.Name x.name ∷ local_tokens value ++ token.Mark mark.Semicolon ∷ []
statement_tokens_step (s.Assign target value) = lvalue_tokens target ++ token.Mark mark.Assign ∷ [] ++ right_tokens value ++ token.Mark mark.Semicolon ∷ []
statement_tokens_step (s.Call c) = call_tokens c ++ token.Mark mark.Semicolon ∷ []
statement_tokens_step (s.If first others otherwise) = first ++ flat_map else_tokens others ++ otherwise
statement_tokens_step (s.Count class x from at below body) = count_start_tokens class x from ++ count_end_tokens x below ++ block_tokens body
statement_tokens_step (s.Forever body) = forever_tokens ++ block_tokens body
statement_tokens_step s.Break = token.Keyword keyword.Break ∷ token.Mark mark.Semicolon ∷ []

abbrev pub statement_tokens : Statement → List Token
statement_tokens x = fold-Statement (List Token) (List Token) (List Token) otherwise_tokens_step statement_tokens_step branch_tokens_step x

abbrev pub branch_tokens : Branch → List Token
branch_tokens x = fold-Branch (List Token) (List Token) (List Token) otherwise_tokens_step statement_tokens_step branch_tokens_step x

abbrev pub otherwise_tokens : Otherwise → List Token
otherwise_tokens x = fold-Otherwise (List Token) (List Token) (List Token) otherwise_tokens_step statement_tokens_step branch_tokens_step x
