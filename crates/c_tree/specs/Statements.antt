-- The canonical text of statements: a line each, blocks four spaces deeper (this project's own; docs/formats/c.md).
use Rattle.std.specs.Prelude.{ℕ, List, [], ◌∷◌, ◌++◌, codes}
use Rattle.std.specs.List.{flat_map}
use Rattle.c_tree.specs.declared.integer_type.IntegerType.{IntegerType}
use Rattle.c_tree.specs.declared.named.Named.{Named}
use Rattle.c_tree.specs.declared.named.SignedLiteral.{SignedLiteral}
use Rattle.c_tree.specs.declared.statement.LocalValue.{LocalValue}
use Rattle.c_tree.specs.declared.statement.LocalValue.TheVariants as local
use Rattle.c_tree.specs.declared.statement.Branch.{Branch}
use Rattle.c_tree.specs.declared.statement.Otherwise.{Otherwise}
use Rattle.c_tree.specs.declared.statement.Statement.{Statement}
use Rattle.c_tree.specs.declared.statement.Otherwise.TheOpen.{Statement-F, Branch-F, Otherwise-F}
use Rattle.c_tree.specs.declared.statement.Otherwise.TheOpen as s
use Rattle.c_tree.specs.declared.statement.Otherwise.TheFolds.{fold-Statement, fold-Branch, fold-Otherwise}
use Rattle.c_tree.specs.Types.{integer_text}
use Rattle.c_tree.specs.Printing.{type_text, signed_text}
use Rattle.c_tree.specs.Expressions.{lvalue_text, call_text, right_text}

-- the text of a statement from its first token to its last, for the spaces that stand before each of its lines
abbrev pub Lines : Type 0
Lines = List ℕ → List ℕ

-- the spaces of the lines in a block
abbrev pub deeper : List ℕ → List ℕ
deeper margin = margin ++ codes "    "

abbrev pub line : List ℕ → List ℕ → List ℕ
line margin text = margin ++ text ++ 10 ∷ []

-- statements, one after another
abbrev pub all_lines : List Lines → Lines
all_lines [] margin = []
all_lines (x ∷ xs) margin = line margin (x margin) ++ all_lines xs margin

-- a block, from the brace that ends its opening line to the one that begins its closing line
abbrev pub block_text : List Lines → Lines
block_text body margin = codes " {" ++ 10 ∷ [] ++ all_lines body (deeper margin) ++ margin ++ codes "}"

abbrev pub local_text : LocalValue → List ℕ
local_text (local.ZeroArray length) = codes "[" ++ length.numeral.bytes ++ codes "] = {0}"
local_text local.Zero = codes " = {0}"
local_text (local.Given value) = codes " = " ++ right_text value

-- the head of a loop over numbers: where it begins, and where it ends
abbrev pub count_start_text : IntegerType → Named → SignedLiteral → List ℕ
count_start_text class x from = codes "for (" ++ integer_text class ++ codes " " ++ x.name.bytes ++ codes " = " ++ signed_text from ++ codes "; "

abbrev pub count_end_text : Named → SignedLiteral → List ℕ
count_end_text x below = x.name.bytes ++ codes " < " ++ signed_text below ++ codes "; " ++ x.name.bytes ++ codes "++)"

abbrev pub count_text : IntegerType → Named → SignedLiteral → SignedLiteral → List ℕ
count_text class x from below = count_start_text class x from ++ count_end_text x below

-- the head of a loop that ends by `break` alone
unfoldable pub forever_text : List ℕ
forever_text = codes "for (;;)"

abbrev pub else_text : List ℕ → Lines → List ℕ
else_text margin branch = codes " else " ++ branch margin

abbrev pub otherwise_step : Otherwise-F Lines Lines Lines → Lines
otherwise_step s.Nothing margin = []
otherwise_step (s.Block body) margin = codes " else" ++ block_text body margin

abbrev pub branch_step : Branch-F Lines Lines Lines → Lines
branch_step b margin = codes "if (" ++ right_text b.condition ++ codes ")" ++ block_text b.body margin

abbrev pub statement_step : Statement-F Lines Lines Lines → Lines
statement_step (s.Local class x value) margin = type_text class ++ codes " " ++ x.name.bytes ++ local_text value ++ codes ";"
statement_step (s.Assign target value) margin = lvalue_text target ++ codes " = " ++ right_text value ++ codes ";"
statement_step (s.Call c) margin = call_text c ++ codes ";"
statement_step (s.If first others otherwise) margin = first margin ++ flat_map (else_text margin) others ++ otherwise margin
statement_step (s.Count class x from at below body) margin = count_text class x from below ++ block_text body margin
statement_step (s.Forever body) margin = forever_text ++ block_text body margin
statement_step s.Break margin = codes "break;"

abbrev pub statement_text : Statement → Lines
statement_text x = fold-Statement Lines Lines Lines otherwise_step statement_step branch_step x

abbrev pub branch_text : Branch → Lines
branch_text x = fold-Branch Lines Lines Lines otherwise_step statement_step branch_step x

abbrev pub otherwise_text : Otherwise → Lines
otherwise_text x = fold-Otherwise Lines Lines Lines otherwise_step statement_step branch_step x
