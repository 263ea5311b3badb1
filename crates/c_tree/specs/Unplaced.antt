-- Expressions and statements without their places: each place is put at the start (this project's own; docs/formats/c.md).
use Rattle.std.specs.Prelude.{map}
use Rattle.hw_text.specs.declared.place.Place.{Place}
use Rattle.c_tree.specs.declared.named.Named.{Named}
use Rattle.c_tree.specs.declared.named.Literal.{Literal}
use Rattle.c_tree.specs.declared.named.SignedLiteral.{SignedLiteral}
use Rattle.c_tree.specs.declared.type_name.TypeName.{TypeName}
use Rattle.c_tree.specs.declared.type_name.TypeName.TheVariants as class
use Rattle.c_tree.specs.declared.expression.Base.{Base}
use Rattle.c_tree.specs.declared.expression.Base.TheVariants as base
use Rattle.c_tree.specs.declared.expression.Argument.{Argument}
use Rattle.c_tree.specs.declared.expression.Argument.TheVariants as argument
use Rattle.c_tree.specs.declared.expression.Call.{Call}
use Rattle.c_tree.specs.declared.expression.RightSide.{RightSide}
use Rattle.c_tree.specs.declared.expression.RightSide.TheVariants as right
use Rattle.c_tree.specs.declared.expression.Selector.{Selector}
use Rattle.c_tree.specs.declared.expression.Selector.TheVariants as selector
use Rattle.c_tree.specs.declared.expression.Lvalue.{Lvalue}
use Rattle.c_tree.specs.declared.expression.Expression.{Expression}
use Rattle.c_tree.specs.declared.expression.Expression.TheVariants.{Number, Truth, Value, Unary, Cast, Binary}
use Rattle.c_tree.specs.declared.expression.Expression.TheOpen.{Expression-F, Selector-F, Lvalue-F}
use Rattle.c_tree.specs.declared.expression.Expression.TheOpen as e
use Rattle.c_tree.specs.declared.expression.Expression.TheFolds.{fold-Expression, fold-Selector, fold-Lvalue}
use Rattle.c_tree.specs.declared.statement.LocalValue.{LocalValue}
use Rattle.c_tree.specs.declared.statement.LocalValue.TheVariants as local
use Rattle.c_tree.specs.declared.statement.Branch.{Branch}
use Rattle.c_tree.specs.declared.statement.Otherwise.{Otherwise}
use Rattle.c_tree.specs.declared.statement.Otherwise.TheVariants.{Nothing, Block}
use Rattle.c_tree.specs.declared.statement.Statement.{Statement}
use Rattle.c_tree.specs.declared.statement.Statement.TheVariants.{Local, Assign, Call as CallOf, If, Count, Forever, Break}
use Rattle.c_tree.specs.declared.statement.Otherwise.TheOpen.{Statement-F, Branch-F, Otherwise-F}
use Rattle.c_tree.specs.declared.statement.Otherwise.TheOpen as s
use Rattle.c_tree.specs.declared.statement.Otherwise.TheFolds.{fold-Statement, fold-Branch, fold-Otherwise}

-- where a text begins
abbrev pub origin : Place
origin = record { line = 1; column = 1 }

abbrev pub unplaced_named : Named → Named
unplaced_named x = record { name = x.name; place = origin }

abbrev pub unplaced_literal : Literal → Literal
unplaced_literal l = record { numeral = l.numeral; place = origin }

abbrev pub unplaced_signed : SignedLiteral → SignedLiteral
unplaced_signed l = record { start = origin; negative = l.negative; literal = unplaced_literal l.literal }

abbrev pub unplaced_class : TypeName → TypeName
unplaced_class (class.Integer at kind) = class.Integer origin kind
unplaced_class (class.Truth at) = class.Truth origin
unplaced_class (class.Defined x) = class.Defined (unplaced_named x)

abbrev pub unplaced_base : Base → Base
unplaced_base (base.Variable x) = base.Variable (unplaced_named x)
unplaced_base (base.Pointed at x) = base.Pointed origin (unplaced_named x)
unplaced_base (base.Member x m) = base.Member (unplaced_named x) (unplaced_named m)

-- an expression, its parts being unplaced
abbrev pub unplaced_step : Expression-F Expression Selector Lvalue → Expression
unplaced_step (e.Number start l) = Number origin (unplaced_literal l)
unplaced_step (e.Truth start b) = Truth origin b
unplaced_step (e.Value start l) = Value origin l
unplaced_step (e.Unary start operator at x) = Unary origin operator origin x
unplaced_step (e.Cast start kind at x) = Cast origin kind origin x
unplaced_step (e.Binary start operator at l r) = Binary origin operator origin l r

abbrev pub unplaced_part_step : Selector-F Expression Selector Lvalue → Selector
unplaced_part_step (e.Member x) = selector.Member (unplaced_named x)
unplaced_part_step (e.Index x) = selector.Index x

abbrev pub unplaced_lvalue_step : Lvalue-F Expression Selector Lvalue → Lvalue
unplaced_lvalue_step l = record { base = unplaced_base l.base; parts = l.parts }

abbrev pub unplaced_expression : Expression → Expression
unplaced_expression x = fold-Expression Expression Selector Lvalue unplaced_step unplaced_part_step unplaced_lvalue_step x

abbrev pub unplaced_part : Selector → Selector
unplaced_part x = fold-Selector Expression Selector Lvalue unplaced_step unplaced_part_step unplaced_lvalue_step x

abbrev pub unplaced_lvalue : Lvalue → Lvalue
unplaced_lvalue x = fold-Lvalue Expression Selector Lvalue unplaced_step unplaced_part_step unplaced_lvalue_step x

abbrev pub unplaced_argument : Argument → Argument
unplaced_argument (argument.Address at x) = argument.Address origin (unplaced_named x)
unplaced_argument (argument.Value x) = argument.Value (unplaced_expression x)

abbrev pub unplaced_call : Call → Call
unplaced_call c = record { name = unplaced_named c.name; arguments = map unplaced_argument c.arguments }

abbrev pub unplaced_right : RightSide → RightSide
unplaced_right (right.Call c) = right.Call (unplaced_call c)
unplaced_right (right.Value x) = right.Value (unplaced_expression x)

abbrev pub unplaced_local : LocalValue → LocalValue
unplaced_local (local.ZeroArray l) = local.ZeroArray (unplaced_literal l)
unplaced_local local.Zero = local.Zero
unplaced_local (local.Given value) = local.Given (unplaced_right value)

-- a statement, its parts being unplaced
abbrev pub unplaced_statement_step : Statement-F Otherwise Statement Branch → Statement
unplaced_statement_step (s.Local kind x value) = Local (unplaced_class kind) (unplaced_named x) (unplaced_local value)
unplaced_statement_step (s.Assign target value) = Assign (unplaced_lvalue target) (unplaced_right value)
unplaced_statement_step (s.Call c) = CallOf (unplaced_call c)
unplaced_statement_step (s.If first others otherwise) = If first others otherwise
unplaced_statement_step (s.Count kind x from at below body) = Count kind (unplaced_named x) (unplaced_signed from) origin (unplaced_signed below) body
unplaced_statement_step (s.Forever body) = Forever body
unplaced_statement_step s.Break = Break

abbrev pub unplaced_branch_step : Branch-F Otherwise Statement Branch → Branch
unplaced_branch_step b = record { condition = unplaced_right b.condition; body = b.body }

abbrev pub unplaced_otherwise_step : Otherwise-F Otherwise Statement Branch → Otherwise
unplaced_otherwise_step s.Nothing = Nothing
unplaced_otherwise_step (s.Block body) = Block body

abbrev pub unplaced_statement : Statement → Statement
unplaced_statement x = fold-Statement Otherwise Statement Branch unplaced_otherwise_step unplaced_statement_step unplaced_branch_step x

abbrev pub unplaced_branch : Branch → Branch
unplaced_branch x = fold-Branch Otherwise Statement Branch unplaced_otherwise_step unplaced_statement_step unplaced_branch_step x

abbrev pub unplaced_otherwise : Otherwise → Otherwise
unplaced_otherwise x = fold-Otherwise Otherwise Statement Branch unplaced_otherwise_step unplaced_statement_step unplaced_branch_step x
