-- The units that a grammar has texts of: those of which each range holds, and for users without what only the full grammar has
-- (docs/formats/c.md).
use Rattle.std.specs.Prelude.{ℕ, nat_le, Bool, true, false, ◌&&◌, ◌||◌, not, length, Option, Some, None}
use Rattle.std.specs.List.{list_all}
use Rattle.c_tree.specs.Literals.{range_holds}
use Rattle.c_tree.specs.declared.dialect.Dialect.{Dialect}
use Rattle.c_tree.specs.declared.dialect.Dialect.TheVariants.{User, Full}
use Rattle.c_tree.specs.declared.expression.Base.{Base}
use Rattle.c_tree.specs.declared.expression.Base.TheVariants as base
use Rattle.c_tree.specs.declared.expression.Argument.{Argument}
use Rattle.c_tree.specs.declared.expression.Argument.TheVariants as argument
use Rattle.c_tree.specs.declared.expression.Call.{Call}
use Rattle.c_tree.specs.declared.expression.RightSide.{RightSide}
use Rattle.c_tree.specs.declared.expression.RightSide.TheVariants as right
use Rattle.c_tree.specs.declared.expression.Selector.{Selector}
use Rattle.c_tree.specs.declared.expression.Lvalue.{Lvalue}
use Rattle.c_tree.specs.declared.expression.Expression.{Expression}
use Rattle.c_tree.specs.declared.expression.Expression.TheOpen.{Expression-F, Selector-F, Lvalue-F}
use Rattle.c_tree.specs.declared.expression.Expression.TheOpen as e
use Rattle.c_tree.specs.declared.expression.Expression.TheFolds.{fold-Expression, fold-Selector, fold-Lvalue}
use Rattle.c_tree.specs.declared.statement.LocalValue.{LocalValue}
use Rattle.c_tree.specs.declared.statement.LocalValue.TheVariants as local
use Rattle.c_tree.specs.declared.statement.Branch.{Branch}
use Rattle.c_tree.specs.declared.statement.Otherwise.{Otherwise}
use Rattle.c_tree.specs.declared.statement.Statement.{Statement}
use Rattle.c_tree.specs.declared.statement.Otherwise.TheOpen.{Statement-F, Branch-F, Otherwise-F}
use Rattle.c_tree.specs.declared.statement.Otherwise.TheOpen as s
use Rattle.c_tree.specs.declared.statement.Otherwise.TheFolds.{fold-Statement, fold-Branch, fold-Otherwise}
use Rattle.c_tree.specs.declared.item.Parameter.{Parameter}
use Rattle.c_tree.specs.declared.item.Returned.{Returned}
use Rattle.c_tree.specs.declared.item.Function.{Function}
use Rattle.c_tree.specs.declared.item.Item.{Item}
use Rattle.c_tree.specs.declared.item.Item.TheVariants as item
use Rattle.c_tree.specs.declared.unit.Unit.{Unit as CUnit}

abbrev pub is_full : Dialect → Bool
is_full User = false
is_full Full = true

-- for users no pointer
abbrev pub has_base : Dialect → Base → Bool
has_base d (base.Variable x) = true
has_base d (base.Pointed at x) = is_full d
has_base d (base.Member x m) = is_full d

abbrev pub has_step : Dialect → Expression-F Bool Bool Bool → Bool
has_step d (e.Number start l) = true
has_step d (e.Truth start b) = true
has_step d (e.Value start l) = l
has_step d (e.Unary start operator at x) = x
has_step d (e.Cast start kind at x) = x
has_step d (e.Binary start operator at l r) = l && r

abbrev pub has_part_step : Dialect → Selector-F Bool Bool Bool → Bool
has_part_step d (e.Member x) = true
has_part_step d (e.Index x) = x

abbrev pub has_lvalue_step : Dialect → Lvalue-F Bool Bool Bool → Bool
has_lvalue_step d l = has_base d l.base && list_all (λ b. b) l.parts

abbrev pub has_expression : Dialect → Expression → Bool
has_expression d x = fold-Expression Bool Bool Bool (has_step d) (has_part_step d) (has_lvalue_step d) x

abbrev pub has_part : Dialect → Selector → Bool
has_part d x = fold-Selector Bool Bool Bool (has_step d) (has_part_step d) (has_lvalue_step d) x

abbrev pub has_lvalue : Dialect → Lvalue → Bool
has_lvalue d x = fold-Lvalue Bool Bool Bool (has_step d) (has_part_step d) (has_lvalue_step d) x

abbrev pub has_argument : Dialect → Argument → Bool
has_argument d (argument.Address at x) = true
has_argument d (argument.Value x) = has_expression d x

abbrev pub has_call : Dialect → Call → Bool
has_call d c = list_all (has_argument d) c.arguments

abbrev pub has_right : Dialect → RightSide → Bool
has_right d (right.Call c) = has_call d c
has_right d (right.Value x) = has_expression d x

abbrev pub has_local : Dialect → LocalValue → Bool
has_local d (local.ZeroArray l) = true
has_local d local.Zero = true
has_local d (local.Given value) = has_right d value

-- how many links of `else if` one `if` has
abbrev pub has_links : Dialect → ℕ → Bool
has_links d n = is_full d || nat_le n 64

-- Ranges that hold; for users no loop that `break` ends, and at most 64 links of `else if`
abbrev pub has_statement_step : Dialect → Statement-F Bool Bool Bool → Bool
has_statement_step d (s.Local kind x value) = has_local d value
has_statement_step d (s.Assign target value) = has_lvalue d target && has_right d value
has_statement_step d (s.Call c) = has_call d c
has_statement_step d (s.If first others otherwise) = first && (list_all (λ b. b) others && (otherwise && has_links d (length others)))
has_statement_step d (s.Count kind x from at below body) = range_holds from below && list_all (λ b. b) body
has_statement_step d (s.Forever body) = is_full d && list_all (λ b. b) body
has_statement_step d s.Break = is_full d

abbrev pub has_branch_step : Dialect → Branch-F Bool Bool Bool → Bool
has_branch_step d b = has_right d b.condition && list_all (λ b. b) b.body

abbrev pub has_otherwise_step : Dialect → Otherwise-F Bool Bool Bool → Bool
has_otherwise_step d s.Nothing = true
has_otherwise_step d (s.Block body) = list_all (λ b. b) body

abbrev pub has_statement : Dialect → Statement → Bool
has_statement d x = fold-Statement Bool Bool Bool (has_otherwise_step d) (has_statement_step d) (has_branch_step d) x

abbrev pub has_branch : Dialect → Branch → Bool
has_branch d x = fold-Branch Bool Bool Bool (has_otherwise_step d) (has_statement_step d) (has_branch_step d) x

abbrev pub has_otherwise : Dialect → Otherwise → Bool
has_otherwise d x = fold-Otherwise Bool Bool Bool (has_otherwise_step d) (has_statement_step d) (has_branch_step d) x

abbrev pub has_parameter : Dialect → Parameter → Bool
has_parameter d p = is_full d || not p.is_pointer

abbrev pub has_returned : Dialect → Option Returned → Bool
has_returned d None = true
has_returned d (Some r) = has_right d r.value

abbrev pub has_function : Dialect → Function → Bool
has_function d f = list_all (has_parameter d) f.parameters && (list_all (has_statement d) f.body && has_returned d f.returned)

-- for users a variable or a function
abbrev pub has_item : Dialect → Item → Bool
has_item d (item.Enumeration e) = is_full d
has_item d (item.Structure s) = is_full d
has_item d (item.Variable v) = true
has_item d (item.External x) = is_full d
has_item d (item.Pointer p) = is_full d
has_item d (item.Prototype p) = is_full d
has_item d (item.Function f) = has_function d f

abbrev pub has_unit : Dialect → CUnit → Bool
has_unit d u = list_all (has_item d) u.items

-- what a text of the grammar of users may say
abbrev pub is_user_unit : CUnit → Bool
is_user_unit u = has_unit User u

-- the first literal of each `for` is below its second, and all else is as it may be
abbrev pub ranges_hold : CUnit → Bool
ranges_hold u = has_unit Full u
