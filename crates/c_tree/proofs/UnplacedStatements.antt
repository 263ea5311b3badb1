-- Statements without their places, one equation for each form.
use Rattle.std.proofs.Common.{◌≡◌, List, map, ap, sym, ◌∙◌}
use Rattle.hw_text.specs.declared.place.Place.{Place}
use Rattle.c_tree.specs.declared.integer_type.IntegerType.{IntegerType}
use Rattle.c_tree.specs.declared.named.Named.{Named}
use Rattle.c_tree.specs.declared.named.SignedLiteral.{SignedLiteral}
use Rattle.c_tree.specs.declared.type_name.TypeName.{TypeName}
use Rattle.c_tree.specs.declared.expression.Call.{Call}
use Rattle.c_tree.specs.declared.expression.Lvalue.{Lvalue}
use Rattle.c_tree.specs.declared.expression.RightSide.{RightSide}
use Rattle.c_tree.specs.declared.statement.LocalValue.{LocalValue}
use Rattle.c_tree.specs.declared.statement.Branch.{Branch}
use Rattle.c_tree.specs.declared.statement.Otherwise.{Otherwise}
use Rattle.c_tree.specs.declared.statement.Otherwise.TheVariants as otherwise
use Rattle.c_tree.specs.declared.statement.Statement.{Statement}
use Rattle.c_tree.specs.declared.statement.Statement.TheVariants as statement
use Rattle.c_tree.specs.declared.statement.Otherwise.TheFolds.{fold-roll-Statement, fold-roll-Otherwise, fold_out-Branch, map-Statement, map-Otherwise}
use Rattle.c_tree.specs.declared.statement.Otherwise.TheOpen.{Statement-F, Otherwise-F}
use Rattle.c_tree.specs.declared.statement.Otherwise.TheOpen as opened
use Rattle.c_tree.specs.declared.statement.Otherwise.TheViews.{roll-Statement, roll-Otherwise}
use Rattle.c_tree.specs.Unplaced.{origin, unplaced_named, unplaced_signed, unplaced_class, unplaced_lvalue, unplaced_call, unplaced_right, unplaced_local, unplaced_statement_step, unplaced_branch_step, unplaced_otherwise_step, unplaced_statement, unplaced_branch, unplaced_otherwise}

rolled : (z : Statement-F Otherwise Statement Branch) → unplaced_statement (roll-Statement z) ≡ unplaced_statement_step (map-Statement Otherwise Statement Branch Otherwise Statement Branch unplaced_otherwise unplaced_statement unplaced_branch z)
rolled z = fold-roll-Statement Otherwise Statement Branch unplaced_otherwise_step unplaced_statement_step unplaced_branch_step z

pub unplaced-Local : (class : TypeName) (x : Named) (value : LocalValue) → unplaced_statement (statement.Local class x value) ≡ statement.Local (unplaced_class class) (unplaced_named x) (unplaced_local value)
unplaced-Local class x value = ap unplaced_statement (sym (statement.rolls-Local class x value)) ∙ rolled (opened.Local class x value)

pub unplaced-Assign : (target : Lvalue) (value : RightSide) → unplaced_statement (statement.Assign target value) ≡ statement.Assign (unplaced_lvalue target) (unplaced_right value)
unplaced-Assign target value = ap unplaced_statement (sym (statement.rolls-Assign target value)) ∙ rolled (opened.Assign target value)

pub unplaced-Call : (c : Call) → unplaced_statement (statement.Call c) ≡ statement.Call (unplaced_call c)
unplaced-Call c = ap unplaced_statement (sym (statement.rolls-Call c)) ∙ rolled (opened.Call c)

pub unplaced-If : (first : Branch) (others : List Branch) (o : Otherwise) → unplaced_statement (statement.If first others o) ≡ statement.If (unplaced_branch first) (map unplaced_branch others) (unplaced_otherwise o)
unplaced-If first others o = ap unplaced_statement (sym (statement.rolls-If first others o)) ∙ rolled (opened.If first others o)

pub unplaced-Count : (class : IntegerType) (x : Named) (from : SignedLiteral) (at : Place) (below : SignedLiteral) (body : List Statement) → unplaced_statement (statement.Count class x from at below body) ≡ statement.Count class (unplaced_named x) (unplaced_signed from) origin (unplaced_signed below) (map unplaced_statement body)
unplaced-Count class x from at below body =
    ap unplaced_statement (sym (statement.rolls-Count class x from at below body)) ∙ rolled (opened.Count class x from at below body)

pub unplaced-Forever : (body : List Statement) → unplaced_statement (statement.Forever body) ≡ statement.Forever (map unplaced_statement body)
unplaced-Forever body = ap unplaced_statement (sym (statement.rolls-Forever body)) ∙ rolled (opened.Forever body)

pub unplaced-Break : unplaced_statement statement.Break ≡ statement.Break
unplaced-Break = ap unplaced_statement (sym statement.rolls-Break) ∙ rolled opened.Break

pub unplaced-Branch : (b : Branch) → unplaced_branch b ≡ record { condition = unplaced_right b.condition; body = map unplaced_statement b.body }
unplaced-Branch b = fold_out-Branch Otherwise Statement Branch unplaced_otherwise_step unplaced_statement_step unplaced_branch_step b

otherwise-rolled : (z : Otherwise-F Otherwise Statement Branch) → unplaced_otherwise (roll-Otherwise z) ≡ unplaced_otherwise_step (map-Otherwise Otherwise Statement Branch Otherwise Statement Branch unplaced_otherwise unplaced_statement unplaced_branch z)
otherwise-rolled z = fold-roll-Otherwise Otherwise Statement Branch unplaced_otherwise_step unplaced_statement_step unplaced_branch_step z

pub unplaced-Nothing : unplaced_otherwise otherwise.Nothing ≡ otherwise.Nothing
unplaced-Nothing = ap unplaced_otherwise (sym otherwise.rolls-Nothing) ∙ otherwise-rolled opened.Nothing

pub unplaced-Block : (body : List Statement) → unplaced_otherwise (otherwise.Block body) ≡ otherwise.Block (map unplaced_statement body)
unplaced-Block body = ap unplaced_otherwise (sym (otherwise.rolls-Block body)) ∙ otherwise-rolled (opened.Block body)
