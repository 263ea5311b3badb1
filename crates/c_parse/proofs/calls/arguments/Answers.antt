use Rattle.std.proofs.Common.{sym, ap, ◌∙◌, List, [], ◌∷◌, ◌++◌}
use Rattle.c_tree.specs.declared.expression.Argument.{Argument}
use Rattle.c_parse.proofs.Steps.{fails, no_member, passed_by, stuck_by}
use Rattle.c_parse.proofs.Lists.{member_stuck, member_read, member_shorter, list_read}
use Rattle.c_parse.proofs.CallTexts.{none_there, some_there, nexts_follow, one_argument, arguments_listed}
use Rattle.c_parse.proofs.calls.arguments.Goals as goal

pub returns-then-stands : goal.returns-then-stands
returns-then-stands c = none_there c.args.dialect _ _ c.new-read.ensures (sym c.stands.ensures ∙ c.if-stands.true)

pub returns-in_err-first : goal.returns-in_err-first
returns-in_err-first c =
    fails _ _ c.from_residual.ensures.1 c.in_err-first.ensures (stuck_by (some_there _ _ (sym c.stands.ensures ∙ c.if-stands.false)) (nexts_follow _) (no_member _))

pub arguments-init : goal.arguments-init
arguments-init c =
    one_argument c.args.dialect (c.in_ok-push.ensures.ok ∙ ap (λ (xs : List Argument). xs ++ c.in_ok-first.first ∷ []) c.new-read.ensures)
    (passed_by (some_there _ _ (sym c.stands.ensures ∙ c.if-stands.false)) (nexts_follow _) c.in_ok-first.ensures)

pub returns-in_err-next : goal.returns-in_err-next
returns-in_err-next c =
    fails _ _ c.from_residual-in_err-next.ensures.1 c.in_err-next.ensures (member_stuck (arguments_listed _) _ c.arguments.invariant (sym c.stands-in-arguments.ensures ∙ c.arguments-test.true))

pub arguments-smaller : goal.arguments-smaller
arguments-smaller c = member_shorter (arguments_listed c.args.dialect) c.in_ok-next.ensures

pub arguments-preserved : goal.arguments-preserved
arguments-preserved c = member_read (arguments_listed _) _ c.arguments.invariant (sym c.stands-in-arguments.ensures ∙ c.arguments-test.true) c.in_ok-push-2.ensures.ok c.in_ok-next.ensures

pub returns : goal.returns
returns c = list_read (arguments_listed _) _ c.arguments.invariant (sym c.stands-in-arguments.ensures ∙ c.arguments-test.false)
