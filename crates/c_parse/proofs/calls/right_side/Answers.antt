use Rattle.std.proofs.Common.{sym, ◌∙◌}
use Rattle.c_parse.proofs.Steps.{fails, done_by, stuck_last_by}
use Rattle.c_parse.proofs.RightSides.{none_passed, call_read, call_stuck, value_read, value_stuck, right_ends}
use Rattle.c_parse.proofs.calls.right_side.Goals as goal

pub returns-in_err-value : goal.returns-in_err-value
returns-in_err-value c =
    fails _ _ c.from_residual-in_err-value.ensures.1 c.in_err-value.ensures
    (stuck_last_by (none_passed _ c.in_ok-passed.ensures.same c.in_default.is c.in_ok-passed.ensures.none) right_ends)

pub returns-in_default : goal.returns-in_default
returns-in_default c = done_by (none_passed _ c.in_ok-passed.ensures.same c.in_default.is c.in_ok-passed.ensures.none) right_ends c.in_ok-value.ensures

pub returns-in_err-call : goal.returns-in_err-call
returns-in_err-call c =
    fails _ _ c.from_residual-in_err-call.ensures.1 c.in_err-call.ensures (call_stuck _ c.in_ok-passed.ensures.same c.in-Some.is (sym c.stands.ensures ∙ c.if-stands.true))

pub returns-then-stands : goal.returns-then-stands
returns-then-stands c = call_read _ c.in_ok-passed.ensures.same c.in-Some.is (sym c.stands.ensures ∙ c.if-stands.true) c.in_ok-call.ensures

pub returns-in_err-value-2 : goal.returns-in_err-value-2
returns-in_err-value-2 c =
    fails _ _ c.from_residual-in_err-value-2.ensures.1 c.in_err-value-2.ensures (value_stuck _ c.in_ok-passed.ensures.same c.in-Some.is (sym c.stands.ensures ∙ c.if-stands.false))

pub returns : goal.returns
returns c = value_read _ c.in_ok-passed.ensures.same c.in-Some.is (sym c.stands.ensures ∙ c.if-stands.false) c.in_ok-value-2.ensures
