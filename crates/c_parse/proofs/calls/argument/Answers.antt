use Rattle.std.proofs.Common.{sym, ◌∙◌}
use Rattle.c_parse.proofs.Steps.{fails, passed, stuck_in, stuck_last, stuck_last_by, done, done_by}
use Rattle.c_parse.proofs.Leaves.{the_name}
use Rattle.c_parse.proofs.CallTexts.{address_there, value_there}
use Rattle.c_parse.proofs.calls.argument.Goals as goal

pub returns-in_err-place : goal.returns-in_err-place
returns-in_err-place c = fails _ _ c.from_residual.ensures.1 c.in_err-place.ensures (stuck_in (address_there _ _ (sym c.stands.ensures ∙ c.if-stands.true)) the_name)

pub returns-in_err-variable : goal.returns-in_err-variable
returns-in_err-variable c =
    fails _ _ c.from_residual-in_err-variable.ensures.1 c.in_err-variable.ensures
    (stuck_last (passed (address_there _ _ (sym c.stands.ensures ∙ c.if-stands.true)) c.in_ok-place.ensures))

pub returns-then-stands : goal.returns-then-stands
returns-then-stands c = done (passed (address_there _ _ (sym c.stands.ensures ∙ c.if-stands.true)) c.in_ok-place.ensures) c.in_ok-variable.ensures

pub returns-in_err-value : goal.returns-in_err-value
returns-in_err-value c =
    fails _ _ c.from_residual-in_err-value.ensures.1 c.in_err-value.ensures
    (stuck_last_by (value_there _ _ (sym c.stands.ensures ∙ c.if-stands.false)) (λ m follows. follows))

pub returns : goal.returns
returns c = done_by (value_there _ _ (sym c.stands.ensures ∙ c.if-stands.false)) (λ m follows. follows) c.in_ok-value.ensures
