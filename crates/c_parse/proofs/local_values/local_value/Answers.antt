use Rattle.c_parse.proofs.Steps.{fails, passed, stuck_in, stuck_last, stuck_last_by, done, done_by}
use Rattle.std.proofs.Common.{sym, ◌∙◌}
use Rattle.c_parse.proofs.LocalTexts.{array_there, no_array, a_given, zeros_there, right_there}
use Rattle.c_parse.proofs.local_values.local_value.Goals as goal

pub returns-in_err-array : goal.returns-in_err-array
returns-in_err-array c = fails _ _ c.from_residual.ensures.1 c.in_err-array.ensures (stuck_last (array_there _ _ (sym c.stands.ensures ∙ c.if-stands.true)))

pub returns-then-stands : goal.returns-then-stands
returns-then-stands c = done (array_there _ _ (sym c.stands.ensures ∙ c.if-stands.true)) c.in_ok-array.ensures

pub returns-in_err-sign : goal.returns-in_err-sign
returns-in_err-sign c = fails _ _ c.from_residual-in_err-sign.ensures.1 c.in_err-sign.ensures (stuck_in (no_array _ _ (sym c.stands.ensures ∙ c.if-stands.false)) (a_given _))

pub returns-in_err-zeros : goal.returns-in_err-zeros
returns-in_err-zeros c = fails _ _ c.from_residual-in_err-zeros.ensures.1 c.in_err-zeros.ensures (stuck_last (zeros_there (passed (no_array _ _ (sym c.stands.ensures ∙ c.if-stands.false)) c.in_ok-sign.ensures) (sym c.stands-2.ensures ∙ c.if-stands-2.true)))

pub returns-then-stands-2 : goal.returns-then-stands-2
returns-then-stands-2 c = done (zeros_there (passed (no_array _ _ (sym c.stands.ensures ∙ c.if-stands.false)) c.in_ok-sign.ensures) (sym c.stands-2.ensures ∙ c.if-stands-2.true)) c.in_ok-zeros.ensures

pub returns-in_err-value : goal.returns-in_err-value
returns-in_err-value c = fails _ _ c.from_residual-in_err-value.ensures.1 c.in_err-value.ensures (stuck_last_by (right_there (passed (no_array _ _ (sym c.stands.ensures ∙ c.if-stands.false)) c.in_ok-sign.ensures) (sym c.stands-2.ensures ∙ c.if-stands-2.false)) (λ m follows. follows))

pub returns : goal.returns
returns c = done_by (right_there (passed (no_array _ _ (sym c.stands.ensures ∙ c.if-stands.false)) c.in_ok-sign.ensures) (sym c.stands-2.ensures ∙ c.if-stands-2.false)) (λ m follows. follows) c.in_ok-value.ensures
