use Rattle.c_parse.proofs.Steps.{fails, passed, stuck_in, stuck_last, done}
use Rattle.std.proofs.Common.{sym, ◌∙◌}
use Rattle.c_parse.proofs.ItemTexts.{not_given, given_there, an_initial}
use Rattle.c_parse.proofs.variables.given_value.Goals as goal

pub returns-then-not-stands : goal.returns-then-not-stands
returns-then-not-stands c = not_given _ (sym c.stands.ensures ∙ c.if-not-stands.true)

pub returns-in_err-sign : goal.returns-in_err-sign
returns-in_err-sign c = fails _ _ c.from_residual.ensures.1 c.in_err-sign.ensures (stuck_in (given_there _ (sym c.stands.ensures ∙ c.if-not-stands.false)) an_initial)

pub returns-in_err-value : goal.returns-in_err-value
returns-in_err-value c = fails _ _ c.from_residual-in_err-value.ensures.1 c.in_err-value.ensures (stuck_last (passed (given_there _ (sym c.stands.ensures ∙ c.if-not-stands.false)) c.in_ok-sign.ensures))

pub returns : goal.returns
returns c = done (passed (given_there _ (sym c.stands.ensures ∙ c.if-not-stands.false)) c.in_ok-sign.ensures) c.in_ok-value.ensures
