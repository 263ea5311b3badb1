use Rattle.c_parse.proofs.Steps.{fails, passed, stuck_in, stuck_last, done}
use Rattle.std.proofs.Common.{sym, ◌∙◌}
use Rattle.c_parse.proofs.ItemTexts.{prototype_there, body_there, a_body}
use Rattle.c_parse.proofs.functions.ending.Goals as goal

pub returns-in_err-sign : goal.returns-in_err-sign
returns-in_err-sign c = fails _ _ c.from_residual.ensures.1 c.in_err-sign.ensures (stuck_last (prototype_there _ _ _ (sym c.stands_in_full.ensures ∙ c.if-stands_in_full.true)))

pub returns-then-stands_in_full : goal.returns-then-stands_in_full
returns-then-stands_in_full c = done (prototype_there _ _ _ (sym c.stands_in_full.ensures ∙ c.if-stands_in_full.true)) c.in_ok-sign.ensures

pub returns-in_err-sign-2 : goal.returns-in_err-sign-2
returns-in_err-sign-2 c = fails _ _ c.from_residual-in_err-sign-2.ensures.1 c.in_err-sign-2.ensures (stuck_in (body_there _ _ _ (sym c.stands_in_full.ensures ∙ c.if-stands_in_full.false)) ((a_body _ _)))

pub returns-in_err-body : goal.returns-in_err-body
returns-in_err-body c = fails _ _ c.from_residual-in_err-body.ensures.1 c.in_err-body.ensures (stuck_last (passed (body_there _ _ _ (sym c.stands_in_full.ensures ∙ c.if-stands_in_full.false)) c.in_ok-sign-2.ensures))

pub returns : goal.returns
returns c = done (passed (body_there _ _ _ (sym c.stands_in_full.ensures ∙ c.if-stands_in_full.false)) c.in_ok-sign-2.ensures) c.in_ok-body.ensures
