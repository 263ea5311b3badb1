use Rattle.std.proofs.Common.{sym, ◌∙◌}
use Rattle.c_parse.proofs.Steps.{fails, passed, stuck_in, stuck_last, done}
use Rattle.c_parse.proofs.Leaves.{the_literal}
use Rattle.c_parse.proofs.TypeTexts.{plain_there, negative_there}
use Rattle.c_parse.proofs.types.signed_literal.Goals as goal

pub returns-in_err-start : goal.returns-in_err-start
returns-in_err-start c = fails _ _ c.from_residual.ensures.1 c.in_err-start.ensures (stuck_in (negative_there _ (sym c.stands.ensures ∙ c.if-stands.true)) the_literal)

pub returns-in_err-literal : goal.returns-in_err-literal
returns-in_err-literal c =
    fails _ _ c.from_residual-in_err-literal.ensures.1 c.in_err-literal.ensures
    (stuck_last (passed (negative_there _ (sym c.stands.ensures ∙ c.if-stands.true)) c.in_ok-start.ensures))

pub returns-then-stands : goal.returns-then-stands
returns-then-stands c = done (passed (negative_there _ (sym c.stands.ensures ∙ c.if-stands.true)) c.in_ok-start.ensures) c.in_ok-literal.ensures

pub returns-in_err-literal-2 : goal.returns-in_err-literal-2
returns-in_err-literal-2 c = fails _ _ c.from_residual-in_err-literal-2.ensures.1 c.in_err-literal-2.ensures (stuck_last (plain_there _ (sym c.stands.ensures ∙ c.if-stands.false)))

pub returns : goal.returns
returns c = done (plain_there _ (sym c.stands.ensures ∙ c.if-stands.false)) c.in_ok-literal-2.ensures
