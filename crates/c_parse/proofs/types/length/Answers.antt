use Rattle.std.proofs.Common.{sym, ◌∙◌}
use Rattle.c_parse.specs.declared.mark.Mark.TheVariants as mark
use Rattle.c_parse.proofs.Steps.{fails, passed, stuck_in, stuck_last, done, both}
use Rattle.c_parse.proofs.Leaves.{the_literal, the_sign}
use Rattle.c_parse.proofs.TypeTexts.{length_there}
use Rattle.c_parse.proofs.types.length.Goals as goal

pub returns-in_err-sign : goal.returns-in_err-sign
returns-in_err-sign c =
    fails _ _ c.from_residual.ensures.1 c.in_err-sign.ensures
    (stuck_in (length_there _ (sym c.stands.ensures ∙ c.if-not-stands.false)) (both the_literal (the_sign mark.CloseBracket)))

pub returns-in_err-literal : goal.returns-in_err-literal
returns-in_err-literal c =
    fails _ _ c.from_residual-in_err-literal.ensures.1 c.in_err-literal.ensures
    (stuck_in (passed (length_there _ (sym c.stands.ensures ∙ c.if-not-stands.false)) c.in_ok-sign.ensures) (the_sign mark.CloseBracket))

pub returns-in_err-sign-2 : goal.returns-in_err-sign-2
returns-in_err-sign-2 c =
    fails _ _ c.from_residual-in_err-sign-2.ensures.1 c.in_err-sign-2.ensures
    (stuck_last (passed (passed (length_there _ (sym c.stands.ensures ∙ c.if-not-stands.false)) c.in_ok-sign.ensures) c.in_ok-literal.ensures))

pub returns : goal.returns
returns c = done (passed (passed (length_there _ (sym c.stands.ensures ∙ c.if-not-stands.false)) c.in_ok-sign.ensures) c.in_ok-literal.ensures) c.in_ok-sign-2.ensures
