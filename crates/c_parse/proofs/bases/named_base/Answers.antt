use Rattle.std.proofs.Common.{sym, ◌∙◌}
use Rattle.c_parse.specs.declared.mark.Mark.TheVariants as mark
use Rattle.c_parse.specs.Values.{is_mark}
use Rattle.c_parse.proofs.Steps.{fails, passed, stuck_in, stuck_last, done, nothing_there, is_absent_in_full}
use Rattle.c_parse.proofs.Leaves.{the_name}
use Rattle.c_parse.proofs.BaseTexts.{named_left, arrow_begins, arrow_there}
use Rattle.c_parse.proofs.bases.named_base.Goals as goal

pub returns-in_err-first : goal.returns-in_err-first
returns-in_err-first c = fails _ _ c.from_residual.ensures.1 c.in_err-first.ensures (stuck_in (named_left _ _) (nothing_there _))

pub returns-in_err-sign : goal.returns-in_err-sign
returns-in_err-sign c =
    fails _ _ c.from_residual-in_err-sign.ensures.1 c.in_err-sign.ensures
    (stuck_in (arrow_there _ (passed (named_left _ _) c.in_ok-first.ensures) (sym c.stands_in_full.ensures ∙ c.if-not-stands_in_full.false)) the_name)

pub returns-in_err-member : goal.returns-in_err-member
returns-in_err-member c =
    fails _ _ c.from_residual-in_err-member.ensures.1 c.in_err-member.ensures
    (stuck_last (passed (arrow_there _ (passed (named_left _ _) c.in_ok-first.ensures) (sym c.stands_in_full.ensures ∙ c.if-not-stands_in_full.false)) c.in_ok-sign.ensures))

pub returns : goal.returns
returns c =
    done (passed (arrow_there _ (passed (named_left _ _) c.in_ok-first.ensures) (sym c.stands_in_full.ensures ∙ c.if-not-stands_in_full.false)) c.in_ok-sign.ensures) c.in_ok-member.ensures

pub returns-then-not-stands_in_full : goal.returns-then-not-stands_in_full
returns-then-not-stands_in_full c =
    is_absent_in_full c.args.dialect (passed (named_left _ _) c.in_ok-first.ensures) {test = is_mark mark.Arrow} arrow_begins (sym c.stands_in_full.ensures ∙ c.if-not-stands_in_full.true)
