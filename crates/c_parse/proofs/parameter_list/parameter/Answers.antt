use Rattle.c_parse.proofs.Steps.{fails, passed, stuck_in, stuck_last, done}
use Rattle.c_parse.proofs.Leaves.{the_name}
use Rattle.std.proofs.Common.{sym, ◌∙◌}
use Rattle.c_parse.proofs.ParameterTexts.{parameter_left, a_rest, class_read, star_there, no_star}
use Rattle.c_parse.proofs.parameter_list.parameter.Goals as goal

pub returns-in_err-class : goal.returns-in_err-class
returns-in_err-class c = fails _ _ c.from_residual.ensures.1 c.in_err-class.ensures (stuck_in (parameter_left _ _) (a_rest _))

pub returns-in_err-sign : goal.returns-in_err-sign
returns-in_err-sign c = fails _ _ c.from_residual-in_err-sign.ensures.1 c.in_err-sign.ensures (stuck_in (star_there c.args.dialect (class_read _ _ c.in_ok-class.ensures) (sym c.stands_in_full.ensures ∙ c.if-stands_in_full.true)) the_name)

pub returns-in_err-name : goal.returns-in_err-name
returns-in_err-name c = fails _ _ c.from_residual-in_err-name.ensures.1 c.in_err-name.ensures (stuck_last (passed (star_there c.args.dialect (class_read _ _ c.in_ok-class.ensures) (sym c.stands_in_full.ensures ∙ c.if-stands_in_full.true)) c.in_ok-sign.ensures))

pub returns-then-stands_in_full : goal.returns-then-stands_in_full
returns-then-stands_in_full c = done (passed (star_there c.args.dialect (class_read _ _ c.in_ok-class.ensures) (sym c.stands_in_full.ensures ∙ c.if-stands_in_full.true)) c.in_ok-sign.ensures) c.in_ok-name.ensures

pub returns-in_err-name-2 : goal.returns-in_err-name-2
returns-in_err-name-2 c = fails _ _ c.from_residual-in_err-name-2.ensures.1 c.in_err-name-2.ensures (stuck_last (no_star c.args.dialect (class_read _ _ c.in_ok-class.ensures) (sym c.stands_in_full.ensures ∙ c.if-stands_in_full.false)))

pub returns : goal.returns
returns c = done (no_star c.args.dialect (class_read _ _ c.in_ok-class.ensures) (sym c.stands_in_full.ensures ∙ c.if-stands_in_full.false)) c.in_ok-name-2.ensures
