use Rattle.c_parse.proofs.Steps.{fails, stuck_last, done}
use Rattle.std.proofs.Common.{sym, ◌∙◌}
use Rattle.c_parse.proofs.InitialTexts.{zeros_there, truth_there, name_there, number_there}
use Rattle.c_parse.proofs.initials.initial_value.Goals as goal

pub returns-in_err-zeros : goal.returns-in_err-zeros
returns-in_err-zeros c = fails _ _ c.from_residual.ensures.1 c.in_err-zeros.ensures (stuck_last (zeros_there _ (sym c.stands.ensures ∙ c.if-stands.true)))

pub returns-then-stands : goal.returns-then-stands
returns-then-stands c = done (zeros_there _ (sym c.stands.ensures ∙ c.if-stands.true)) c.in_ok-zeros.ensures

pub returns-in_err-place : goal.returns-in_err-place
returns-in_err-place c = fails _ _ c.from_residual-in_err-place.ensures.1 c.in_err-place.ensures (stuck_last (truth_there _ (sym c.stands.ensures ∙ c.if-stands.false) (sym c.stands_truth.ensures ∙ c.if-stands_truth.true)))

pub returns-then-stands_truth : goal.returns-then-stands_truth
returns-then-stands_truth c = done (truth_there _ (sym c.stands.ensures ∙ c.if-stands.false) (sym c.stands_truth.ensures ∙ c.if-stands_truth.true)) c.in_ok-place.ensures

pub returns-in_err-name : goal.returns-in_err-name
returns-in_err-name c = fails _ _ c.from_residual-in_err-name.ensures.1 c.in_err-name.ensures (stuck_last (name_there _ (sym c.stands.ensures ∙ c.if-stands.false) (sym c.stands_truth.ensures ∙ c.if-stands_truth.false) (sym c.stands_name.ensures ∙ c.if-stands_name.true)))

pub returns-then-stands_name : goal.returns-then-stands_name
returns-then-stands_name c = done (name_there _ (sym c.stands.ensures ∙ c.if-stands.false) (sym c.stands_truth.ensures ∙ c.if-stands_truth.false) (sym c.stands_name.ensures ∙ c.if-stands_name.true)) c.in_ok-name.ensures

pub returns-in_err-number : goal.returns-in_err-number
returns-in_err-number c = fails _ _ c.from_residual-in_err-number.ensures.1 c.in_err-number.ensures (stuck_last (number_there _ (sym c.stands.ensures ∙ c.if-stands.false) (sym c.stands_truth.ensures ∙ c.if-stands_truth.false) (sym c.stands_name.ensures ∙ c.if-stands_name.false)))

pub returns : goal.returns
returns c = done (number_there _ (sym c.stands.ensures ∙ c.if-stands.false) (sym c.stands_truth.ensures ∙ c.if-stands_truth.false) (sym c.stands_name.ensures ∙ c.if-stands_name.false)) c.in_ok-number.ensures
