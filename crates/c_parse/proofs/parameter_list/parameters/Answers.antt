use Rattle.c_parse.proofs.Steps.{fails, stuck_in, stuck_last, stuck_last_by, done, done_by, passed, remake, no_member, as_value}
use Rattle.std.proofs.Common.{sym, ◌∙◌}
use Rattle.c_parse.proofs.ParameterTexts.{void_there, some_there}
use Rattle.c_parse.proofs.parameter_list.parameters.Goals as goal

pub returns-in_err-word : goal.returns-in_err-word
returns-in_err-word c = fails _ _ c.from_residual.ensures.1 c.in_err-word.ensures (stuck_last (void_there _ _ (sym c.stands_word.ensures ∙ c.if-stands_word.true)))

pub returns-then-stands_word : goal.returns-then-stands_word
returns-then-stands_word c = as_value c.new.ensures (done (void_there _ _ (sym c.stands_word.ensures ∙ c.if-stands_word.true)) c.in_ok-word.ensures)

pub returns-in_err-first : goal.returns-in_err-first
returns-in_err-first c = fails _ _ c.from_residual-in_err-first.ensures.1 c.in_err-first.ensures (stuck_in (some_there _ _ (sym c.stands_word.ensures ∙ c.if-stands_word.false)) (no_member _))

pub returns-in_err-parameters : goal.returns-in_err-parameters
returns-in_err-parameters c = fails _ _ c.from_residual-in_err-parameters.ensures.1 c.in_err-parameters.ensures (stuck_last_by (remake (passed (some_there _ _ (sym c.stands_word.ensures ∙ c.if-stands_word.false)) c.in_ok-first.ensures)) (λ m follows. follows))

pub returns : goal.returns
returns c = done_by (remake (passed (some_there _ _ (sym c.stands_word.ensures ∙ c.if-stands_word.false)) c.in_ok-first.ensures)) (λ m follows. follows) c.in_ok-parameters.ensures
