use Rattle.c_parse.proofs.Steps.{fails, stuck_last, done}
use Rattle.std.proofs.Common.{sym, ◌∙◌}
use Rattle.c_parse.proofs.HeadingTexts.{void_there, type_there}
use Rattle.c_parse.proofs.headings.result_type.Goals as goal

pub returns-in_err-word : goal.returns-in_err-word
returns-in_err-word c = fails _ _ c.from_residual.ensures.1 c.in_err-word.ensures (stuck_last (void_there _ (sym c.stands_word.ensures ∙ c.if-stands_word.true)))

pub returns-then-stands_word : goal.returns-then-stands_word
returns-then-stands_word c = done (void_there _ (sym c.stands_word.ensures ∙ c.if-stands_word.true)) c.in_ok-word.ensures

pub returns-in_err-class : goal.returns-in_err-class
returns-in_err-class c = fails _ _ c.from_residual-in_err-class.ensures.1 c.in_err-class.ensures (stuck_last (type_there _ (sym c.stands_word.ensures ∙ c.if-stands_word.false)))

pub returns : goal.returns
returns c = done (type_there _ (sym c.stands_word.ensures ∙ c.if-stands_word.false)) c.in_ok-class.ensures
