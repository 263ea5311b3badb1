use Rattle.c_parse.proofs.Steps.{fails, stuck_last, done}
use Rattle.std.proofs.Common.{sym, ◌∙◌}
use Rattle.c_parse.proofs.HeadingTexts.{no_static, static_there}
use Rattle.c_parse.proofs.headings.static_word.Goals as goal

pub returns-then-not-stands_word : goal.returns-then-not-stands_word
returns-then-not-stands_word c = no_static _ (sym c.stands_word.ensures ∙ c.if-not-stands_word.true)

pub returns-in_err-word : goal.returns-in_err-word
returns-in_err-word c = fails _ _ c.from_residual.ensures.1 c.in_err-word.ensures (stuck_last (static_there _ (sym c.stands_word.ensures ∙ c.if-not-stands_word.false)))

pub returns : goal.returns
returns c = done (static_there _ (sym c.stands_word.ensures ∙ c.if-not-stands_word.false)) c.in_ok-word.ensures
