use Rattle.std.proofs.Common.{sym, ◌∙◌}
use Rattle.c_parse.proofs.PlainChoices.{typed_there, break_there, assignment_there}
use Rattle.c_parse.proofs.Steps.{handed}
use Rattle.c_parse.proofs.plain.plain.Goals as goal

pub returns-then-stands_plain_type : goal.returns-then-stands_plain_type
returns-then-stands_plain_type c = handed (typed_there _ _ (sym c.stands_plain_type.ensures ∙ c.if-stands_plain_type.true)) (λ m follows. tt) _ _ c.local.ensures

pub returns-then-stands_word_in_full : goal.returns-then-stands_word_in_full
returns-then-stands_word_in_full c = handed (break_there _ _ (sym c.stands_word_in_full.ensures ∙ c.if-stands_word_in_full.true)) (λ m follows. tt) _ _ c.break_alone.ensures

pub returns : goal.returns
returns c = handed (assignment_there _ _ (sym c.stands_name.ensures ∙ c.if-stands_name.false) (sym c.stands_plain_type.ensures ∙ c.if-stands_plain_type.false) (sym c.stands_word_in_full.ensures ∙ c.if-stands_word_in_full.false)) (λ m follows. tt) _ _ c.assignment.ensures
