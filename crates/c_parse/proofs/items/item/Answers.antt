use Rattle.c_parse.proofs.Steps.{fails, stuck_last, done}
use Rattle.std.proofs.Common.{sym, ◌∙◌}
use Rattle.c_parse.proofs.ItemChoices.{typedef_there, extern_there, pointer_there, declared_there}
use Rattle.c_parse.proofs.Steps.{handed}
use Rattle.c_parse.proofs.items.item.Goals as goal

pub returns-then-stands_word_in_full : goal.returns-then-stands_word_in_full
returns-then-stands_word_in_full c = handed (typedef_there _ _ (sym c.stands_word_in_full.ensures ∙ c.if-stands_word_in_full.true)) (λ m follows. tt) _ _ c.typedef.ensures

pub returns-in_err-variable : goal.returns-in_err-variable
returns-in_err-variable c = fails _ _ c.from_residual.ensures.1 c.in_err-variable.ensures (stuck_last (extern_there _ _ (sym c.stands_word_in_full.ensures ∙ c.if-stands_word_in_full.false) (sym c.stands_word_in_full-2.ensures ∙ c.if-stands_word_in_full-2.true)))

pub returns-then-stands_word_in_full-2 : goal.returns-then-stands_word_in_full-2
returns-then-stands_word_in_full-2 c = done (extern_there _ _ (sym c.stands_word_in_full.ensures ∙ c.if-stands_word_in_full.false) (sym c.stands_word_in_full-2.ensures ∙ c.if-stands_word_in_full-2.true)) c.in_ok-variable.ensures

pub returns-in_err-variable-2 : goal.returns-in_err-variable-2
returns-in_err-variable-2 c = fails _ _ c.from_residual-in_err-variable-2.ensures.1 c.in_err-variable-2.ensures (stuck_last (pointer_there _ _ (sym c.stands_word_in_full.ensures ∙ c.if-stands_word_in_full.false) (sym c.stands_word_in_full-2.ensures ∙ c.if-stands_word_in_full-2.false) (sym c.stands_word_in_full-3.ensures ∙ c.if-stands_word_in_full-3.true)))

pub returns-then-stands_word_in_full-3 : goal.returns-then-stands_word_in_full-3
returns-then-stands_word_in_full-3 c = done (pointer_there _ _ (sym c.stands_word_in_full.ensures ∙ c.if-stands_word_in_full.false) (sym c.stands_word_in_full-2.ensures ∙ c.if-stands_word_in_full-2.false) (sym c.stands_word_in_full-3.ensures ∙ c.if-stands_word_in_full-3.true)) c.in_ok-variable-2.ensures

pub returns : goal.returns
returns c = handed (declared_there _ _ (sym c.stands_word_in_full.ensures ∙ c.if-stands_word_in_full.false) (sym c.stands_word_in_full-2.ensures ∙ c.if-stands_word_in_full-2.false) (sym c.stands_word_in_full-3.ensures ∙ c.if-stands_word_in_full-3.false)) (λ m follows. tt) _ _ c.declared.ensures
