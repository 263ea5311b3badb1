use Rattle.std.proofs.Common.{sym, ◌∙◌}
use Rattle.c_parse.proofs.Steps.{fails, stuck_last, done}
use Rattle.c_parse.proofs.TypeTexts.{integer_there, truth_there, defined_there}
use Rattle.c_parse.proofs.types.type_name.Goals as goal

pub returns-in_err-place : goal.returns-in_err-place
returns-in_err-place c = fails _ _ c.from_residual.ensures.1 c.in_err-place.ensures (stuck_last (integer_there _ (sym c.stands_integer.ensures ∙ c.if-stands_integer.true)))

pub returns-then-stands_integer : goal.returns-then-stands_integer
returns-then-stands_integer c = done (integer_there _ (sym c.stands_integer.ensures ∙ c.if-stands_integer.true)) c.in_ok-place.ensures

pub returns-in_err-place-2 : goal.returns-in_err-place-2
returns-in_err-place-2 c =
    fails _ _ c.from_residual-in_err-place-2.ensures.1 c.in_err-place-2.ensures
    (stuck_last (truth_there _ (sym c.stands_integer.ensures ∙ c.if-stands_integer.false) (sym c.stands_word.ensures ∙ c.if-stands_word.true)))

pub returns-then-stands_word : goal.returns-then-stands_word
returns-then-stands_word c = done (truth_there _ (sym c.stands_integer.ensures ∙ c.if-stands_integer.false) (sym c.stands_word.ensures ∙ c.if-stands_word.true)) c.in_ok-place-2.ensures

pub returns-in_err-named : goal.returns-in_err-named
returns-in_err-named c =
    fails _ _ c.from_residual-in_err-named.ensures.1 c.in_err-named.ensures
    (stuck_last (defined_there _ (sym c.stands_integer.ensures ∙ c.if-stands_integer.false) (sym c.stands_word.ensures ∙ c.if-stands_word.false)))

pub returns : goal.returns
returns c = done (defined_there _ (sym c.stands_integer.ensures ∙ c.if-stands_integer.false) (sym c.stands_word.ensures ∙ c.if-stands_word.false)) c.in_ok-named.ensures
