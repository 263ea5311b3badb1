use Rattle.c_parse.proofs.Steps.{fails, made, passed, stuck_in, stuck_last, done}
use Rattle.std.proofs.Common.{sym, ◌∙◌}
use Rattle.c_parse.proofs.TypedefTexts.{a_typedef, enum_there, struct_there}
use Rattle.c_parse.proofs.typedefs.typedef.Goals as goal

pub returns-in_err-word : goal.returns-in_err-word
returns-in_err-word c = fails _ _ c.from_residual.ensures.1 c.in_err-word.ensures (stuck_in (made _ _ _ _) a_typedef)

pub returns-in_err-made : goal.returns-in_err-made
returns-in_err-made c = fails _ _ c.from_residual-in_err-made.ensures.1 c.in_err-made.ensures (stuck_last (enum_there (passed (made _ _ _ _) c.in_ok-word.ensures) (sym c.stands_word.ensures ∙ c.if-stands_word.true)))

pub returns-then-stands_word : goal.returns-then-stands_word
returns-then-stands_word c = done (enum_there (passed (made _ _ _ _) c.in_ok-word.ensures) (sym c.stands_word.ensures ∙ c.if-stands_word.true)) c.in_ok-made.ensures

pub returns-in_err-made-2 : goal.returns-in_err-made-2
returns-in_err-made-2 c = fails _ _ c.from_residual-in_err-made-2.ensures.1 c.in_err-made-2.ensures (stuck_last (struct_there (passed (made _ _ _ _) c.in_ok-word.ensures) (sym c.stands_word.ensures ∙ c.if-stands_word.false)))

pub returns : goal.returns
returns c = done (struct_there (passed (made _ _ _ _) c.in_ok-word.ensures) (sym c.stands_word.ensures ∙ c.if-stands_word.false)) c.in_ok-made-2.ensures
