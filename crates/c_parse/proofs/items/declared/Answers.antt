use Rattle.c_parse.proofs.Steps.{fails}
use Rattle.c_parse.proofs.ItemChoices.{declared_stuck, declared_read}
use Rattle.c_parse.proofs.Steps.{handed}
use Rattle.c_parse.proofs.items.declared.Goals as goal

pub returns-in_err-heading : goal.returns-in_err-heading
returns-in_err-heading c = fails _ _ c.from_residual.ensures.1 c.in_err-heading.ensures (declared_stuck _ _ _)

pub returns : goal.returns
returns c = handed (declared_read _ _ _ _ c.in_ok-heading.ensures) (λ m follows. tt) _ _ c.item_behind.ensures
