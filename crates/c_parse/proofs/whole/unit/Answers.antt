use Rattle.c_parse.proofs.Steps.{fails}
use Rattle.c_parse.proofs.UnitTexts.{unit-read, unit-stuck}
use Rattle.c_parse.proofs.whole.unit.Goals as goal

pub returns-in_err-items : goal.returns-in_err-items
returns-in_err-items c = fails _ _ c.from_residual.ensures.1 c.in_err-items.ensures (unit-stuck c.args.dialect c.args.end _ _)

pub returns : goal.returns
returns c = unit-read c.args.dialect c.args.end _ _ _ c.in_ok-items.ensures
