use Rattle.aadl_typing.proofs.Passing.{passed_none}
use Rattle.aadl_typing.proofs.flaws.pass.Goals as goal

pub loop-row-init : goal.loop-row-init
loop-row-init c = passed_none c.args.rows.now c.args.flaws.now.items c.requires
