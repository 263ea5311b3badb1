use Rattle.aadl_typing.proofs.Passing.{IsPassed}
use Rattle.aadl_typing.proofs.flaws.pass.Given as goal

abbrev pub invariant-loop-row : goal.invariant-loop-row
invariant-loop-row l = IsPassed l.rows l.fn.flaws.items l.flaws.items l.found l.row
