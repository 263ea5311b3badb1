use Rattle.aadl_typing.specs.Marked.{IsSound}
use Rattle.aadl_typing.proofs.flaws.settle_each.Given as goal

abbrev pub invariant-loop-row : goal.invariant-loop-row
invariant-loop-row l = IsSound l.rows l.flaws.items
