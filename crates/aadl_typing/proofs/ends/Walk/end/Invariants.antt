use Rattle.std.proofs.Common.{length}
use Rattle.aadl_typing.specs.Marks.{IsEnded}
use Rattle.aadl_typing.proofs.ends.Walk.end.Given as goal

abbrev pub invariant-loop-row : goal.invariant-loop-row
invariant-loop-row l = IsEnded l.nexts l.self.marks.items l.self.path.items l.start l.at

abbrev pub decreases-loop-row : goal.decreases-loop-row
decreases-loop-row l = length l.self.path.items
