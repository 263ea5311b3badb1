use Rattle.aadl_typing.specs.Marks.{IsWalking, open_count}
use Rattle.aadl_typing.proofs.ends.Walk.go.Given as goal

abbrev pub invariant-loop-next : goal.invariant-loop-next
invariant-loop-next l = IsWalking l.nexts l.self.marks.items l.self.path.items l.start l.at

abbrev pub decreases-loop-next : goal.decreases-loop-next
decreases-loop-next l = open_count l.self.marks.items
