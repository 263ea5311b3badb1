use Rattle.aadl_typing.proofs.Marking.{AreClosed}
use Rattle.aadl_typing.proofs.ends.close.Given as goal

abbrev pub invariant-loop-number : goal.invariant-loop-number
invariant-loop-number l = AreClosed l.path l.place l.number l.fn.marks.items l.marks.items
