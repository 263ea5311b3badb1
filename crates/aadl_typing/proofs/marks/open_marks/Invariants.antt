use Rattle.std.proofs.Common.{◌≡◌, ◌++◌, drop}
use Rattle.aadl_typing.specs.Marks.{open_marks}
use Rattle.aadl_typing.proofs.marks.open_marks.Given as goal

abbrev pub invariant-loop-next : goal.invariant-loop-next
invariant-loop-next l = l.marks.items ++ open_marks (drop l._next-index l.nexts) ≡ open_marks l.nexts
