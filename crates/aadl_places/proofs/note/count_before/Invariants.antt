use Rattle.std.proofs.Common.{◌≡◌, ◌+◌, drop}
use Rattle.aadl_places.specs.Notes.{count_before}
use Rattle.aadl_places.proofs.note.count_before.Given as goal

abbrev pub invariant-loop-number : goal.invariant-loop-number
invariant-loop-number l = l.number + count_before l.place (drop l.number l.annexes) ≡ count_before l.place l.annexes
