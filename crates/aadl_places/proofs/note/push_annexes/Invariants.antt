use Rattle.std.proofs.Common.{◌≡◌, ◌++◌, map, drop}
use Rattle.aadl_places.specs.Notes.{annex_note}
use Rattle.aadl_places.proofs.note.push_annexes.Given as goal

abbrev pub invariant-loop-annex : goal.invariant-loop-annex
invariant-loop-annex l = l.notes ++ map annex_note (drop l.annex-index l.annexes) ≡ l.initial.notes ++ map annex_note l.annexes
