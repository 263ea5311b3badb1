use Rattle.std.proofs.Common.{◌≡◌, ◌≤◌, ◌++◌, drop, length}
use Rattle.aadl_places.specs.Notes.{merged}
use Rattle.aadl_places.proofs.note.merged.Given as goal

abbrev pub invariant-loop-association : goal.invariant-loop-association
invariant-loop-association l = record {
  within : l.told ≤ length l.annexes;
  same : l.notes ++ merged (drop l.association-index l.associations) (drop l.told l.annexes) ≡ merged l.associations l.annexes;
}
