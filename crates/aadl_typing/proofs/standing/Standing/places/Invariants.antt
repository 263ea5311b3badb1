use Rattle.std.proofs.Common.{◌≡◌, ◌++◌, drop}
use Rattle.aadl_typing.specs.Containing.{places_in}
use Rattle.aadl_typing.proofs.standing.Standing.places.Given as goal

abbrev pub invariant-loop-class : goal.invariant-loop-class
invariant-loop-class l = l.places ++ places_in l.self (drop l.class-index l.classes) ≡ places_in l.self l.classes
