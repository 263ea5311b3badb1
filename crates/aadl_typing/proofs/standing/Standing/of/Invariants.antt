use Rattle.std.proofs.Common.{◌≡◌, ◌++◌, drop}
use Rattle.aadl_typing.specs.Containing.{type_places, implementation_places}
use Rattle.aadl_typing.proofs.standing.Standing.of.Given as goal

abbrev pub invariant-loop-place : goal.invariant-loop-place
invariant-loop-place l = record {
  types : l.types ++ type_places l.place (drop l.place l.declarations) ≡ type_places 0 l.declarations;
  implementations : l.implementations ++ implementation_places l.place (drop l.place l.declarations) ≡ implementation_places 0 l.declarations;
}
