use Rattle.std.proofs.Common.{◌≡◌, drop, []}
use Rattle.aadl_types.specs.Shaping.{parts_from}
use Rattle.aadl_types.proofs.parts.parts_of.Given as goal

abbrev pub invariant-loop-subcomponent : goal.invariant-loop-subcomponent
invariant-loop-subcomponent l =
    parts_from l.references l.tables l.parts (drop l.subcomponent-index l.subcomponents) ≡ parts_from l.references l.tables [] l.subcomponents
