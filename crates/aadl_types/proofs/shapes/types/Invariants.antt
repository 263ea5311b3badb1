use Rattle.std.proofs.Common.{◌≡◌, ◌++◌, map, drop}
use Rattle.aadl_types.specs.Shaping.{type_shape}
use Rattle.aadl_types.proofs.shapes.types.Given as goal

abbrev pub invariant-loop-declared : goal.invariant-loop-declared
invariant-loop-declared l =
    l.shapes ++ map (type_shape l.references l.tables) (drop l.declared-index l.tables.types) ≡ map (type_shape l.references l.tables) l.tables.types
