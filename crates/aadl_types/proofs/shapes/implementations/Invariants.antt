use Rattle.std.proofs.Common.{◌≡◌, ◌++◌, map, drop}
use Rattle.aadl_types.specs.Shaping.{implementation_shape}
use Rattle.aadl_types.proofs.shapes.implementations.Given as goal

abbrev pub invariant-loop-declared : goal.invariant-loop-declared
invariant-loop-declared l =
    l.shapes ++ map (implementation_shape l.references l.tables) (drop l.declared-index l.tables.implementations)
    ≡ map (implementation_shape l.references l.tables) l.tables.implementations
