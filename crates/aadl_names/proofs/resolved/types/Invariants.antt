use Rattle.std.proofs.Common.{◌≡◌, ◌++◌, map, drop}
use Rattle.aadl_names.specs.Meanings.{type_of}
use Rattle.aadl_names.proofs.resolved.types.Given as goal

abbrev pub invariant-loop-implementation : goal.invariant-loop-implementation
invariant-loop-implementation l = l.types ++ map (type_of l.references l.tables) (drop l.implementation-index l.tables.implementations) ≡ map (type_of l.references l.tables) l.tables.implementations
