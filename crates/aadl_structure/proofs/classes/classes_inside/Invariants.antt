use Rattle.std.proofs.Common.{◌≡◌, ◌++◌, map, drop}
use Rattle.aadl_structure.specs.Mentions.{classes_in}
use Rattle.aadl_structure.proofs.classes.classes_inside.Given as goal

abbrev pub invariant-loop-implementation : goal.invariant-loop-implementation
invariant-loop-implementation l =
    l.classes ++ map (classes_in l.scope.references.now l.scope.tables.now) (drop l.implementation-index l.scope.tables.now.implementations)
    ≡ map (classes_in l.scope.references.now l.scope.tables.now) l.scope.tables.now.implementations
