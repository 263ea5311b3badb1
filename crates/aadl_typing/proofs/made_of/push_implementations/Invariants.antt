use Rattle.std.proofs.Common.{◌≡◌, ◌++◌, map, drop}
use Rattle.aadl_typing.specs.Unlaid.{implementation_made}
use Rattle.aadl_typing.proofs.made_of.push_implementations.Given as goal

abbrev pub invariant-loop-declared : goal.invariant-loop-declared
invariant-loop-declared l =
    l.rows ++ map (implementation_made l.scope.references.now l.scope.tables.now) (drop l.declared-index l.scope.tables.now.implementations) ≡
    l.fn.rows ++ map (implementation_made l.scope.references.now l.scope.tables.now) l.scope.tables.now.implementations
