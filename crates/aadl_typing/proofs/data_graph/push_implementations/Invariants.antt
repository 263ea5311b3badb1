use Rattle.std.proofs.Common.{◌≡◌, ◌++◌, map, drop}
use Rattle.aadl_typing.specs.DataGraph.{implementation_next}
use Rattle.aadl_typing.proofs.data_graph.push_implementations.Given as goal

abbrev pub invariant-loop-declared : goal.invariant-loop-declared
invariant-loop-declared l =
    l.nexts ++ map (implementation_next l.scope.references.now l.scope.tables.now) (drop l.declared-index l.scope.tables.now.implementations) ≡
    l.fn.nexts ++ map (implementation_next l.scope.references.now l.scope.tables.now) l.scope.tables.now.implementations
