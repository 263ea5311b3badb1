use Rattle.std.proofs.Common.{◌≡◌, ◌++◌, map, drop}
use Rattle.aadl_typing.specs.DataGraph.{type_next}
use Rattle.aadl_typing.proofs.data_graph.push_types.Given as goal

abbrev pub invariant-loop-declared : goal.invariant-loop-declared
invariant-loop-declared l =
    l.nexts ++ map (type_next l.scope.references.now l.scope.tables.now) (drop l.declared-index l.scope.tables.now.types) ≡
    l.fn.nexts ++ map (type_next l.scope.references.now l.scope.tables.now) l.scope.tables.now.types
