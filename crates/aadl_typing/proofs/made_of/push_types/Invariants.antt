use Rattle.std.proofs.Common.{◌≡◌, ◌++◌, map, drop}
use Rattle.aadl_typing.specs.Unlaid.{type_made}
use Rattle.aadl_typing.proofs.made_of.push_types.Given as goal

abbrev pub invariant-loop-declared : goal.invariant-loop-declared
invariant-loop-declared l =
    l.rows ++ map (type_made l.scope.references.now l.scope.tables.now) (drop l.declared-index l.scope.tables.now.types) ≡
    l.fn.rows ++ map (type_made l.scope.references.now l.scope.tables.now) l.scope.tables.now.types
