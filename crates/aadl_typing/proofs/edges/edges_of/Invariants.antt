use Rattle.std.proofs.Common.{◌≡◌, ◌++◌, drop}
use Rattle.aadl_typing.specs.Containing.{edges_by}
use Rattle.aadl_typing.proofs.edges.edges_of.Given as goal

abbrev pub invariant-loop-declaration : goal.invariant-loop-declaration
invariant-loop-declaration l =
    l.edges ++ edges_by l.scope.references.now l.scope.tables.now l.standing (drop l.declaration-index l.declarations) ≡
    edges_by l.scope.references.now l.scope.tables.now l.standing l.declarations
