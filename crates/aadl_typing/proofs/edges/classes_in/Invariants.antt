use Rattle.std.proofs.Common.{◌≡◌, ◌++◌, drop}
use Rattle.aadl_typing.specs.Containing.{classes_in}
use Rattle.aadl_typing.proofs.edges.classes_in.Given as goal

abbrev pub invariant-loop-subcomponent : goal.invariant-loop-subcomponent
invariant-loop-subcomponent l =
    l.classes ++ classes_in l.scope.references.now l.scope.tables.now (drop l.subcomponent-index l.subcomponents) ≡
    classes_in l.scope.references.now l.scope.tables.now l.subcomponents
