use Rattle.std.proofs.Common.{ap, ◌∙◌}
use Rattle.aadl_typing.specs.declared.standing.Standing.{Standing}
use Rattle.aadl_typing.specs.Containing.{edges_by}
use Rattle.aadl_typing.proofs.LoopTold.{edges_ended}
use Rattle.aadl_typing.proofs.edges.edges_of.Goals as goal

pub returns : goal.returns
returns c =
    edges_ended c.args.scope.now.references.now c.args.scope.now.tables.now c.in_ok-standing.standing c.args.declarations.now c.loop-declaration.edges
    c.loop-declaration.declaration-index c.loop-declaration.invariant c.loop-declaration-test.false
    ∙ ap (λ (s : Standing). edges_by c.args.scope.now.references.now c.args.scope.now.tables.now s c.args.declarations.now) c.in_ok-standing.ensures
