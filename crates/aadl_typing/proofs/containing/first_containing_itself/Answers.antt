use Rattle.std.proofs.Common.{ℕ, List, ap, ◌∙◌, subst, option_and_then, slice_get}
use Rattle.aadl_tree.specs.declared.package.Declaration.{Declaration}
use Rattle.aadl_loops.specs.Loops.{HasNoLoop, IsFirstOnLoop}
use Rattle.aadl_typing.specs.Containing.{edges_of, refusal_of}
use Rattle.aadl_typing.proofs.LoopTold.{told_itself}
use Rattle.aadl_typing.proofs.containing.first_containing_itself.Goals as goal

pub returns : goal.returns
returns c =
    subst HasNoLoop (c.rows.ensures ∙ (c.in_ok-edges.ensures ∙ ap (edges_of c.args.scope.now.references.now c.args.scope.now.tables.now) c.rows-declarations.ensures))
    (rw c.in-None.is at c.in_ok-place.ensures)

pub returns-in-Some : goal.returns-in-Some
returns-in-Some c =
    told_itself c.args.scope.now.references.now c.args.scope.now.tables.now c.args.model.now c.in-Some.place c.in_ok-found-in-Some.found
    (subst (λ (edges : List (List ℕ)). IsFirstOnLoop edges c.in-Some.place)
    (c.rows.ensures ∙ (c.in_ok-edges.ensures ∙ ap (edges_of c.args.scope.now.references.now c.args.scope.now.tables.now) c.rows-declarations.ensures))
    (rw c.in-Some.is at c.in_ok-place.ensures))
    (c.in_ok-found-in-Some.ensures ∙ ap (λ (ds : List Declaration). option_and_then refusal_of (slice_get ds c.in-Some.place)) c.rows-declarations.ensures)
