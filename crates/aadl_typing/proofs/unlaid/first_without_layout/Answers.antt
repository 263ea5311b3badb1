use Rattle.std.proofs.Common.{List, Option, ℕ, ◌∙◌, subst}
use Rattle.aadl_typing.specs.Flaws.{AreFlaws}
use Rattle.aadl_typing.proofs.UseTold.{use_told}
use Rattle.aadl_typing.proofs.unlaid.first_without_layout.Goals as goal

pub returns : goal.returns
returns c =
    use_told c.args.scope.now.references.now c.args.scope.now.tables.now c.args.bases.now c.args.known c.in_ok-first.first c.in_ok-first-2.first c.in_ok-first-3.first
    c.as_slice.result.now c.in_ok-flaws.flaws.items c.rows-3.result.now c.rows-4.result.now c.as_slice.ensures.value
    (subst (λ (rows : List (Option (List ℕ))). AreFlaws rows c.in_ok-flaws.flaws.items) (c.rows-2.ensures ∙ c.in_ok-rows.ensures) c.in_ok-flaws.ensures)
    c.rows-3.ensures c.rows-4.ensures c.in_ok-first.ensures c.in_ok-first-2.ensures c.in_ok-first-3.ensures
