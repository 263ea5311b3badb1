use Rattle.std.proofs.Common.{◌≡◌, ◌<◌, false, true, refl, sym, subst, ap, ◌∙◌, ◌∷◌, [], ◌++◌, length, arith}
use Rattle.std.specs.List.{Contains}
use Rattle.std.proofs.Math.ListN.{length-set}
use Rattle.std.proofs.lemmas.List.{get_or_default}
use Rattle.aadl_loops.specs.Met.{Met}
use Rattle.aadl_loops.proofs.Marks.{marked_more, meets_one}
use Rattle.aadl_loops.proofs.reached.Reached.meet.Goals as goal
use Rattle.aadl_loops.proofs.reached.Reached.meet.Goals.{else-row-len-via-then-row-len+else-not-index, else-row-len-via-else-row-len}

pub invariant_of-self-then-not-index : goal.invariant_of-self-then-not-index
invariant_of-self-then-not-index c =
    let marks = c.self.inside.marks.items in
    let inside : c.args.row < length marks = omega arith in
    marked_more marks _ c.self.inside.rows.items c.push.new.self.items c.args.row c.self.invariant inside
    (get_or_default marks c.args.row false c.index.result.now inside ∙ (sym c.index.ensures ∙ c.if-not-index.true)) refl c.in_ok-push.ensures.items

pub returns-in_ok-push-clause-more : goal.returns-in_ok-push-clause-more
returns-in_ok-push-clause-more c =
    meets_one c.args.self.now _ c.args.row
    (length-set c.self.inside.marks.items c.args.row true ∙ ap (λ (met : Met). met.limit) c.self.view_is)
    (c.in_ok-push.ensures.items ∙ ap (λ (met : Met). met.rows ++ c.args.row ∷ []) c.self.view_is)

pub returns-else-row-len-clause-met : goal.returns-else-row-len-clause-met
returns-else-row-len-clause-met c =
    elim c.else-row-len.branch [
      | else-row-len-via-then-row-len+else-not-index w ↦ λ below.
          let marks = c.self.inside.marks.items in
          let inside : c.args.row < length marks = omega arith in
          subst (λ (met : Met). Contains met.rows c.args.row) c.self.view_is (c.self.invariant.told c.args.row
          (get_or_default marks c.args.row false w.index.result.now inside ∙ (sym w.index.ensures ∙ w.if-not-index.false)))
      | else-row-len-via-else-row-len w ↦ λ below.
          let limit : length c.self.inside.marks.items ≡ c.args.self.now.limit = ap (λ (met : Met). met.limit) c.self.view_is in
          absurd (omega arith)
    ]
