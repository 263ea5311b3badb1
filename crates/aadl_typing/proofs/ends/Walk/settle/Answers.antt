use Rattle.std.proofs.Common.{sym, ap, ◌∙◌, List}
use Rattle.aadl_typing.specs.declared.marks.Mark.{Mark}
use Rattle.aadl_typing.specs.Marks.{mark_at}
use Rattle.aadl_typing.proofs.Walking.{walk_known, walk_settles}
use Rattle.aadl_typing.proofs.ends.Walk.settle.Goals as goal

pub returns-in-Ends-clause-ended : goal.returns-in-Ends-clause-ended
returns-in-Ends-clause-ended c = λ nexts start ended.
    walk_known nexts c.args.self.now.marks.items c.args.self.now.path.items start c.args.row c.args.next c.in-Ends.field-0 ended
    (sym (ap (λ (marks : List Mark). mark_at marks c.args.row) c.as_slice.ensures.value) ∙ (sym c.mark_at.ensures ∙ c.in-Ends.is))

pub returns-in-Ends-mark_at-clause-ended : goal.returns-in-Ends-mark_at-clause-ended
returns-in-Ends-mark_at-clause-ended c = λ nexts start ended.
    rw c.set_mark.ensures (walk_settles nexts c.args.self.now.marks.items c.args.self.now.path.items start c.args.row c.args.next c.in-Ends-mark_at.end ended
    (λ f is. c.in_default.not-Ends f (c.mark_at.ensures ∙ (ap (λ (marks : List Mark). mark_at marks c.args.row) c.as_slice.ensures.value ∙ is)))
    (sym (ap (λ (marks : List Mark). mark_at marks c.args.next) c.as_slice-2.ensures.value) ∙ (sym c.mark_at-2.ensures ∙ c.in-Ends-mark_at.is)))
