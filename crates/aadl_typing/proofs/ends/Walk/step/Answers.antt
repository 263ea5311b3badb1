use Rattle.std.proofs.Common.{sym, ap, ◌∙◌, List}
use Rattle.aadl_typing.specs.declared.marks.Mark.{Mark}
use Rattle.aadl_typing.specs.Marks.{mark_at}
use Rattle.aadl_typing.proofs.Walking.{walk_stops, walk_on, walk_closes}
use Rattle.aadl_typing.proofs.ends.Walk.step.Goals as goal

pub returns-in-Met-clause-ended : goal.returns-in-Met-clause-ended
returns-in-Met-clause-ended c = λ start walking.
    walk_closes c.args.nexts.now c.args.self.now.marks.items c.close.new.marks.items c.args.self.now.path.items start c.args.at c.in-Met.place walking
    (sym (ap (λ (marks : List Mark). mark_at marks c.args.at) c.as_slice.ensures.value) ∙ (sym c.mark_at.ensures ∙ c.in-Met.is))
    c.close.ensures.long (rw c.as_slice-in-Met.ensures.value at c.close.ensures.closed) (rw c.as_slice-in-Met.ensures.value at c.close.ensures.others)

pub returns-in-None-clause-ended : goal.returns-in-None-clause-ended
returns-in-None-clause-ended c = λ start walking.
    rw c.set_mark.ensures (walk_stops c.args.nexts.now c.args.self.now.marks.items c.args.self.now.path.items start c.args.at walking
    (sym (ap (λ (marks : List Mark). mark_at marks c.args.at) c.as_slice.ensures.value) ∙ (sym c.mark_at.ensures ∙ c.in-Open.is))
    (sym c.at_row.ensures ∙ c.in-None.is))

pub returns-in_ok-push-in-Some-clause-on : goal.returns-in_ok-push-in-Some-clause-on
returns-in_ok-push-in-Some-clause-on c = λ start walking.
    rw (c.set_mark-in-Some.ensures, c.in_ok-push-in-Some.ensures.items, c.as_slice-place.ensures.value)
    (walk_on c.args.nexts.now c.args.self.now.marks.items c.args.self.now.path.items start c.args.at c.in-Some.next walking
    (sym (ap (λ (marks : List Mark). mark_at marks c.args.at) c.as_slice.ensures.value) ∙ (sym c.mark_at.ensures ∙ c.in-Open.is))
    (sym c.at_row.ensures ∙ c.in-Some.is))
