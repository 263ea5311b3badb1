use Rattle.std.proofs.Common.{refl, subst, get_or, arith}
use Rattle.std.proofs.lemmas.List.{get_or_default}
use Rattle.std.proofs.lemmas.List.Elements.{Contains-get_or}
use Rattle.aadl_loops.proofs.Marks.{meets_then, followed_more, IsFollowed}
use Rattle.aadl_loops.proofs.search.leads_back.Goals as goal

pub loop-lead-preserved : goal.loop-lead-preserved
loop-lead-preserved c = record {
  more = meets_then c.args.reached.now c.loop-lead.reached c.meet.new.self c.args.leads.now (get_or c.args.leads.now c.loop-lead.lead-index 0)
      c.loop-lead.invariant.more (Contains-get_or c.args.leads.now c.loop-lead.lead-index 0 c.loop-lead-test.true) c.in_ok-meet.ensures.more;
  followed = followed_more c.args.leads.now c.loop-lead.lead-index c.args.row (get_or c.args.leads.now c.loop-lead.lead-index 0) c.loop-lead.reached c.meet.new.self refl
      c.in_ok-meet.ensures.more c.if-lead-row.false c.in_ok-meet.ensures.met c.loop-lead.invariant.followed;
}

pub returns-clause-other : goal.returns-clause-other
returns-clause-other c = λ _ k d below.
    let met = c.loop-lead.invariant.followed k (omega arith) in
    let same = get_or_default c.args.leads.now k 0 d below in
    let limit = c.loop-lead.invariant.more.limit in
    let here = subst (IsFollowed c.args.row c.loop-lead.reached) same met in
    (here.0, λ inside. here.1 (omega arith))
