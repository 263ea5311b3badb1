use Rattle.std.proofs.Common.{◌≢◌, ℕ, ◌<◌, [], refl, sym, subst, ◌∙◌, length, arith}
use Rattle.std.specs.List.{Contains, All}
use Rattle.std.proofs.lemmas.List.{get_or_default}
use Rattle.aadl_loops.proofs.Searched.{search_begins, search_more, search_found, search_ended}
use Rattle.aadl_loops.proofs.search.is_on_loop.Goals as goal

pub loop-at-init : goal.loop-at-init
loop-at-init c = search_begins c.args.edges.now c.args.row c.in_ok-reached.reached c.meet.new.self c.requires c.in_ok-reached.ensures c.in_ok-meet.ensures.more c.in_ok-meet.ensures.met

pub returns-then-branch : goal.returns-then-branch
returns-then-branch c =
    let limit = c.loop-at.invariant.limit in
    let inside : c.row-next.result < length c.args.edges.now = omega arith in
    let leads = c.rows.ensures ∙ (c.index-edges-next.is ∙ get_or_default c.args.edges.now c.row-next.result c.index-edges-next.result [] inside) in (
      λ _. search_found c.args.edges.now c.args.row c.loop-at.reached c.loop-at.at c.row-next.result c.rows.result.now c.loop-at.invariant (omega arith)
          c.row-next.ensures.row leads (c.in_ok-leads_back.ensures.back c.if-branch.true),
      λ _. refl,
    )

pub loop-at-preserved : goal.loop-at-preserved
loop-at-preserved c =
    let limit = c.loop-at.invariant.limit in
    let inside : c.row-next.result < length c.args.edges.now = omega arith in
    let leads = c.rows.ensures ∙ (c.index-edges-next.is ∙ get_or_default c.args.edges.now c.row-next.result c.index-edges-next.result [] inside) in
    let more = c.in_ok-leads_back.ensures.more in
    search_more c.args.edges.now c.args.row c.loop-at.reached c.leads_back.new.reached c.loop-at.at c.row-next.result c.rows.result.now c.loop-at.invariant (omega arith)
    c.row-next.ensures.row leads more
    (subst (λ (n : ℕ). All (λ lead. (lead ≢ c.args.row) × (lead < n → Contains c.leads_back.new.reached.rows lead)) c.rows.result.now) (sym more.limit)
    (c.in_ok-leads_back.ensures.other c.if-branch.false))

pub returns : goal.returns
returns c = (λ never. absurd (cc), λ loop. absurd (search_ended c.args.edges.now c.args.row c.loop-at.reached c.loop-at.at c.loop-at.invariant (omega arith) loop))
