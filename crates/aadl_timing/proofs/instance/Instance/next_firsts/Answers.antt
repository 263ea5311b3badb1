use Rattle.std.proofs.Common.{ap, List, length, ◌≤◌, arith}
use Rattle.aadl_timing.proofs.Deep.{firsts_kept, firsts_whole}
use Rattle.aadl_timing.proofs.instance.Instance.next_firsts.Goals as goal

pub loop-at-preserved : goal.loop-at-preserved
loop-at-preserved c =
    let kept = c.loop-at.invariant in
    firsts_kept c.args.self.now.resolved.now c.args.levels c.args.self.now.tables.now.subcomponents c.rows-row-items.result.now c.row-item.result c.get.result.now
    c.args.below.now c.loop-at.firsts c.meet.new.self (length c.args.self.now.tables.now.implementations) c.loop-at.at c.first_at-found.result
    c.rows-row-items.ensures c.row-item.is c.loop-at-test.true c.get.ensures c.meet.ensures c.first_at-found.ensures kept.long kept.firsts

pub returns : goal.returns
returns c = λ inside are.
    let kept = c.loop-at.invariant in
    let past = c.loop-at-test.false in
    let rows = ap (λ (rs : List _). length rs) c.rows-row-items.ensures in
    let e : length c.args.self.now.tables.now.subcomponents ≤ c.loop-at.at = omega arith in
    firsts_whole c.args.self.now.tables.now c.args.self.now.resolved.now c.args.levels inside c.loop-at.firsts c.loop-at.at kept.long e (kept.firsts inside are)
