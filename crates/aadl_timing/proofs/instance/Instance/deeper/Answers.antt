use Rattle.std.proofs.Common.{ap, List, length, ◌≤◌, arith}
use Rattle.aadl_timing.proofs.Bounded.{bounds_kept, bounds_whole}
use Rattle.aadl_timing.proofs.instance.Instance.deeper.Goals as goal

pub loop-at-preserved : goal.loop-at-preserved
loop-at-preserved c =
    let kept = c.loop-at.invariant in
    bounds_kept c.args.self.now.tables.now c.args.self.now.resolved.now c.args.self.now.tables.now.subcomponents c.rows-row-items.result.now c.row-item.result c.get.result.now
    c.args.below.now c.loop-at.bounds c.add.new.self (length c.args.self.now.tables.now.implementations) c.loop-at.at c.in_ok-bound.bound
    c.rows-row-items.ensures c.row-item.is c.loop-at-test.true c.get.ensures c.add.ensures c.in_ok-bound.ensures kept.long kept.bounds

pub returns : goal.returns
returns c = λ inside are.
    let kept = c.loop-at.invariant in
    let past = c.loop-at-test.false in
    let rows = ap (λ (rs : List _). length rs) c.rows-row-items.ensures in
    let e : length c.args.self.now.tables.now.subcomponents ≤ c.loop-at.at = omega arith in
    bounds_whole c.args.self.now.tables.now c.args.self.now.resolved.now inside c.loop-at.bounds c.loop-at.at kept.long e (kept.bounds inside are)
