use Rattle.std.proofs.Common.{length}
use Rattle.aadl_domains.proofs.Opened.{deeper_preserved}
use Rattle.aadl_domains.proofs.listing.Listing.deeper.Goals as goal

pub loop-at-preserved : goal.loop-at-preserved
loop-at-preserved c =
    let kept = c.loop-at.invariant in
    deeper_preserved c.args.self.now.sought c.args.self.now.resolved.now c.args.self.now.tables.now.subcomponents c.rows-row-items.result.now c.row-item.result c.get.result.now
    c.args.below.now c.loop-at.counts c.add.new.self (length c.args.self.now.tables.now.implementations) c.loop-at.at c.worth-worth.result
    c.rows-row-items.ensures c.row-item.is c.loop-at-test.true c.get.ensures c.add.ensures c.worth-worth.ensures kept.long kept.small kept.sum
