use Rattle.aadl_timing.proofs.OneMore.{one_more}
use Rattle.aadl_timing.proofs.instance.Instance.clash_among.Goals as goal

pub loop-path-preserved : goal.loop-path-preserved
loop-path-preserved c =
    one_more c.args.self.now.tables.now c.args.paths.now c.loop-path.path-index _ c.rows-in-loop-path.result.now c.rows-in-loop-path-2.result.now
    c.loop-path.seen c.rows.result.now c.push.new.self c.in_ok-name.name c.loop-path.first c.in_ok-offence.offence c.earlier-first.result _
    c.loop-path-test.true c.path-item.is c.rows-in-loop-path.ensures c.rows-in-loop-path-2.ensures c.rows.ensures c.in_ok-offence.ensures c.earlier-first.ensures
    c.in_ok-name.ensures c.in_ok-push.ensures.ok c.loop-path.invariant
