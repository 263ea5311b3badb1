use Rattle.hamr_cli.specs.Model.{HasThinQueue}
use Rattle.hamr_cli.proofs.Alls.{all-more, all-whole}
use Rattle.hamr_cli.proofs.thin.checks.have_thin_queues.Goals as goal

pub loop-feature-preserved : goal.loop-feature-preserved
loop-feature-preserved c =
    all-more HasThinQueue c.args.features.now c.loop-feature.feature-index c.feature-item.result c.loop-feature-test.true c.feature-item.is c.loop-feature.invariant (c.has_thin_queue.ensures.0 c.if-not-has_thin_queue.false)

pub returns : goal.returns
returns c = all-whole HasThinQueue c.args.features.now c.loop-feature.feature-index c.loop-feature-test.false c.loop-feature.invariant
