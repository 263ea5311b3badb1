use Rattle.hw_types.proofs.Numbers.{pad_step}
use Rattle.hw_types.proofs.bytes.pad.Goals as goal

pub loop-at-preserved : goal.loop-at-preserved
loop-at-preserved c =
    pad_step c.loop-at.bytes c.push.new.self _ c.args.end c.loop-at._at c.loop-at-test.true c.in_ok-push.ensures.ok c.loop-at.invariant
