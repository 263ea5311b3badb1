use Rattle.std.proofs.Common.{◌%◌, refl}
use Rattle.hw_types.proofs.Numbers.{push_step}
use Rattle.hw_types.proofs.bytes.push_number.Goals as goal

pub loop-index-preserved : goal.loop-index-preserved
loop-index-preserved c =
    push_step c.loop-index.bytes c.push.new.self _ c.args.width c.loop-index._index c.loop-index.rest (c.loop-index.rest % 256)
    c.loop-index-test.true c.in_ok-push.ensures.ok refl c.loop-index.invariant
