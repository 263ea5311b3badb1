use Rattle.aadl_typing.proofs.Beginning.{opened_more}
use Rattle.aadl_typing.proofs.marks.open_marks.Goals as goal

pub loop-next-preserved : goal.loop-next-preserved
loop-next-preserved c =
    opened_more c.args.nexts.now c.loop-next.marks.items c.push.new.self.items c.loop-next._next-index c.loop-next-test.true c.in_ok-push.ensures.items c.loop-next.invariant
