use Rattle.aadl_typing.proofs.ends.Walk.go.Goals as goal

pub returns : goal.returns
returns c = (rw c.in_default.is at c.in_ok-next.ensures.ended) c.args.start c.loop-next.invariant
