use Rattle.flow_paths.proofs.Chains.{stays, fed, added}
use Rattle.flow_paths.proofs.senders.sources.Goals as goal

pub loop-sender-preserved : goal.loop-sender-preserved
loop-sender-preserved c =
    let have = c.loop-sender.invariant in
    let feeds = c.in-Some.ensures.feeds in
    added c.args.arch.now c.loop-sender.set c.add-in-Some.new.self c.args.pd.0 c.in-Some.sender.0 (rw have.count c.in-Some.ensures.within)
    (fed c.args.arch.now c.loop-sender.set c.args.pd.0 c.in-Some.sender.0 feeds have.only) c.add-in-Some.ensures have

pub returns : goal.returns
returns c = λ source. (
  c.loop-sender.invariant.only source,
  λ is.
      stays c.args.arch.now c.loop-sender.set c.args.pd.0 c.in_default.ensures.closed c.loop-sender.invariant.itself is.links source is.lead,
)
