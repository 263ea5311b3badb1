use Rattle.std.proofs.Common.{not}
use Rattle.std.specs.List.{count_by}
use Rattle.flow_paths.specs.Search.{HasSources}
use Rattle.flow_paths.proofs.senders.sources.Given as goal

abbrev pub invariant-loop-sender : goal.invariant-loop-sender
invariant-loop-sender l = HasSources l.arch l.fn.pd.0 l.set

abbrev pub decreases-loop-sender : goal.decreases-loop-sender
decreases-loop-sender l = count_by not l.set
