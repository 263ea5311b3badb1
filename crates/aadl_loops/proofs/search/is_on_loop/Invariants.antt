use Rattle.std.proofs.Common.{◌-◌}
use Rattle.aadl_loops.proofs.Searched.{IsSearched}
use Rattle.aadl_loops.proofs.search.is_on_loop.Given as goal

abbrev pub invariant-loop-at : goal.invariant-loop-at
invariant-loop-at l = IsSearched l.edges l.row l.reached l.at

abbrev pub decreases-loop-at : goal.decreases-loop-at
decreases-loop-at l = l.reached.limit - l.at
