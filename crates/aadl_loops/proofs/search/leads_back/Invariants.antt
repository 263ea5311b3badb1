use Rattle.std.proofs.Common.{ℕ, ◌<◌, get_or}
use Rattle.aadl_loops.specs.Met.{Meets}
use Rattle.aadl_loops.proofs.Marks.{IsFollowed}
use Rattle.aadl_loops.proofs.search.leads_back.Given as goal

abbrev pub invariant-loop-lead : goal.invariant-loop-lead
invariant-loop-lead l = record {
  more : Meets l.fn.reached l.reached l.leads;
  followed : (k : ℕ) → k < l.lead-index → IsFollowed l.row l.reached (get_or l.leads k 0);
}
