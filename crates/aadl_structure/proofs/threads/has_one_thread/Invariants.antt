use Rattle.std.proofs.Common.{◌≡◌, ◌+◌, ◌≤◌, drop}
use Rattle.std.specs.List.{count_by}
use Rattle.aadl_structure.specs.Parents.{is_thread}
use Rattle.aadl_structure.proofs.threads.has_one_thread.Given as goal

abbrev pub invariant-loop-subcomponent : goal.invariant-loop-subcomponent
invariant-loop-subcomponent l = record {
  counted : l.threads + count_by is_thread (drop l.subcomponent-index l.implementation.subcomponents) ≡ count_by is_thread l.implementation.subcomponents;
  few : l.threads ≤ l.subcomponent-index;
}
