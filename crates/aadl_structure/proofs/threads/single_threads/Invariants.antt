use Rattle.std.proofs.Common.{◌≡◌, ◌++◌, map, drop}
use Rattle.aadl_structure.specs.Parents.{has_one_thread}
use Rattle.aadl_structure.proofs.threads.single_threads.Given as goal

abbrev pub invariant-loop-implementation : goal.invariant-loop-implementation
invariant-loop-implementation l = l.single ++ map has_one_thread (drop l.implementation-index l.implementations) ≡ map has_one_thread l.implementations
