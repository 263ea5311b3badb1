use Rattle.std.proofs.Common.{◌≡◌, drop}
use Rattle.aadl_domains.specs.Ports.{thread_from, thread_of}
use Rattle.aadl_domains.proofs.ports.thread_of.Given as goal

abbrev pub invariant-loop-at : goal.invariant-loop-at
invariant-loop-at l = thread_from l.implementation l.at (drop l.at l.rows) ≡ thread_of l.implementation l.rows
