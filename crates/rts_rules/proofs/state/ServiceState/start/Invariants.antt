use Rattle.std.proofs.Common.{◌≡◌, ◌++◌, drop}
use Rattle.rts_rules.specs.Services.{threads_from, queues_from}
use Rattle.rts_rules.proofs.state.ServiceState.start.Given as goal

abbrev pub invariant-loop-number : goal.invariant-loop-number
invariant-loop-number l =
    l.threads.items ++ threads_from l.number l.arch (drop l.number l.arch.pds) ≡ threads_from 0 l.arch l.arch.pds

abbrev pub invariant-loop-number-2 : goal.invariant-loop-number-2
invariant-loop-number-2 l = record {
  threads : l.threads.items ≡ threads_from 0 l.arch l.arch.pds;
  queues : l.queues.items ++ queues_from l.number l.arch (drop l.number l.arch.ports) ≡ queues_from 0 l.arch l.arch.ports;
}
