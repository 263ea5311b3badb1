use Rattle.std.proofs.Common.{◌≡◌, ◌++◌, ℤ, List, length, replicate}
use Rattle.arch_model.specs.LookUp.{receivers_of}
use Rattle.arch_model.specs.Receivers.{receivers_left}
use Rattle.rts_rules.specs.Left.{released}
use Rattle.rts_rules.proofs.state.ServiceState.append.Given as goal

abbrev pub invariant-loop-receiver : goal.invariant-loop-receiver
invariant-loop-receiver l = record {
  left : receivers_of l.arch.links l.fn.port ≡ l.yielded ++ receivers_left l.receiver-iterator;
  threads : l.self-inside.threads.items ≡ l.fn.self.threads;
  many : length l.copies ≡ length (receivers_left l.receiver-iterator);
  queued : length l.self-inside.queues.items ≡ length l.fn.self.queues;
  queues : (value : List ℤ) → l.fn.copies ≡ replicate (length (receivers_of l.arch.links l.fn.port)) value →
      (l.copies ≡ replicate (length (receivers_left l.receiver-iterator)) value) × (l.self-inside.queues.items ≡ released l.yielded value l.fn.self.queues);
}
