use Rattle.std.proofs.Common.{◌≡◌, ◌++◌, length, replicate}
use Rattle.arch_model.specs.LookUp.{receivers_of}
use Rattle.arch_model.specs.Receivers.{receivers_left}
use Rattle.rts_rules.proofs.state.copies_for.Given as goal

abbrev pub invariant-loop-receiver : goal.invariant-loop-receiver
invariant-loop-receiver l = record {
  left : receivers_of l.arch.links l.fn.port ≡ l.yielded ++ receivers_left l._receiver-iterator;
  copies : l.copies ≡ replicate (length l.yielded) l.value;
}
