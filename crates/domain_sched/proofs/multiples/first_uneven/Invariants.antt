use Rattle.std.proofs.Common.{IfSome, IfNone}
use Rattle.domain_sched.specs.Multiples.{AreEvenAmong, IsFirstAmong}
use Rattle.domain_sched.proofs.multiples.first_uneven.Given as goal

abbrev pub invariant-loop-place : goal.invariant-loop-place
invariant-loop-place l = record {
  some : IfSome l.first (λ origin. IsFirstAmong l.arch l.place origin.now);
  none : IfNone l.first (AreEvenAmong l.arch l.place);
}
