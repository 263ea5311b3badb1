use Rattle.std.proofs.Common.{◌≡◌, ◌≤◌, ◌+◌, ◌*◌, drop}
use Rattle.std.specs.List.{sum_by}
use Rattle.domain_sched.specs.Slots.{need_of}
use Rattle.domain_sched.proofs.need.need.Given as goal

abbrev pub invariant-loop-pd : goal.invariant-loop-pd
invariant-loop-pd l = record {
  sum : l.need + sum_by (λ pd. pd.upper) (drop l.pd-index l.pd-items) ≡ need_of l.arch;
  small : l.need ≤ l.pd-index * 18446744073709551615;
}
