use Rattle.std.proofs.Common.{◌≡◌, ℕ, ◌<◌, ◌||◌, length, drop}
use Rattle.aadl_domains.specs.Counting.{has}
use Rattle.aadl_domains.specs.Roots.{uses_from}
use Rattle.aadl_domains.proofs.rooting.used.Given as goal

abbrev pub invariant-loop-at : goal.invariant-loop-at
invariant-loop-at l = record {
  long : length l.used ≡ length l.tables.implementations;
  told : (n : ℕ) → n < length l.tables.implementations →
      (has l.used n || uses_from l.resolved n l.at (drop l.at l.tables.subcomponents)) ≡ uses_from l.resolved n 0 l.tables.subcomponents;
}
