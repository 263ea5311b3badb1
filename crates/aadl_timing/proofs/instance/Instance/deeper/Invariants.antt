use Rattle.std.proofs.Common.{◌≡◌, ℕ, ◌<◌, List, length, take}
use Rattle.aadl_domains.specs.declared.sought.Sought.TheVariants as sought
use Rattle.aadl_domains.specs.Components.{in_rows}
use Rattle.aadl_timing.specs.Bounds.{bound_of, IsBoundOf, AreBounds}
use Rattle.aadl_timing.proofs.instance.Instance.deeper.Given as goal

abbrev pub invariant-loop-at : goal.invariant-loop-at
invariant-loop-at l = record {
  long : length l.bounds ≡ length l.self.tables.now.implementations;
  bounds : (inside : ℕ → List (List ℕ)) → AreBounds l.self.tables.now l.self.resolved.now l.below inside → (n : ℕ) → n < length l.bounds →
      IsBoundOf l.self.tables.now l.self.resolved.now (bound_of l.bounds n) (in_rows sought.Domain inside l.self.resolved.now n 0 (take l.at l.self.tables.now.subcomponents));
}
