use Rattle.std.proofs.Common.{◌≡◌, ℕ, ◌≤◌, List, drop}
use Rattle.std.specs.List.{slice_get}
use Rattle.aadl_domains.specs.Components.{in_rows}
use Rattle.aadl_domains.specs.Counting.{AreCounts}
use Rattle.aadl_domains.proofs.listing.Listing.passed.Given as goal

abbrev pub invariant-loop-at : goal.invariant-loop-at
invariant-loop-at l = record {
  small : l.rest ≤ l.fn.place;
  same : (inside : ℕ → List (List ℕ)) → AreCounts l.below inside →
      slice_get (in_rows l.self.sought inside l.self.resolved.now l.implementation l.at (drop l.at l.self.tables.now.subcomponents)) l.rest
      ≡ slice_get (in_rows l.self.sought inside l.self.resolved.now l.implementation 0 l.self.tables.now.subcomponents) l.fn.place;
}
