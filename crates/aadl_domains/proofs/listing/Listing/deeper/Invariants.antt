use Rattle.std.proofs.Common.{◌≡◌, ℕ, ◌+◌, ◌<◌, ◌≤◌, List, length, drop}
use Rattle.aadl_domains.specs.Components.{in_rows, counted}
use Rattle.aadl_domains.specs.Counting.{count_of, AreCounts}
use Rattle.aadl_domains.proofs.listing.Listing.deeper.Given as goal

abbrev pub invariant-loop-at : goal.invariant-loop-at
invariant-loop-at l = record {
  long : length l.counts ≡ length l.self.tables.now.implementations;
  small : (n : ℕ) → count_of l.counts n ≤ 18446744073709551615;
  sum : (inside : ℕ → List (List ℕ)) → AreCounts l.below inside → (n : ℕ) → n < length l.counts →
      counted (count_of l.counts n + length (in_rows l.self.sought inside l.self.resolved.now n l.at (drop l.at l.self.tables.now.subcomponents)))
      ≡ counted (length (in_rows l.self.sought inside l.self.resolved.now n 0 l.self.tables.now.subcomponents));
}
