use Rattle.std.proofs.Common.{◌≡◌, ◌+◌, length}
use Rattle.aadl_domains.specs.Counting.{AreRounds}
use Rattle.aadl_domains.proofs.listing.Listing.rounds.Given as goal

abbrev pub invariant-loop-depth : goal.invariant-loop-depth
invariant-loop-depth l = record {
  long : length l.rounds ≡ l.depth + 1;
  counts : AreRounds l.self.sought l.self.tables.now l.self.resolved.now l.rounds;
}
