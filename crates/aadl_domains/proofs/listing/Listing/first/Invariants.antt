use Rattle.std.proofs.Common.{◌≡◌, take}
use Rattle.aadl_domains.specs.Components.{components_of}
use Rattle.aadl_domains.proofs.listing.Listing.first.Given as goal

abbrev pub invariant-loop-place : goal.invariant-loop-place
invariant-loop-place l = l.first ≡ take l.place (components_of l.self.sought l.self.tables.now l.self.resolved.now l.root)
