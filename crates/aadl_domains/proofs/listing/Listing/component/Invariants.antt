use Rattle.std.proofs.Common.{◌≡◌, ℕ, ◌≤◌, List, ◌++◌}
use Rattle.std.specs.List.{slice_get}
use Rattle.std.specs.Option.{option_map}
use Rattle.aadl_domains.specs.Components.{components_within, components_of}
use Rattle.aadl_domains.proofs.listing.Listing.component.Given as goal

abbrev pub invariant-loop-depth : goal.invariant-loop-depth
invariant-loop-depth l = record {
  deep : l.depth ≤ 33;
  same : option_map (λ (last : List ℕ). l.path ++ last) (slice_get (components_within l.self.sought l.self.tables.now l.self.resolved.now l.depth l.within) l.rest)
      ≡ slice_get (components_of l.self.sought l.self.tables.now l.self.resolved.now l.fn.root) l.fn.place;
}

abbrev pub decreases-loop-depth : goal.decreases-loop-depth
decreases-loop-depth l = l.depth
