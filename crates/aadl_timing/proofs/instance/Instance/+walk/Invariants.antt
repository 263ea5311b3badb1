use Rattle.std.proofs.Common.{◌≡◌, ◌+◌, ◌*◌, ◌-◌, drop}
use Rattle.aadl_names.specs.Offences.{earliest_from}
use Rattle.aadl_domains.specs.declared.sought.Sought.TheVariants as sought
use Rattle.aadl_domains.specs.Components.{in_rows, components_within}
use Rattle.aadl_timing.specs.Untimed.{untimed_behind}
use Rattle.aadl_timing.proofs.instance.Instance.+walk.Given as goal

abbrev pub decreases-first_within : goal.decreases-first_within
decreases-first_within l = 2 * l.depth

abbrev pub decreases-first_below : goal.decreases-first_below
decreases-first_below l = 2 * l.depth + 1

abbrev pub invariant-first_within-loop-at : goal.invariant-first_within-loop-at
invariant-first_within-loop-at l =
    let t = l.self.tables.now in
    let to = l.self.resolved.now in
    let inside = components_within sought.Domain t to (l.depth - 1) in
    earliest_from l.first (untimed_behind t to l.before (in_rows sought.Domain inside to l.implementation l.at (drop l.at t.subcomponents)))
    ≡ earliest_from l.fn.known (untimed_behind t to l.before (in_rows sought.Domain inside to l.implementation 0 t.subcomponents))
