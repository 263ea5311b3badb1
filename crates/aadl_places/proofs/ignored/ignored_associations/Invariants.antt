use Rattle.std.proofs.Common.{◌≡◌, ◌++◌, drop, filter_map}
use Rattle.aadl_places.specs.Notes.{if_ignored}
use Rattle.aadl_places.proofs.ignored.ignored_associations.Given as goal

abbrev pub invariant-loop-row : goal.invariant-loop-row
invariant-loop-row l =
    let test = if_ignored l.scope.references.now l.scope.resolved.now l.scope.tables.now in
    l.ignored ++ filter_map test (drop l.row-index l.scope.tables.now.associations) ≡ filter_map test l.scope.tables.now.associations
