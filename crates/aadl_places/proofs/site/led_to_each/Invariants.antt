use Rattle.std.proofs.Common.{◌≡◌, ◌++◌, map, drop}
use Rattle.aadl_places.specs.Sites.{led_to}
use Rattle.aadl_places.proofs.site.led_to_each.Given as goal

abbrev pub invariant-loop-path : goal.invariant-loop-path
invariant-loop-path l =
    let leads = led_to l.scope.references.now l.scope.resolved.now l.scope.tables.now l.from in
    l.sites ++ map leads (drop l.path-index l.paths) ≡ map leads l.paths
