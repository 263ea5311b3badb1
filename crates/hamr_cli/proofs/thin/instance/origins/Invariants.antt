use Rattle.std.proofs.Common.{◌≡◌, take, map}
use Rattle.hamr_cli.specs.Instance.{origin_of}
use Rattle.hamr_cli.proofs.thin.instance.origins.Given as goal

abbrev pub invariant-loop-subcomponent : goal.invariant-loop-subcomponent
invariant-loop-subcomponent l = l.origins ≡ map (origin_of l.package_name) (take l._subcomponent-index l.subcomponents)
